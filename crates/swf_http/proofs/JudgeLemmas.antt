-- What a head that was found leads to.
use Rattle.std.proofs.Common.{◌≡◌, ◌∙◌, refl, ℕ, Bool, List, length, map, take}
use Rattle.httparse.specs.Grammar.{RequestHead, ResponseHead}
use Rattle.httparse.specs.Spans.{IsRequestAt, IsResponseAt, header_bytes}
use Rattle.httparse.specs.declared.spans.HeaderSpan.{HeaderSpan}
use Rattle.httparse.specs.declared.spans.RequestSpans.{RequestSpans}
use Rattle.httparse.specs.declared.spans.ResponseSpans.{ResponseSpans}
use Rattle.http1.specs.Fields.{known_fields}
use Rattle.http1.specs.declared.fields.KnownFields.{KnownFields}
use Rattle.swf_http.specs.Following.{follow_fields, follow_of}
use Rattle.swf_http.specs.Framing.{judge_fields, judge}
use Rattle.swf_http.proofs.FieldLemmas.{pairs_same, known_same, count_same}

pub judged_head : (bytes : List ℕ) (headers slice : List HeaderSpan) (spans : RequestSpans) (h : RequestHead) (known : KnownFields) (count : ℕ)
    → IsRequestAt bytes headers spans h → slice ≡ take spans.headers headers → known ≡ known_fields (map (header_bytes bytes) slice)
    → count ≡ length slice → judge_fields spans.version known count ≡ judge h
judged_head bytes headers slice spans h known count at is known_is count_is =
    let pairs = pairs_same bytes slice (take spans.headers headers) h.fields is at.fields in
    rw (at.version, known_same bytes slice h.fields known known_is pairs, count_is ∙ count_same bytes slice h.fields pairs) refl

pub followed_head : (head : Bool) (bytes : List ℕ) (headers slice : List HeaderSpan) (spans : ResponseSpans) (h : ResponseHead) (known : KnownFields)
    (count : ℕ) → IsResponseAt bytes headers spans h → slice ≡ take spans.headers headers → known ≡ known_fields (map (header_bytes bytes) slice)
    → count ≡ length slice → follow_fields head spans.code spans.version known count ≡ follow_of head h
followed_head head bytes headers slice spans h known count at is known_is count_is =
    let pairs = pairs_same bytes slice (take spans.headers headers) h.fields is at.fields in
    rw (at.code, at.version, known_same bytes slice h.fields known known_is pairs, count_is ∙ count_same bytes slice h.fields pairs) refl
