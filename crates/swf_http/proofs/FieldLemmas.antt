-- The fields of a head that was found.
use Rattle.std.proofs.Common.{◌≡◌, ◌∙◌, sym, subst, ap, ℕ, List, length, map, take, All, arith}
use Rattle.std.proofs.lemmas.List.{length-map}
use Rattle.httparse.specs.Grammar.{Field}
use Rattle.httparse.specs.Spans.{IsHeaderWithin, IsSectionWithin, header_bytes, name_and_value}
use Rattle.httparse.specs.declared.spans.HeaderSpan.{HeaderSpan}
use Rattle.http1.specs.Fields.{known_fields}
use Rattle.http1.specs.declared.fields.KnownFields.{KnownFields}
use Rattle.swf_http.specs.Fields.{headers_of}

pub headers_within : (bytes : List ℕ) (headers slice : List HeaderSpan) (len count : ℕ) → IsSectionWithin bytes headers len count
    → slice ≡ take count headers → All (IsHeaderWithin (length bytes)) slice
headers_within bytes headers slice len count within is = subst (All (IsHeaderWithin (length bytes))) (sym is)
    (λ k d under.
    let at = within.headers_fit k d under in
    ((at.0.0, omega (arith, at.0.1, within.len_fits)), (at.1.0, omega (arith, at.1.1, within.len_fits))))

-- a slice that has the spans of the fields has their names and values
pub pairs_same : (bytes : List ℕ) (slice spans : List HeaderSpan) (fields : List Field) → slice ≡ spans
    → map (header_bytes bytes) spans ≡ map name_and_value fields → map (header_bytes bytes) slice ≡ map name_and_value fields
pairs_same bytes slice spans fields is are = ap (map (header_bytes bytes)) is ∙ are

pub known_same : (bytes : List ℕ) (slice : List HeaderSpan) (fields : List Field) (known : KnownFields)
    → known ≡ known_fields (map (header_bytes bytes) slice) → map (header_bytes bytes) slice ≡ map name_and_value fields
    → known ≡ known_fields (map name_and_value fields)
known_same bytes slice fields known is are = is ∙ ap known_fields are

pub count_same : (bytes : List ℕ) (slice : List HeaderSpan) (fields : List Field) → map (header_bytes bytes) slice ≡ map name_and_value fields
    → length slice ≡ length fields
count_same bytes slice fields are = sym (length-map slice (header_bytes bytes)) ∙ ap length are ∙ length-map fields name_and_value

pub headers_same : (a b : List ℕ) (slice spans : List HeaderSpan) (fields : List Field) → a ≡ b → slice ≡ spans
    → map (header_bytes b) spans ≡ map name_and_value fields → headers_of (map (header_bytes a) slice) ≡ headers_of (map name_and_value fields)
headers_same a b slice spans fields bytes is are =
    ap (λ (t : List ℕ). headers_of (map (header_bytes t) slice)) bytes ∙ ap headers_of (pairs_same b slice spans fields is are)
