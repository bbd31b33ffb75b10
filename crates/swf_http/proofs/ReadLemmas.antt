-- From what was read so far to what all bytes say.
use Rattle.std.proofs.Common.{◌≡◌, ℕ, ◌+◌, ◌-◌, ◌<◌, ◌≤◌, List, [], ◌++◌, length, take, drop, refl, sym, ap, ◌∙◌, subst, true, false, arith, append_assoc, append-nil, length-append, length-drop, take-append-drop, nat_le, Option, Some, Result, Err}
use Rattle.std.proofs.lemmas.Bool.{le-leb, false_from_ne_true, leb-true}
use Rattle.std.proofs.lemmas.List.{drop-append-le, take-append-le, take_all}
use Rattle.std.proofs.Math.Seq.{take-append_seam}
use Rattle.httparse.specs.Grammar.{RequestHead, ResponseHead, ChunkLine, print_chunk_line, print_section}
use Rattle.httparse.specs.Spans.{IsRequestAt, IsResponseAt, IsChunkLineAt}
use Rattle.httparse.proofs.GrammarLemmas.{ReadsRequest-append, ReadsResponse-append, ReadsSection-append}
use Rattle.httparse.proofs.ChunkLemmas.{ReadsChunkLine-append}
use Rattle.swf_http.specs.declared.fault.HttpFault.{HttpFault}
use Rattle.swf_http.specs.declared.fault.HttpFault.TheVariants.{Read, Ended, TooLong, BadMessage, OutOfMemory}
use Rattle.swf_http.specs.declared.found.FoundRequest.{FoundRequest}
use Rattle.swf_http.specs.declared.found.FoundResponse.{FoundResponse}
use Rattle.swf_http.specs.declared.found.FoundLine.{FoundLine}
use Rattle.swf_http.specs.declared.found.FoundTrailer.{FoundTrailer}
use Rattle.swf_http.specs.Stands.{IsFoundLine, IsTrailerAt}
use Rattle.swf_http.specs.Pieces.{Form, Section, request_form, response_form, line_form, trailer_form, SaysPiece, Settles}
use Rattle.swf_http.specs.Bodies.{body_of, rest_of}
use Rattle.swf_http.specs.Limits.{most_body}
use Rattle.swf_http.specs.Sources.{Grows, Splits, IsReadFault}
use Rattle.swf_http.specs.Verdicts.{Verdict, whole, ended, long, FaultSays}

-- ---- the bytes that come

pub splits_on : (x before after : List ℕ) (left next : Option (List ℕ)) (n : ℕ) → Splits x before left
    → ((rest : List ℕ) → left ≡ Some rest → Grows n before after rest next) → Splits x after next
splits_on x before after left next n splits grows =
    let g = grows splits.rest splits.left_is in
    record {
      rest = drop n splits.rest;
      left_is = g.left_is;
      whole_is = splits.whole_is ∙ ap (λ (t : List ℕ). before ++ t) (sym (take-append-drop n splits.rest))
          ∙ sym (append_assoc before (take n splits.rest) (drop n splits.rest))
          ∙ ap (λ (t : List ℕ). t ++ drop n splits.rest) (sym g.grown);
    }

-- nothing came, and so these are all
pub all_read : (x before after : List ℕ) (left next : Option (List ℕ)) (n : ℕ) → Splits x before left
    → ((rest : List ℕ) → left ≡ Some rest → Grows n before after rest next) → n ≡ 0 → x ≡ after
all_read x before after left next n splits grows none =
    let g = grows splits.rest splits.left_is in
    let after_is : after ≡ before = g.grown ∙ ap (λ (k : ℕ). before ++ take k splits.rest) none ∙ append-nil before in
    splits.whole_is ∙ ap (λ (t : List ℕ). before ++ t) (g.at_end none) ∙ append-nil before ∙ sym after_is

pub read_fault_says : {A : Type 0} (J : List ℕ → Verdict A → Type 0) (bytes : List ℕ) (e : HttpFault) → IsReadFault {T = ℕ} (Err e) → FaultSays J bytes e
read_fault_says J bytes Read is = tt
read_fault_says J bytes Ended is = absurd is
read_fault_says J bytes TooLong is = absurd is
read_fault_says J bytes BadMessage is = absurd is
read_fault_says J bytes OutOfMemory is = tt

-- nothing was read yet
pub begun : (x items : List ℕ) (left : Option (List ℕ)) → items ≡ [] → left ≡ Some x → Splits x items left
begun x items left empty told = record { rest = x; left_is = told; whole_is = rw empty refl }

-- ---- a piece

-- what stands behind a place that was read
pub splits_behind : (x now : List ℕ) (left : Option (List ℕ)) (at : ℕ) → Splits x now left → at ≤ length now → Splits (drop at x) (drop at now) left
splits_behind x now left at s within = record {
  rest = s.rest;
  left_is = s.left_is;
  whole_is = ap (λ (t : List ℕ). drop at t) s.whole_is ∙ drop-append-le at now s.rest within;
}

-- what a slice from a place on has
pub slice_is : (at : ℕ) (slice items : List ℕ) → slice ≡ items → take (length slice - at) (drop at slice) ≡ drop at items
slice_is at slice items same = take_all (length slice - at) (drop at slice) (omega (arith, length-drop at slice)) ∙ ap (λ (t : List ℕ). drop at t) same

-- what was read is a first part of all bytes
front_is : (y now : List ℕ) (left : Option (List ℕ)) → Splits y now left → take (length now) y ≡ now
front_is y now left s = ap (λ (t : List ℕ). take (length now) t) s.whole_is ∙ take-append_seam now s.rest

pub says_long : {A : Type 0} (F : Form A) (room : ℕ) (y now : List ℕ) (left : Option (List ℕ)) → Splits y now left → length now ≡ room → F.Begins now
    → SaysPiece F room y long
says_long F room y now left s full begins =
    let same = ap length s.whole_is in
    (omega (arith, length-append {A = ℕ}, same, full), subst (λ (n : ℕ). F.Begins (take n y)) full (rw (front_is y now left s) begins))

pub says_ended : {A : Type 0} (F : Form A) (room : ℕ) (y now : List ℕ) → y ≡ now → length now < room → F.Begins now → SaysPiece F room y ended
says_ended F room y now same short begins = rw same (short, begins)

pub settle_fault_says : {A P : Type 0} (F : Form A) (Stands : List ℕ → P → Type 0) (room : ℕ) (y now : List ℕ) (left : Option (List ℕ)) (e : HttpFault)
    → Splits y now left → length now ≤ room → Settles F Stands now (Err e) → FaultSays (SaysPiece F room) y e
settle_fault_says F Stands room y now left Read s short settles = absurd settles
settle_fault_says F Stands room y now left Ended s short settles = absurd settles
settle_fault_says F Stands room y now left TooLong s short settles = absurd settles
settle_fault_says F Stands room y now left BadMessage s short settles = (length now, short, rw (front_is y now left s) settles)
settle_fault_says F Stands room y now left OutOfMemory s short settles = tt

pub settles_at : {A P : Type 0} (F : Form A) (Stands : List ℕ → P → Type 0) (a b : List ℕ) (r q : Result (Option P) HttpFault) → a ≡ b → r ≡ q
    → Settles F Stands a r → Settles F Stands b q
settles_at {P = P} F Stands a b r q bytes same settles =
    subst (λ (t : List ℕ). Settles F Stands t q) bytes (subst (λ (v : Result (Option P) HttpFault). Settles F Stands a v) same settles)

-- what a tree is read from begins with as many bytes as it has
pub len_within : (print now : List ℕ) (len : ℕ) → now ≡ print ++ drop len now → len ≡ length print → len ≤ length now
len_within print now len is len_is =
    let same = ap length is in
    omega (arith, length-append print (drop len now), same, len_is)

-- a tree that was found is that of all bytes
pub says_found : {A : Type 0} (F : Form A)
    → ((bytes : List ℕ) (a : A) (rest more : List ℕ) → F.Reads bytes a rest → F.Reads (bytes ++ more) a (rest ++ more))
    → (room : ℕ) (y now : List ℕ) (left : Option (List ℕ)) (a : A) (len : ℕ) → Splits y now left → F.Reads now a (drop len now)
    → len ≡ length (F.print a) → len ≤ length now → length now ≤ room → SaysPiece F room y (whole a (drop len y))
says_found F on room y now left a len s reads len_is within short =
    let further : F.Reads (now ++ s.rest) a (drop len now ++ s.rest) = on now a (drop len now) s.rest reads in
    let after : drop len now ++ s.rest ≡ drop len y =
    sym (drop-append-le len now s.rest within) ∙ ap (λ (t : List ℕ). drop len t) (sym s.whole_is) in (
      subst (λ (t : List ℕ). F.Reads t a (drop len y)) (sym s.whole_is) (subst (F.Reads (now ++ s.rest) a) after further),
      omega (arith, len_is, within, short),
    )

pub says_request : (room : ℕ) (y now : List ℕ) (left : Option (List ℕ)) (found : FoundRequest) (h : RequestHead) → Splits y now left
    → IsRequestAt now found.headers.items found.spans h → found.spans.len ≤ length now → length now ≤ room
    → SaysPiece request_form room y (whole h (drop found.spans.len y))
says_request room y now left found h s at within short =
    says_found request_form ReadsRequest-append room y now left h found.spans.len s at.reads at.len within short

pub says_response : (room : ℕ) (y now : List ℕ) (left : Option (List ℕ)) (found : FoundResponse) (h : ResponseHead) → Splits y now left
    → IsResponseAt now found.headers.items found.spans h → found.spans.len ≤ length now → length now ≤ room
    → SaysPiece response_form room y (whole h (drop found.spans.len y))
says_response room y now left found h s at within short =
    says_found response_form ReadsResponse-append room y now left h found.spans.len s at.reads at.len within short

pub line_within : (now : List ℕ) (found : FoundLine) → IsFoundLine now found → found.len ≤ length now
line_within now found (l, at) = len_within (print_chunk_line l) now found.len at.reads.1 at.len_is

pub says_line : (room : ℕ) (y now : List ℕ) (left : Option (List ℕ)) (found : FoundLine) (l : ChunkLine) → Splits y now left
    → IsChunkLineAt now found.len found.size l → length now ≤ room → SaysPiece line_form room y (whole l (drop found.len y))
says_line room y now left found l s at short =
    says_found line_form ReadsChunkLine-append room y now left l found.len s at.reads at.len_is (line_within now found (l, at)) short

pub says_trailer : (room : ℕ) (y now : List ℕ) (left : Option (List ℕ)) (found : FoundTrailer) (s : Section) → Splits y now left
    → IsTrailerAt now found s → length now ≤ room → SaysPiece trailer_form room y (whole s (drop found.len y))
says_trailer room y now left found s splits at short =
    says_found trailer_form (λ bytes x rest more. ReadsSection-append bytes x.0 x.1 rest more) room y now left s found.len splits at.reads at.len_is
    (len_within (print_section s.0 s.1) now found.len at.reads.1 at.len_is) short

-- ---- a body

pub body_there : (y now body : List ℕ) (left : Option (List ℕ)) (at n : ℕ) → Splits y now left → at + n ≤ length now → body ≡ take n (drop at now)
    → (a : List ℕ) × (rest : List ℕ) × (whole a rest ≡ body_of n (drop at y)) × (body ≡ a)
body_there y now body left at n s enough is =
    let same = ap length s.whole_is in
    let fits : n ≤ length (drop at y) = omega (arith, length-append {A = ℕ}, length-drop at y, same, enough) in
    let behind : drop at y ≡ drop at now ++ s.rest =
    ap (λ (t : List ℕ). drop at t) s.whole_is ∙ drop-append-le at now s.rest (omega arith) in
    let front : take n (drop at y) ≡ take n (drop at now) =
    ap (λ (t : List ℕ). take n t) behind ∙ take-append-le n (drop at now) s.rest (omega (arith, length-drop at now)) in
    let under : nat_le n (length (drop at y)) ≡ true = le-leb n (length (drop at y)) fits in
    (take n (drop at y), drop n (drop at y), rw under refl, is ∙ sym front)

pub body_short : (y now : List ℕ) (at n : ℕ) → y ≡ now → length now - at < n → ended ≡ body_of n (drop at y)
body_short y now at n same short =
    let less : length (drop at now) < n = omega (arith, length-drop at now, short) in
    let fails : nat_le n (length (drop at now)) ≡ false = false_from_ne_true (nat_le n (length (drop at now))) (λ le. omega (arith, less, leb-true n (length (drop at now)) le)) in
    rw (same, fails) refl

pub rest_there : (x now body : List ℕ) (at : ℕ) → x ≡ now → length now - at ≤ most_body → body ≡ drop at now
    → (a : List ℕ) × (rest : List ℕ) × (whole a rest ≡ rest_of (drop at x)) × (body ≡ a)
rest_there x now body at same short is =
    let fits : length (drop at now) ≤ most_body = omega (arith, length-drop at now, short) in
    let under : nat_le (length (drop at now)) most_body ≡ true = le-leb (length (drop at now)) most_body fits in
    (drop at now, [], rw (same, under) refl, is)

pub rest_long : (x now : List ℕ) (left : Option (List ℕ)) (at : ℕ) → Splits x now left → most_body < length now - at → long ≡ rest_of (drop at x)
rest_long x now left at s over =
    let same = ap length s.whole_is in
    let more : most_body < length (drop at x) = omega (arith, length-append now s.rest, length-drop at x, same, over) in
    let fails : nat_le (length (drop at x)) most_body ≡ false =
    false_from_ne_true (nat_le (length (drop at x)) most_body) (λ le. omega (arith, more, leb-true (length (drop at x)) most_body le)) in
    rw fails refl
