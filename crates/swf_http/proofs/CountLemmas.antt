-- No head has more fields than a third of its bytes.
use Rattle.std.proofs.Common.{◌≡◌, ℕ, ◌+◌, ◌*◌, ◌/◌, ◌<◌, ◌≤◌, List, [], ◌∷◌, ◌++◌, length, ap, arith, length-append, All}
use Rattle.std.specs.List.{flat_map}
use Rattle.std.proofs.lemmas.List.Elements.{All-head, All-tail}
use Rattle.httparse.specs.Grammar.{LineEnd, crlf, lf, print_end, Field, IsField, print_field, print_section, RequestHead, print_request, ResponseHead, print_response}
use Rattle.httparse.specs.Spans.{RequestExceeds, ResponseExceeds, SectionExceeds}

field_length : (f : Field) → IsField f → 3 ≤ length (print_field f)
field_length f is =
    let some : 0 < length f.name = is.name.0 in
    let end : 1 ≤ length (print_end f.end) = end_length f.end in
    simp length-append (omega arith)
  where
    end_length : (end : LineEnd) → 1 ≤ length (print_end end)
    end_length crlf = omega arith
    end_length lf = omega arith

fields_length : (fields : List Field) → All IsField fields → 3 * length fields ≤ length (flat_map print_field fields)
fields_length [] all = omega arith
fields_length (f ∷ fields) all =
    let here = field_length f (All-head IsField f fields all) in
    let rest = fields_length fields (All-tail IsField f fields all) in
    rw length-append (omega arith)

pub section_length : (fields : List Field) (last : LineEnd) → All IsField fields → 3 * length fields + 1 ≤ length (print_section fields last)
section_length fields last all =
    let rows = fields_length fields all in
    let end : 1 ≤ length (print_end last) = end_length last in
    omega (arith, length-append (flat_map print_field fields) (print_end last))
  where
    end_length : (end : LineEnd) → 1 ≤ length (print_end end)
    end_length crlf = omega arith
    end_length lf = omega arith

pub request_length : (h : RequestHead) → All IsField h.fields → 3 * length h.fields + 2 ≤ length (print_request h)
unfolding print_request
request_length h all =
    let fields = fields_length h.fields all in
    simp length-append (omega arith)

pub no_room : (bytes : List ℕ) (room : ℕ) → room ≡ length bytes / 3 + 1 → RequestExceeds room bytes → ⊥
no_room bytes room is (front, rest, whole, h, reads, over) =
    let long : 3 * length h.fields + 2 ≤ length (print_request h) = request_length h reads.0.fields in
    let same = ap length reads.1 in
    let front_length = ap length whole in
    omega (arith, length-append {A = ℕ}, same, front_length)

pub response_length : (h : ResponseHead) → All IsField h.fields → 3 * length h.fields + 2 ≤ length (print_response h)
unfolding print_response
response_length h all =
    let fields = fields_length h.fields all in
    simp length-append (omega arith)

pub no_room_response : (bytes : List ℕ) (room : ℕ) → room ≡ length bytes / 3 + 1 → ResponseExceeds room bytes → ⊥
no_room_response bytes room is (front, rest, whole, h, reads, over) =
    let long : 3 * length h.fields + 2 ≤ length (print_response h) = response_length h reads.0.fields in
    let same = ap length reads.1 in
    let front_length = ap length whole in
    omega (arith, length-append {A = ℕ}, same, front_length)

pub no_room_section : (bytes : List ℕ) (room : ℕ) → room ≡ length bytes / 3 + 1 → SectionExceeds room bytes → ⊥
no_room_section bytes room is (front, rest, whole, fields, reads, over) =
    let long : 3 * length fields + 1 ≤ length (print_section fields lf) = section_length fields lf reads.0 in
    let same : length (front ++ print_end lf) ≡ length (print_section fields lf ++ []) = ap length reads.1 in
    let front_length = ap length whole in
    omega (arith, length-append {A = ℕ}, same, front_length, long)
