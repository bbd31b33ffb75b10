-- What a trailer that was found is.
use Rattle.std.proofs.Common.{◌≡◌, ℕ, ◌≤◌, List, length, map, take, sym, ap, ◌∙◌, subst, arith, length-take-le, Result, Ok}
use Rattle.std.proofs.lemmas.List.{length-map}
use Rattle.httparse.specs.Grammar.{Field}
use Rattle.httparse.specs.Outcome.{IfComplete}
use Rattle.httparse.specs.Spans.{header_bytes, name_and_value, IsSectionWithin, IsSectionOf}
use Rattle.httparse.specs.declared.Error.{Error}
use Rattle.httparse.specs.declared.Status.{Status}
use Rattle.httparse.specs.declared.Status.TheVariants.{Complete}
use Rattle.httparse.specs.declared.spans.HeaderSpan.{HeaderSpan}
use Rattle.swf_http.specs.Stands.{IsFoundTrailer}

fields_counted : (bytes : List ℕ) (headers : List HeaderSpan) (count : ℕ) (fields : List Field) → count ≤ length headers
    → map (header_bytes bytes) (take count headers) ≡ map name_and_value fields → count ≡ length fields
fields_counted bytes headers count fields fits same =
    sym (length-take-le count headers fits) ∙ sym (length-map (take count headers) (header_bytes bytes)) ∙ ap length same ∙ length-map fields name_and_value

pub trailer_found : (bytes : List ℕ) (headers : List HeaderSpan) (r : Result (Status (ℕ × ℕ)) Error) (x : ℕ × ℕ) → r ≡ Ok (Complete x)
    → IfComplete r (λ y. IsSectionWithin bytes headers y.0 y.1) → IfComplete r (IsSectionOf bytes 0 headers)
    → IsFoundTrailer bytes (record { len = x.0; count = x.1 })
trailer_found bytes headers r x is within section =
    let fits : IsSectionWithin bytes headers x.0 x.1 = subst (λ (q : Result (Status (ℕ × ℕ)) Error). IfComplete q (λ y. IsSectionWithin bytes headers y.0 y.1)) is within in
    let there : IsSectionOf bytes 0 headers x = subst (λ (q : Result (Status (ℕ × ℕ)) Error). IfComplete q (IsSectionOf bytes 0 headers)) is section in
    let at = there.2 in (
      (there.0, there.1),
      record {
        reads = at.reads;
        len_is = omega (arith, at.len_is);
        count_is = fields_counted bytes headers x.1 there.0 fits.count_fits at.fields_are;
      },
    )
