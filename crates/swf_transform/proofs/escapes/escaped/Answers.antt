use Rattle.std.proofs.Common.{◌≡◌, ◌∙◌, ◌++◌, ℕ, List, IfOk, ap, subst, chars, string_bytes, arith}
use Rattle.percent_encoding.specs.Iter.{encoded_text}
use Rattle.percent_encoding.specs.Percent.{percent_encode}
use Rattle.swf_transform.specs.declared.escapes.TheConstants.{RESERVED}
use Rattle.swf_transform.proofs.Reserved.{chars-percent_encode}
use Rattle.swf_transform.proofs.escapes.escaped.Goals as goal

pub returns : goal.returns
returns c =
    let begun = ap (λ (x : List ℕ). x ++ encoded_text c.utf8_percent_encode.result) c.new-out.ensures.bytes in
    let bytes : string_bytes c.append_to.new.out ≡ percent_encode RESERVED c.args.text.now = c.in_ok-append_to.ensures.ok ∙ begun ∙ c.utf8_percent_encode.ensures.text in
    let spelt = ap chars bytes ∙ chars-percent_encode c.args.text.now c.utf8.text (λ i. omega (arith, c.type_inv.text i)) in
    subst (λ (x : List ℕ). IfOk c.from_string.result (λ t. t ≡ x)) spelt c.from_string.ensures
