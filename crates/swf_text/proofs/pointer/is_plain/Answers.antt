use Rattle.std.proofs.Common.{◌≡◌, ◌==◌, ◌∙◌, ◌++◌, ◌∷◌, ℕ, List, [], false, arith, ap, refl, sym, flat_map}
use Rattle.std.proofs.lemmas.Grind.{flat_map-append}
use Rattle.std.proofs.lemmas.List.{map-id}
use Rattle.std.proofs.lemmas.Iterator.{YieldsList-from_chars}
use Rattle.std.proofs.lemmas.Iterator.Consumers.{YieldsList-end}
use Rattle.swf_text.specs.Pointer.{pointer_char}
use Rattle.swf_text.proofs.pointer.is_plain.Goals as goal

pub returns : goal.returns
returns c = λ plain.
    let t = YieldsList-end (YieldsList-from_chars c.args.characters.now c.utf8.characters cc) c.loop-character.yielded _ c.loop-character.yielded_by _ _ c.in-None.is c.next.ensures.steps in
    let all = sym (map-id c.loop-character.yielded) ∙ t.0 in
    ap (flat_map pointer_char) (sym all) ∙ c.loop-character.invariant ∙ all

-- one more character that stands for itself
plain_more : (cs : List ℕ) (c : ℕ) → flat_map pointer_char cs ≡ cs → (c ≡ 126 → ⊥) → (c ≡ 47 → ⊥) → flat_map pointer_char (cs ++ c ∷ []) ≡ cs ++ c ∷ []
plain_more cs c plain tilde slash =
    let not_tilde : (c == 126) ≡ false = grind (arith, tilde) in
    let not_slash : (c == 47) ≡ false = grind (arith, slash) in
    let alone : pointer_char c ≡ c ∷ [] = rw (not_tilde, not_slash) refl in
    flat_map-append pointer_char cs (c ∷ []) ∙ rw (plain, alone) refl

pub loop-character-preserved : goal.loop-character-preserved
loop-character-preserved c = plain_more c.loop-character.yielded _ c.loop-character.invariant c.if-character-eq126.false c.if-character-eq47.false
