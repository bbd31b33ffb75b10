-- The text of a member of a document's `document`.
use Rattle.std.proofs.Common.{◌≡◌, ◌∙◌, ap, refl, ℕ, List, chars, codes, unwrap_or, Option, true}
use Rattle.swf_reader.specs.Parts.{text_in, part}
use Rattle.swf_text.specs.Same.{is_ascii}
use Rattle.swf_text.proofs.SameLemmas.{chars_ascii}
use Rattle.swf_value.specs.Members.{member_at}
use Rattle.swf_value.specs.Value.{Value, null}

head_is : (v : Value) (o : Option Value) → o ≡ member_at (chars (codes "document")) v → unwrap_or o null ≡ part (codes "document") v
head_is v o e = ap (λ (x : Option Value). unwrap_or x null) (e ∙ ap (λ k. member_at k v) (chars_ascii (codes "document") refl))

pub part_is : (k : List ℕ) (v : Value) (o : Option Value) (t : List ℕ) → is_ascii k ≡ true → o ≡ member_at (chars (codes "document")) v → t ≡ text_in (part (chars k) (unwrap_or o null)) → t ≡ text_in (part k (part (codes "document") v))
part_is k v o t a e h = h ∙ ap (λ x. text_in (part x (unwrap_or o null))) (chars_ascii k a) ∙ ap (λ x. text_in (part k x)) (head_is v o e)
