use Rattle.std.proofs.Common.{◌≡◌, ℕ, List, IfOk, subst}
use Rattle.std.proofs.lemmas.Iterator.{items_from_collect, YieldsList-from_chars}
use Rattle.swf_transform.proofs.uris.characters_of.Goals as goal

pub returns : goal.returns
returns c =
    subst (λ (x : List ℕ). IfOk c.collect.result (λ v. v.items ≡ x)) c.as_str.ensures.chars
    (items_from_collect c.collect.result c.collect.ensures.ran (YieldsList-from_chars c.as_str.result.now c.as_str.utf8 c.chars.ensures.rest))
