use Rattle.std.proofs.Common.{◌∙◌, ◌==◌, ℕ, ap, rules, tests}
use Rattle.std.specs.List.{list_any}
use Rattle.std.proofs.lemmas.Iterator.{YieldsList-from_chars}
use Rattle.std.proofs.lemmas.Iterator.Search.{any_from_yields_List}
use Rattle.swf_transform.proofs.uris.has_query.Goals as goal

pub returns : goal.returns
returns c =
    any_from_yields_List (λ (x : ℕ). x == 63) _ _ _ c.any.ensures.ran
    (YieldsList-from_chars c.as_str.result.now c.as_str.utf8 c.chars.ensures.rest) (λ x b q k. search (rules, tests))
    ∙ ap (list_any (λ (x : ℕ). x == 63)) c.as_str.ensures.chars
