-- What is told of the calls of all instances is what is told of each one's.
use Rattle.std.proofs.Common.{◌≡◌, ◌∙◌, ap, refl, List, [], ◌∷◌, ◌++◌, map}
use Rattle.std.proofs.lemmas.List.{map-append}
use Rattle.std.specs.List.{flat_map}
use Rattle.swf_meaning.specs.Pending.{call_value, calls, open_calls}
use Rattle.swf_meaning.specs.World.{Instance}

pub told_calls : (is : List Instance) → map call_value (flat_map (λ i. open_calls i.node) is) ≡ calls is
told_calls [] = refl
told_calls (i ∷ is) = map-append call_value (open_calls i.node) (flat_map (λ j. open_calls j.node) is) ∙ ap (λ vs. map call_value (open_calls i.node) ++ vs) (told_calls is)
