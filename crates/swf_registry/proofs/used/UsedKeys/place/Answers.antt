use Rattle.std.proofs.Common.{◌∙◌, ap}
use Rattle.swf_registry.specs.UsedKey.{used_at, sought_key}
use Rattle.swf_registry.proofs.Lookups.{used_lookup}
use Rattle.swf_registry.proofs.used.UsedKeys.place.Goals as goal

pub returns : goal.returns
returns c = c.copied.ensures ∙ c.get.ensures.value ∙ used_lookup c.args.sought c.self.inside.places.entries ∙ ap (λ h. used_at (sought_key c.args.sought) h.keys) c.self.view_is
