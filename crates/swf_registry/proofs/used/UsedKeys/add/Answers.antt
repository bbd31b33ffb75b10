use Rattle.std.proofs.Common.{◌≡◌, ◌∙◌, ◌++◌, ◌∷◌, [], None, ap}
use Rattle.std.proofs.lemmas.Result.{IfOk-at_ok}
use Rattle.std.specs.Map.{lookup}
use Rattle.indexmap.proofs.CallerLemmas.{insert_entry-new}
use Rattle.swf_registry.specs.UsedKey.{key_eq, used_at}
use Rattle.swf_registry.proofs.Lookups.{key_lookup}
use Rattle.swf_registry.proofs.used.UsedKeys.add.Goals as goal

pub returns : goal.returns
returns c =
    let es = c.self.inside.places.entries in
    let new : lookup (key_eq c.args.key) es ≡ None = key_lookup c.args.key es ∙ ap (λ h. used_at c.args.key h.keys) c.self.view_is ∙ c.requires.new in
    IfOk-at_ok _ c.unwrap.ensures c.insert.ensures.entries ∙ insert_entry-new key_eq c.self.inside.places c.args.key c.args.place new ∙ ap (λ h. h.keys ++ (c.args.key, c.args.place) ∷ []) c.self.view_is
