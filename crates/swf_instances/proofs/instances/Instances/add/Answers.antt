use Rattle.std.proofs.Common.{◌≡◌, ◌∙◌, ◌++◌, ◌∷◌, [], None, ap, sym}
use Rattle.std.proofs.lemmas.List.{map-append}
use Rattle.std.proofs.lemmas.Result.{IfOk-at_ok}
use Rattle.std.specs.Map.{lookup}
use Rattle.indexmap.proofs.CallerLemmas.{insert_entry-new}
use Rattle.swf_text.specs.Same.{same}
use Rattle.swf_meaning.specs.Answer.{instance_at}
use Rattle.swf_instances.proofs.Lookups.{instance_lookup}
use Rattle.swf_instances.proofs.TakeLemmas.{kept_pushed}
use Rattle.swf_instances.proofs.instances.Instances.add.Goals as goal

pub invariant_of-self : goal.invariant_of-self
invariant_of-self c =
    let es = c.self.inside.machines.entries in
    let new : lookup (same c.args.id) es ≡ None = sym (instance_lookup c.args.id es c.self.invariant.held.placed) ∙ ap (λ h. instance_at c.args.id h.instances) c.self.view_is ∙ c.requires.new in
    kept_pushed es _ c.self.inside.moment c.self.inside.queue c.add.new.self c.self.inside.alarms.moments c.add-2.new.self.moments c.self.inside.listeners.wanted c.add-3.new.self.wanted c.self.inside.stale c.add-4.new.self c.args.id c.args.instance c.self.invariant c.requires.placed c.requires.awake
    (IfOk-at_ok _ c.unwrap.ensures c.insert.ensures.entries ∙ insert_entry-new same c.self.inside.machines c.args.id c.into_inner.result new ∙ ap (λ i. es ++ (c.args.id, i) ∷ []) c.into_inner.ensures) c.insert.ensures.unique
    c.add.ensures.numbers c.add.ensures.count c.add-2.ensures.moments c.add-3.ensures.wanted c.add-4.ensures.numbers c.add-4.ensures.count

pub returns-clause-instances : goal.returns-clause-instances
returns-clause-instances c =
    let es = c.self.inside.machines.entries in
    let new : lookup (same c.args.id) es ≡ None = sym (instance_lookup c.args.id es c.self.invariant.held.placed) ∙ ap (λ h. instance_at c.args.id h.instances) c.self.view_is ∙ c.requires.new in
    rw (IfOk-at_ok _ c.unwrap.ensures c.insert.ensures.entries, insert_entry-new same c.self.inside.machines c.args.id c.into_inner.result new, c.into_inner.ensures)
    (map-append (λ e. e.1) es ((c.args.id, c.args.instance) ∷ []) ∙ ap (λ h. h.instances ++ c.args.instance ∷ []) c.self.view_is)
