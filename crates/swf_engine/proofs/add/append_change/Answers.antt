use Rattle.std.proofs.Common.{◌≡◌, ◌∙◌, ap, sym, refl, subst, Some, Err, Result}
use Rattle.swf_journal.specs.Place.{Gate}
use Rattle.swf_runs.specs.After.{after}
use Rattle.swf_world.specs.Changes.{changed}
use Rattle.swf_engine.specs.declared.engine.Submitted.{Submitted}
use Rattle.swf_engine.specs.declared.fault.EngineFault.{EngineFault}
use Rattle.swf_engine.specs.Answers.{Submits}
use Rattle.swf_engine.specs.Core.{Core}
use Rattle.swf_engine.specs.EngineCalls.{SubmitCalls}
use Rattle.swf_engine.proofs.AddLemmas.{taken_adds, refused_submits, had_room}
use Rattle.swf_engine.proofs.EngineCallLemmas.{appended_label, failed_calls}
use Rattle.swf_engine.proofs.add.append_change.Goals as goal

pub returns-in-Ok-append-clause-submits : goal.returns-in-Ok-append-clause-submits
returns-in-Ok-append-clause-submits g c =
    let S = g.S.Store in
    let world = c.args.world.now.world in
    let label = c.args.label.now in
    let before : Core = record { world = world; gate = c.args.journal.now.at } in
    let legal : after world label ≡ Some c.install.new.self.world = c.requires.leads ∙ ap Some (sym c.install.ensures.world) in (
      taken_adds S.moment S.left_since S.said S.may_leave S.seen c.args.journal.now.file c.args.store.now c.append.new.store before c.in-Ok.frame label c.install.new.self.world c.append.new.self.at
          c.requires.file c.in-Ok.ensures legal c.append.ensures.honest c.append.ensures.any_moment c.in-Ok-append.ensures.written c.in-Ok-append.ensures.acknowledged,
      c.requires.free,
      had_room S.moment S.left_since S.said S.may_leave S.seen c.args.journal.now.at c.args.journal.now.limit c.in-Ok.frame label c.requires.limit c.in-Ok.ensures c.in-Ok-append.ensures.full,
      c.install.ensures.place,
      c.install.ensures.taken ∙ c.requires.taken,
    )

pub returns-clause-submits : goal.returns-clause-submits
returns-clause-submits g c =
    let S = g.S.Store in
    let world = c.args.world.now.world in
    let label = c.args.label.now in
    let before : Core = record { world = world; gate = c.args.journal.now.at } in
    let later : Core = record { world = world; gate = c.append.new.self.at } in
    let stays : later ≡ before = λ i. record { world = world; gate = (c.in-Err-append.ensures.err i).at } in
    subst (λ (e : EngineFault). Submits S.moment S.left_since S.said S.may_leave S.seen c.args.store.now c.append.new.store before later label (Err e)) (sym (c.let_go-in-Err-append.ensures ∙ c.from.ensures))
    (refused_submits S.moment S.left_since S.said S.may_leave S.seen c.args.journal.now.file c.args.store.now c.append.new.store before later c.in-Ok.frame label (changed world c.args.change) c.args.journal.now.limit c.in-Err-append.fault
    c.requires.file c.requires.limit stays c.in-Ok.ensures c.requires.leads c.requires.free c.append.ensures.any_moment c.in-Err-append.ensures.full c.append.ensures.untouched)

pub returns-in-Ok-append-clause-calls : goal.returns-in-Ok-append-clause-calls
returns-in-Ok-append-clause-calls g c =
    let S = g.S.Store in
    appended_label c.args.journal.now.file (S.calls c.args.store.now) (S.calls c.append.new.store) c.args.journal.now.at c.append.new.self.at c.in-Ok.frame c.args.label.now c.requires.file c.in-Ok.ensures
    c.in-Ok-append.ensures.calls.done (ap (λ (p : Gate). p.at) c.in-Ok-append.ensures.next)

pub returns-clause-calls : goal.returns-clause-calls
returns-clause-calls g c =
    let S = g.S.Store in
    let old = S.calls c.args.store.now in
    let new = S.calls c.append.new.store in
    let at = c.args.journal.now.at in
    let next = c.append.new.self.at in
    subst (λ (e : EngineFault). SubmitCalls old new at next c.args.label.now (Err e)) (sym (c.let_go-in-Err-append.ensures ∙ c.from.ensures))
    (failed_calls c.args.journal.now.file old new at next c.in-Ok.frame c.args.label.now c.in-Err-append.fault c.requires.file c.in-Ok.ensures c.in-Err-append.ensures.calls.failed
    (λ size is. ap S.calls (c.append.ensures.untouched ((c.in-Err-append.ensures.full size).0 is).0)))
