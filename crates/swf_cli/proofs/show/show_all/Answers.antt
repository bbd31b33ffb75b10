use Rattle.std.proofs.Common.{◌∙◌, sym, refl, subst, ⊎_elim, inl, inr, rules, []}
use Rattle.swf_engine.specs.Core.{Core}
use Rattle.swf_turns.specs.Steps.{Stand}
use Rattle.swf_cli.proofs.ShowLemmas.{shown_none, shown_more, shown_stops, shown_lacks, shown_all}
use Rattle.swf_cli.proofs.show.show_all.Goals as goal

pub loop-number-init : goal.loop-number-init
loop-number-init g c =
    let H = g.H.Store in
    record {
      place = search rules;
      engine = refl;
      seen = refl;
      stop = λ image may. may;
      so_far = λ start before first told took is stands leaves.
          shown_none H.moment H.left_since H.said H.may_leave H.seen g.H.Host.taken start c.args.host.now before first told took is leaves;
      host_faults = refl;
      store_faults = refl;
    }

pub returns-in-Ok-None-clause-shows : goal.returns-in-Ok-None-clause-shows
returns-in-Ok-None-clause-shows g c = λ start before first told took is stands leaves.
    let H = g.H.Store in
    let l = c.loop-number in
    let stand = subst (λ (e : Core). Stand H.moment H.left_since H.said H.may_leave H.seen c.args.host.now e before) (sym l.invariant.engine) stands in
    shown_all H.moment H.left_since H.said H.may_leave H.seen g.H.Host.taken start c.args.host.now l.host l.engine before first told l.number stand l.invariant.stop
    (l.invariant.so_far start before first told took is stands leaves) (sym c.in-Ok-None.field-0-is ∙ c.in-Ok-None.ensures)

pub returns-in-Err-clause-shows : goal.returns-in-Err-clause-shows
returns-in-Err-clause-shows g c = λ start before first told took is stands leaves.
    let H = g.H.Store in
    let l = c.loop-number in
    shown_lacks H.moment H.left_since H.said H.may_leave H.seen g.H.Host.taken start l.host before first told l.number (l.invariant.so_far start before first told took is stands leaves)

pub returns-in-Stops-clause-shows : goal.returns-in-Stops-clause-shows
returns-in-Stops-clause-shows g c = λ start before first told took is stands leaves.
    let H = g.H.Store in
    let l = c.loop-number in
    let stand = subst (λ (e : Core). Stand H.moment H.left_since H.said H.may_leave H.seen c.args.host.now e before) (sym l.invariant.engine) stands in
    shown_stops H.moment H.left_since H.said H.may_leave H.seen g.H.Host.taken start c.args.host.now l.host c.show_one.new.host l.engine before first told l.number c.in-Ok-Some.id c.show_one.result stand l.invariant.stop
    (l.invariant.so_far start before first told took is stands leaves) (sym c.in-Ok-Some.field-0-is ∙ c.in-Ok-Some.ensures) (c.show_one.ensures.says before) c.in-Stops.status c.in-Stops.is

pub loop-number-preserved : goal.loop-number-preserved
loop-number-preserved g c =
    let H = g.H.Store in
    let l = c.loop-number in
    let says = c.show_one.ensures.says [] in
    record {
      place = search rules;
      engine = c.show_one.ensures.engine ∙ l.invariant.engine;
      seen = says.seen_same ∙ l.invariant.seen;
      stop = λ image may. l.invariant.stop image (says.stop image may);
      so_far = λ start before first told took is stands leaves.
          let stand = subst (λ (e : Core). Stand H.moment H.left_since H.said H.may_leave H.seen c.args.host.now e before) (sym l.invariant.engine) stands in
          shown_more H.moment H.left_since H.said H.may_leave H.seen g.H.Host.taken start c.args.host.now l.host c.show_one.new.host l.engine before first told l.number c.in-Ok-Some.id c.show_one.result stand l.invariant.stop
          (l.invariant.so_far start before first told took is stands leaves) (sym c.in-Ok-Some.field-0-is ∙ c.in-Ok-Some.ensures) (c.show_one.ensures.says before) c.in-GoesOn.is;
      host_faults = search rules;
      store_faults = search rules;
    }

pub returns-clause-shows : goal.returns-clause-shows
returns-clause-shows g c = λ start before first told took is stands leaves.
    let H = g.H.Store in
    let l = c.loop-number in
    shown_lacks H.moment H.left_since H.said H.may_leave H.seen g.H.Host.taken start l.host before first told l.number (l.invariant.so_far start before first told took is stands leaves)

pub unreachable-requires : goal.unreachable-requires
unreachable-requires g c = ⊎_elim (λ d. cc) (λ f. ⊎_elim (λ six. cc) (λ four. cc) f) (c.in-Ends.ensures.says []).which

pub returns-in-Stops-clause-which : goal.returns-in-Stops-clause-which
returns-in-Stops-clause-which g c = ⊎_elim (λ d. absurd (cc)) (λ f. ⊎_elim (λ six. inr (inr (cc))) (λ four. inr (inl (cc))) f) (c.in-Stops.ensures.says []).which
