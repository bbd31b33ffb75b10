use Rattle.std.proofs.Common.{[], ap, Err, inl, inr, ◌∙◌}
use Rattle.swf_cli.proofs.OpeningLemmas.{session_opened, session_closed}
use Rattle.swf_turns.proofs.SettlingLemmas.{asks_none}
use Rattle.swf_turns.proofs.TurnLemmas.{blamed_behind}
use Rattle.swf_cli.proofs.session.run_session.Goals as goal

pub returns-in-Ok-clause-runs : goal.returns-in-Ok-clause-runs
returns-in-Ok-clause-runs g c =
    let H = g.H.Store in
    let old = c.args.host.now in
    let opened = c.open_on.new.store in (
      c.take_turns.ensures.ran.0,
      c.take_turns.ensures.ran.1,
      session_opened H.moment H.left_since H.said H.may_leave H.seen g.H.Host.taken g.met.H.Store.only_now c.args.words.now c.take_turns.ensures.ran.0 old opened c.take_turns.new.host c.in-Ok.engine c.take_turns.result
          (g.met.H.Host.beside_taken opened old c.open_on.ensures.beside) c.open_on.ensures.said
          (λ image is. c.in-Ok.ensures.opened image is) (λ image is history h. c.open_on.ensures.any_moment image is history h) c.take_turns.ensures.ran.2 c.take_turns.ensures.sound
          (λ first took pieces is. c.take_turns.ensures.tells first took pieces is),
    )

pub returns-in-Ok-clause-blamed : goal.returns-in-Ok-clause-blamed
returns-in-Ok-clause-blamed g c =
    let H = g.H.Store in
    let old = c.args.host.now in
    let opened = c.open_on.new.store in
    let new = c.take_turns.new.host in
    blamed_behind c.args.words.now [] c.take_turns.result (g.H.Host.host_faults old) (g.H.Host.host_faults opened) (g.H.Host.host_faults new) (H.store_faults old) (H.store_faults opened) (H.store_faults new)
    (g.met.H.Host.beside_faults opened old c.open_on.ensures.beside) c.in-Ok.ensures.cause c.take_turns.ensures.blamed

pub returns-in-Err-clause-runs : goal.returns-in-Err-clause-runs
returns-in-Err-clause-runs g c =
    let H = g.H.Store in
    let old = c.args.host.now in
    let opened = c.open_on.new.store in
    let new = c.not_opened.new.host in (
      [],
      asks_none _ _,
      session_closed H.moment H.left_since H.said H.may_leave H.seen g.H.Host.taken g.met.H.Store.only_now c.args.words.now c.in-Err.fault old opened new c.not_opened.result
          (g.H.Host.host_faults opened) (g.H.Host.host_faults new) (H.store_faults opened) (H.store_faults new)
          (g.met.H.Host.beside_taken opened old c.open_on.ensures.beside) c.open_on.ensures.said c.not_opened.ensures.taken
          (λ image is at e. c.open_on.ensures.damaged image is at (c.in-Err.is ∙ ap Err e)) (λ image is history h. c.open_on.ensures.any_moment image is history h)
          (λ image is long. c.open_on.ensures.untouched image is long) c.not_opened.ensures.tells c.not_opened.ensures.closes,
    )

pub returns-in-Ok-clause-calls : goal.returns-in-Ok-clause-calls
returns-in-Ok-clause-calls g c = record {
  opened = c.open_on.new.store;
  answer = c.open_on.result;
  opening = c.open_on.ensures.calls;
  behind = inr (c.in-Ok.engine, c.take_turns.new.engine, c.take_turns.ensures.calls.0, c.in-Ok.is, c.take_turns.ensures.calls.1);
}

pub returns-in-Err-clause-calls : goal.returns-in-Err-clause-calls
returns-in-Err-clause-calls g c =
    record { opened = c.open_on.new.store; answer = c.open_on.result; opening = c.open_on.ensures.calls; behind = inl c.not_opened.ensures.calls }
