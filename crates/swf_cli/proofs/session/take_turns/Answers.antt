use Rattle.std.proofs.Common.{false, inr, rules, refl, ◌∙◌, ◌≡◌, suc, [], ◌++◌, arith}
use Rattle.swf_turns.specs.Dialect.{session}
use Rattle.swf_turns.specs.Finish.{most_turns}
use Rattle.swf_turns.specs.Owed.{pieces_of}
use Rattle.swf_turns.specs.Turns.{labels_of, inputs_of}
use Rattle.swf_turns.proofs.HeardLemmas.{heard_none, heard_more, tells_ends, tells_stops, tells_all}
use Rattle.swf_turns.proofs.SettlingLemmas.{asks_none, asks_join}
use Rattle.swf_cli.proofs.SessionLemmas.{begins, turn_goes_on, turn_ends, turn_stops, all_made}
use Rattle.std.specs.Prelude.{length}
use Rattle.swf_cli.proofs.session.take_turns.Goals as goal

pub loop-init : goal.loop-init
loop-init g c = record {
  place = search rules;
  asked = (
    [],
    asks_none _ _,
    λ start before first told took is stands leaves.
        begins c.args.words.now g.H.Store.moment g.H.Store.left_since g.H.Store.said g.H.Store.may_leave g.H.Store.seen g.H.Host.taken start c.args.host.now c.args.engine.now before first told took is stands leaves,
  );
  by_hand = λ e. refl;
  heard = λ first told took is. ([], heard_none g.H.Store.moment g.H.Store.left_since g.H.Store.said g.H.Store.may_leave g.H.Store.seen g.H.Host.taken c.args.host.now first told took is);
  sound = λ s. s;
  calls = (0, refl);
  host_faults = refl;
  store_faults = refl;
}

pub returns-in-Ends-clause-ran : goal.returns-in-Ends-clause-ran
returns-in-Ends-clause-ran g c = (
  c.loop.invariant.asked.0 ++ c.in-Ends.ensures.turn.0,
  asks_join _ _ _ _ _ _ c.loop.invariant.asked.1 c.in-Ends.ensures.turn.1,
  λ start before first told took is stands leaves.
      let H = g.H.Store in
      let s = c.loop.invariant.asked.2 start before first told took is stands leaves in
      turn_ends c.args.words.now H.moment H.left_since H.said H.may_leave H.seen g.H.Host.taken start c.loop.host c.take_turn.new.host c.loop.engine c.take_turn.new.engine before first told c.loop.invariant.asked.0 c.loop.counter s c.in-Ends.ensures.turn.0
      (c.in-Ends.ensures.turn.2 s.stands.0 s.stands.1 (first ++ inputs_of s.turns) s.took (told ++ pieces_of session (length first) s.turns) s.said_all (before ++ labels_of s.turns) s.stands.2),
)

pub returns-in-Stops-clause-ran : goal.returns-in-Stops-clause-ran
returns-in-Stops-clause-ran g c = (
  c.loop.invariant.asked.0 ++ c.in-Stops.ensures.turn.0,
  asks_join _ _ _ _ _ _ c.loop.invariant.asked.1 c.in-Stops.ensures.turn.1,
  λ start before first told took is stands leaves.
      let H = g.H.Store in
      let s = c.loop.invariant.asked.2 start before first told took is stands leaves in
      turn_stops c.args.words.now H.moment H.left_since H.said H.may_leave H.seen g.H.Host.taken start c.loop.host c.take_turn.new.host c.loop.engine c.take_turn.new.engine before first told c.loop.invariant.asked.0 c.loop.counter s c.in-Stops.ensures.turn.0 c.in-Stops.status
      (c.in-Stops.ensures.turn.2 s.stands.0 s.stands.1 (first ++ inputs_of s.turns) s.took (told ++ pieces_of session (length first) s.turns) s.said_all (before ++ labels_of s.turns) s.stands.2),
)

pub loop-preserved : goal.loop-preserved
loop-preserved g c =
    let H = g.H.Store in
    record {
      place = search rules;
      asked = (
        c.loop.invariant.asked.0 ++ c.in-GoesOn.ensures.turn.0,
        asks_join _ _ _ _ _ _ c.loop.invariant.asked.1 c.in-GoesOn.ensures.turn.1,
        λ start before first told took is stands leaves.
            let s = c.loop.invariant.asked.2 start before first told took is stands leaves in
            turn_goes_on c.args.words.now H.moment H.left_since H.said H.may_leave H.seen g.H.Host.taken start c.loop.host c.take_turn.new.host c.loop.engine c.take_turn.new.engine before first told c.loop.invariant.asked.0 c.loop.counter s c.in-GoesOn.ensures.turn.0
            (c.in-GoesOn.ensures.turn.2 s.stands.0 s.stands.1 (first ++ inputs_of s.turns) s.took (told ++ pieces_of session (length first) s.turns) s.said_all (before ++ labels_of s.turns) s.stands.2),
      );
      by_hand = λ e. c.take_turn.ensures.by_hand e ∙ c.loop.invariant.by_hand e;
      heard = λ first told took is.
          let h = c.loop.invariant.heard first told took is in
          heard_more H.moment H.left_since H.said H.may_leave H.seen g.H.Host.taken c.take_turn.new.host first told h.0 h.1.replied false
          (c.in-GoesOn.ensures.tells (first ++ inputs_of h.0) h.1.took (told ++ pieces_of session (length first) h.0) h.1.told);
      sound = λ s. c.in-GoesOn.ensures.sound (c.loop.invariant.sound s);
      calls = (suc c.loop.invariant.calls.0, (c.loop.host, c.loop.engine, c.loop.invariant.calls.1, c.take_turn.ensures.calls));
      host_faults = search rules;
      store_faults = search rules;
    }

pub returns-clause-ran : goal.returns-clause-ran
returns-clause-ran g c = (
  c.loop.invariant.asked.0,
  c.loop.invariant.asked.1,
  λ start before first told took is stands leaves.
      let H = g.H.Store in
      let s = c.loop.invariant.asked.2 start before first told took is stands leaves in
      let all : c.loop.counter ≡ most_turns = omega arith in
      all_made c.args.words.now H.moment H.left_since H.said H.may_leave H.seen g.H.Host.taken start c.loop.host c.loop.engine before first told c.loop.invariant.asked.0 c.loop.counter s all,
)

pub returns-in-Stops-clause-sound : goal.returns-in-Stops-clause-sound
returns-in-Stops-clause-sound g c = λ s. c.in-Stops.ensures.sound (c.loop.invariant.sound s)

pub returns-in-Stops-clause-which : goal.returns-in-Stops-clause-which
returns-in-Stops-clause-which g c = inr c.in-Stops.ensures.which

pub returns-in-Ends-clause-tells : goal.returns-in-Ends-clause-tells
returns-in-Ends-clause-tells g c = λ first took told is.
    let H = g.H.Store in
    let h = c.loop.invariant.heard first told took is in
    tells_ends H.moment H.left_since H.said H.may_leave H.seen g.H.Host.taken c.take_turn.new.host first told h.0 h.1.replied
    (c.in-Ends.ensures.tells (first ++ inputs_of h.0) h.1.took (told ++ pieces_of session (length first) h.0) h.1.told)

pub returns-in-Stops-clause-tells : goal.returns-in-Stops-clause-tells
returns-in-Stops-clause-tells g c = λ first took told is.
    let H = g.H.Store in
    let h = c.loop.invariant.heard first told took is in
    tells_stops H.moment H.left_since H.said H.may_leave H.seen g.H.Host.taken c.take_turn.new.host first told h.0 h.1.replied c.in-Stops.status c.in-Stops.ensures.which
    (c.in-Stops.ensures.tells (first ++ inputs_of h.0) h.1.took (told ++ pieces_of session (length first) h.0) h.1.told)

pub returns-clause-tells : goal.returns-clause-tells
returns-clause-tells g c = λ first took told is.
    let H = g.H.Store in
    let h = c.loop.invariant.heard first told took is in
    tells_all H.moment H.left_since H.said H.may_leave H.seen g.H.Host.taken c.loop.host first told h.0 h.1

pub returns-in-Ends-clause-calls : goal.returns-in-Ends-clause-calls
returns-in-Ends-clause-calls g c = (suc c.loop.invariant.calls.0, (c.loop.host, c.loop.engine, c.loop.invariant.calls.1, c.take_turn.ensures.calls))

pub returns-in-Stops-clause-calls : goal.returns-in-Stops-clause-calls
returns-in-Stops-clause-calls g c = (suc c.loop.invariant.calls.0, (c.loop.host, c.loop.engine, c.loop.invariant.calls.1, c.take_turn.ensures.calls))

pub returns-clause-calls : goal.returns-clause-calls
returns-clause-calls g c = c.loop.invariant.calls
