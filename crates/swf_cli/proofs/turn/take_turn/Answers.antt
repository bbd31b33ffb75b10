use Rattle.std.proofs.Common.{◌≡◌, ◌∙◌, ap, sym, refl, subst, inl, inr, false, Ok, Err, Result, Option, Some, option_map, List, [], ◌∷◌, ◌++◌, arith}
use Rattle.swf_host.specs.declared.host.Input.{Input}
use Rattle.swf_host.specs.declared.host.NoWork.{NoWork}
use Rattle.swf_host.specs.declared.host.Input.TheVariants.{Ask as Asks, TooLong as TooLongInput, Closed}
use Rattle.swf_turns.proofs.TurnLemmas.{Comes, asked_reply, asked_full, asked_broken, too_long_done, closed_done, none_done}
use Rattle.swf_engine.specs.declared.fault.EngineFault.{EngineFault}
use Rattle.swf_engine.specs.declared.fault.EngineFault.TheVariants.{Damaged, Full}
use Rattle.swf_protocol.specs.Spoken.{spoken, full_bytes}
use Rattle.swf_protocol.specs.declared.reply.Reply.TheVariants.{TooLong}
use Rattle.swf_turns.specs.Faults.{ReadFaults}
use Rattle.swf_turns.specs.Dialect.{line_read}
use Rattle.swf_turns.specs.Steps.{IsSound, follows_end, reply_of}
use Rattle.swf_turns.specs.declared.answer.Answered.{Answered}
use Rattle.swf_turns.specs.declared.saying.After.TheVariants.{Stops}
use Rattle.swf_turns.proofs.FaultLemmas.{damage_of_history, full_of_labels, reply_of_history}
use Rattle.swf_turns.proofs.HeardLemmas.{reply_tells, full_tells, damage_tells}
use Rattle.swf_turns.proofs.SettlingLemmas.{asks_none}
use Rattle.swf_turns.proofs.SoundLemmas.{end_is_none, seven_is_none, sound_stays, sound_asked_as, sound_said}
use Rattle.swf_cli.proofs.turn.take_turn.Goals as goal

-- one more input, in what a host has taken
abbrev pub with_input : Option (List (Input NoWork)) → Input NoWork → Option (List (Input NoWork))
with_input taken i = option_map (λ (all : List (Input NoWork)). all ++ i ∷ []) taken

pub returns-in-Ok-clause-turn : goal.returns-in-Ok-clause-turn
returns-in-Ok-clause-turn g c = (
  c.answer_ask.ensures.done.0,
  c.answer_ask.ensures.done.1,
  λ image seen inputs taken pieces said history stands.
      let H = g.H.Store in
      let old = c.args.host.now in
      let one = c.next.new.self in
      let two = c.answer_ask.new.host in
      let line = c.as_slice.result.now in
      let conn = c.in-Ok-Ask.conn in
      let input : c.in-Ok-Ask.field-0 ≡ Asks conn line = c.in-Ok-Ask.field-0-is ∙ ap (Asks conn) (sym c.as_slice.ensures) in
      let came : Comes c.args.words.now c.answer_ask.ensures.done.0 H.moment H.left_since H.said H.may_leave H.seen g.met.H.Store.only_now g.H.Host.taken old one (Asks conn line) =
      record { took = c.in-Ok-Ask.ensures.taken ∙ ap (with_input (g.H.Host.taken old)) input; same = c.next.ensures.seen; silent = c.next.ensures.said; stop = c.next.ensures.stop; time = c.next.ensures.time } in
      asked_reply c.args.words.now c.answer_ask.ensures.done.0 H.moment H.left_since H.said H.may_leave H.seen g.met.H.Store.only_now g.H.Host.taken old one c.args.engine.now image history inputs pieces seen taken said stands
      two c.say.new.host c.answer_ask.new.engine conn line c.answer_ask.result c.in-Ok.answered c.say.result came c.answer_ask.ensures.done.2 c.in-Ok.is c.in-Ok.ensures.ends
      c.answer_ask.ensures.taken c.answer_ask.ensures.said c.say.ensures.says,
)

pub returns-in-Err-Full-clause-turn : goal.returns-in-Err-Full-clause-turn
returns-in-Err-Full-clause-turn g c = (
  c.answer_ask.ensures.done.0,
  c.answer_ask.ensures.done.1,
  λ image seen inputs taken pieces said history stands.
      let H = g.H.Store in
      let old = c.args.host.now in
      let one = c.next.new.self in
      let line = c.as_slice.result.now in
      let conn = c.in-Ok-Ask.conn in
      let input : c.in-Ok-Ask.field-0 ≡ Asks conn line = c.in-Ok-Ask.field-0-is ∙ ap (Asks conn) (sym c.as_slice.ensures) in
      let came : Comes c.args.words.now c.answer_ask.ensures.done.0 H.moment H.left_since H.said H.may_leave H.seen g.met.H.Store.only_now g.H.Host.taken old one (Asks conn line) =
      record { took = c.in-Ok-Ask.ensures.taken ∙ ap (with_input (g.H.Host.taken old)) input; same = c.next.ensures.seen; silent = c.next.ensures.said; stop = c.next.ensures.stop; time = c.next.ensures.time } in
      asked_full c.args.words.now c.answer_ask.ensures.done.0 H.moment H.left_since H.said H.may_leave H.seen g.met.H.Store.only_now g.H.Host.taken old one c.args.engine.now image history inputs pieces seen taken said stands
      c.answer_ask.new.host c.say_full.new.host c.answer_ask.new.engine conn line c.answer_ask.result c.in-Err-Full.size c.say_full.result came c.answer_ask.ensures.done.2 (c.in-Err-Full.is ∙ ap Err c.in-Err-Full.field-0-is)
      c.answer_ask.ensures.taken c.answer_ask.ensures.said c.say_full.ensures.says,
)

pub returns-in-Err-Store-clause-turn : goal.returns-in-Err-Store-clause-turn
returns-in-Err-Store-clause-turn g c = (
  c.answer_ask.ensures.done.0,
  c.answer_ask.ensures.done.1,
  λ image seen inputs taken pieces said history stands.
      let H = g.H.Store in
      let old = c.args.host.now in
      let one = c.next.new.self in
      let line = c.as_slice.result.now in
      let conn = c.in-Ok-Ask.conn in
      let input : c.in-Ok-Ask.field-0 ≡ Asks conn line = c.in-Ok-Ask.field-0-is ∙ ap (Asks conn) (sym c.as_slice.ensures) in
      let came : Comes c.args.words.now c.answer_ask.ensures.done.0 H.moment H.left_since H.said H.may_leave H.seen g.met.H.Store.only_now g.H.Host.taken old one (Asks conn line) =
      record { took = c.in-Ok-Ask.ensures.taken ∙ ap (with_input (g.H.Host.taken old)) input; same = c.next.ensures.seen; silent = c.next.ensures.said; stop = c.next.ensures.stop; time = c.next.ensures.time } in
      asked_broken c.args.words.now c.answer_ask.ensures.done.0 H.moment H.left_since H.said H.may_leave H.seen g.met.H.Store.only_now g.H.Host.taken old one c.args.engine.now image history inputs pieces seen taken said stands
      c.answer_ask.new.host c.answer_ask.new.engine conn line c.answer_ask.result came c.answer_ask.ensures.done.2 (c.in-Err-Store.is ∙ ap Err c.in-Err-Store.field-0-is) c.answer_ask.ensures.taken c.answer_ask.ensures.said,
)

pub returns-in-Ok-TooLong-clause-turn : goal.returns-in-Ok-TooLong-clause-turn
returns-in-Ok-TooLong-clause-turn g c = (
  [],
  asks_none _ _,
  λ image seen inputs taken pieces said history stands.
      let H = g.H.Store in
      let old = c.args.host.now in
      let one = c.next.new.self in
      let came : Comes c.args.words.now [] H.moment H.left_since H.said H.may_leave H.seen g.met.H.Store.only_now g.H.Host.taken old one (TooLongInput c.in-Ok-TooLong.conn) =
      record { took = c.in-Ok-TooLong.ensures.taken ∙ ap (with_input (g.H.Host.taken old)) c.in-Ok-TooLong.field-0-is; same = c.next.ensures.seen; silent = c.next.ensures.said; stop = c.next.ensures.stop; time = c.next.ensures.time } in
      too_long_done c.args.words.now [] H.moment H.left_since H.said H.may_leave H.seen g.met.H.Store.only_now g.H.Host.taken old one c.args.engine.now image history inputs pieces seen taken said stands
      c.say-in-Ok-TooLong.new.host c.in-Ok-TooLong.conn c.say-in-Ok-TooLong.result came c.say-in-Ok-TooLong.ensures.says,
)

pub returns-in-Ok-Closed-clause-turn : goal.returns-in-Ok-Closed-clause-turn
returns-in-Ok-Closed-clause-turn g c = (
  [],
  asks_none _ _,
  λ image seen inputs taken pieces said history stands.
      let H = g.H.Store in
      let old = c.args.host.now in
      let one = c.next.new.self in
      let came : Comes c.args.words.now [] H.moment H.left_since H.said H.may_leave H.seen g.met.H.Store.only_now g.H.Host.taken old one Closed =
      record { took = c.in-Ok-Closed.ensures.taken ∙ ap (with_input (g.H.Host.taken old)) c.in-Ok-Closed.field-0-is; same = c.next.ensures.seen; silent = c.next.ensures.said; stop = c.next.ensures.stop; time = c.next.ensures.time } in
      closed_done c.args.words.now [] H.moment H.left_since H.said H.may_leave H.seen g.met.H.Store.only_now g.H.Host.taken old one c.args.engine.now image history inputs pieces seen taken said stands came,
)

pub returns-clause-turn : goal.returns-clause-turn
returns-clause-turn g c = (
  [],
  asks_none _ _,
  λ image seen inputs taken pieces said history stands.
      let H = g.H.Store in
      none_done c.args.words.now [] H.moment H.left_since H.said H.may_leave H.seen g.met.H.Store.only_now g.H.Host.taken c.args.host.now c.next.new.self c.args.engine.now image history inputs pieces seen taken said stands
      c.next.ensures.stop c.next.ensures.time c.in-Err.ensures.taken,
)

pub returns-in-Ok-clause-sound : goal.returns-in-Ok-clause-sound
returns-in-Ok-clause-sound g c = λ s.
    let H = g.H.Store in
    let one = c.next.new.self in
    let first = sound_stays c.args.words.now c.answer_ask.ensures.done.0 H.moment H.left_since H.said H.may_leave H.seen c.args.host.now one c.args.engine.now c.next.ensures.seen c.next.ensures.stop s in
    let asked = sound_asked_as c.args.words.now c.answer_ask.ensures.done.0 H.moment H.left_since H.said H.may_leave H.seen (line_read c.as_slice.result.now) one c.answer_ask.new.host c.args.engine.now c.answer_ask.new.engine c.answer_ask.result (Ok c.in-Ok.answered) (c.in-Ok.is) first c.answer_ask.ensures.done.2 in
    sound_said c.args.words.now c.answer_ask.ensures.done.0 H.moment H.left_since H.said H.may_leave H.seen g.H.Host.taken c.answer_ask.new.host c.say.new.host c.answer_ask.new.engine c.in-Ok-Ask.conn (spoken c.in-Ok.answered.reply) (follows_end c.in-Ok.answered.ends) c.say.result
    (end_is_none c.in-Ok.answered.ends) c.say.ensures.says asked

pub returns-in-Err-Full-clause-sound : goal.returns-in-Err-Full-clause-sound
returns-in-Err-Full-clause-sound g c = λ s.
    let H = g.H.Store in
    let one = c.next.new.self in
    let first = sound_stays c.args.words.now c.answer_ask.ensures.done.0 H.moment H.left_since H.said H.may_leave H.seen c.args.host.now one c.args.engine.now c.next.ensures.seen c.next.ensures.stop s in
    let asked = sound_asked_as c.args.words.now c.answer_ask.ensures.done.0 H.moment H.left_since H.said H.may_leave H.seen (line_read c.as_slice.result.now) one c.answer_ask.new.host c.args.engine.now c.answer_ask.new.engine c.answer_ask.result (Err (Full c.in-Err-Full.size)) (c.in-Err-Full.is ∙ ap Err c.in-Err-Full.field-0-is) first c.answer_ask.ensures.done.2 in
    sound_said c.args.words.now c.answer_ask.ensures.done.0 H.moment H.left_since H.said H.may_leave H.seen g.H.Host.taken c.answer_ask.new.host c.say_full.new.host c.answer_ask.new.engine c.in-Ok-Ask.conn (full_bytes c.in-Err-Full.size) (Stops 7) c.say_full.result
    (seven_is_none) c.say_full.ensures.says asked

pub returns-in-Err-Damaged-clause-sound : goal.returns-in-Err-Damaged-clause-sound
returns-in-Err-Damaged-clause-sound g c = λ s.
    let H = g.H.Store in
    let one = c.next.new.self in
    let first = sound_stays c.args.words.now c.answer_ask.ensures.done.0 H.moment H.left_since H.said H.may_leave H.seen c.args.host.now one c.args.engine.now c.next.ensures.seen c.next.ensures.stop s in
    let asked = sound_asked_as c.args.words.now c.answer_ask.ensures.done.0 H.moment H.left_since H.said H.may_leave H.seen (line_read c.as_slice.result.now) one c.answer_ask.new.host c.args.engine.now c.answer_ask.new.engine c.answer_ask.result (Err (Damaged c.in-Err-Damaged.at)) (c.in-Err-Damaged.is ∙ ap Err c.in-Err-Damaged.field-0-is) first c.answer_ask.ensures.done.2 in
    absurd asked

pub returns-in-Err-Damaged-clause-turn : goal.returns-in-Err-Damaged-clause-turn
returns-in-Err-Damaged-clause-turn g c = (
  c.answer_ask.ensures.done.0,
  c.answer_ask.ensures.done.1,
  λ image seen inputs taken pieces said history stands.
      let H = g.H.Store in
      let one = c.next.new.self in
      let s : IsSound H.moment H.left_since H.said H.may_leave H.seen c.args.host.now c.args.engine.now = (history, (image, seen, stands)) in
      let first = sound_stays c.args.words.now c.answer_ask.ensures.done.0 H.moment H.left_since H.said H.may_leave H.seen c.args.host.now one c.args.engine.now c.next.ensures.seen c.next.ensures.stop s in
      let asked = sound_asked_as c.args.words.now c.answer_ask.ensures.done.0 H.moment H.left_since H.said H.may_leave H.seen (line_read c.as_slice.result.now) one c.answer_ask.new.host c.args.engine.now c.answer_ask.new.engine c.answer_ask.result (Err (Damaged c.in-Err-Damaged.at)) (c.in-Err-Damaged.is ∙ ap Err c.in-Err-Damaged.field-0-is) first c.answer_ask.ensures.done.2 in
      absurd asked,
)

pub returns-in-Ok-TooLong-clause-sound : goal.returns-in-Ok-TooLong-clause-sound
returns-in-Ok-TooLong-clause-sound g c = λ s.
    let H = g.H.Store in
    let one = c.next.new.self in
    let first = sound_stays c.args.words.now [] H.moment H.left_since H.said H.may_leave H.seen c.args.host.now one c.args.engine.now c.next.ensures.seen c.next.ensures.stop s in
    sound_said c.args.words.now [] H.moment H.left_since H.said H.may_leave H.seen g.H.Host.taken one c.say-in-Ok-TooLong.new.host c.args.engine.now c.in-Ok-TooLong.conn (spoken TooLong) (follows_end false) c.say-in-Ok-TooLong.result
    (end_is_none false) c.say-in-Ok-TooLong.ensures.says first

pub returns-in-Ok-clause-tells : goal.returns-in-Ok-clause-tells
returns-in-Ok-clause-tells g c = λ inputs taken pieces said.
    let H = g.H.Store in
    let old = c.args.host.now in
    let two = c.answer_ask.new.host in
    let line = c.as_slice.result.now in
    let conn = c.in-Ok-Ask.conn in
    let input : c.in-Ok-Ask.field-0 ≡ Asks conn line = c.in-Ok-Ask.field-0-is ∙ ap (Asks conn) (sym c.as_slice.ensures) in
    let took : g.H.Host.taken two ≡ Some (inputs ++ Asks conn line ∷ []) =
    c.answer_ask.ensures.taken ∙ c.in-Ok-Ask.ensures.taken ∙ ap (with_input (g.H.Host.taken old)) input ∙ ap (λ (t : Option (List (Input NoWork))). with_input t (Asks conn line)) taken in
    let silent : H.said two ≡ Some pieces = c.answer_ask.ensures.said ∙ c.next.ensures.said ∙ said in
    reply_tells H.moment H.left_since H.said H.may_leave H.seen g.H.Host.taken two c.say.new.host inputs pieces (Asks conn line) c.in-Ok.answered.reply c.in-Ok.answered.ends c.say.result took silent
    (line_read line, refl, reply_of_history (H.seen two) (line_read line) c.answer_ask.result c.in-Ok.answered c.in-Ok.is c.answer_ask.ensures.faults) c.in-Ok.ensures.ends c.say.ensures.says

pub returns-in-Err-Full-clause-tells : goal.returns-in-Err-Full-clause-tells
returns-in-Err-Full-clause-tells g c = λ inputs taken pieces said.
    let H = g.H.Store in
    let old = c.args.host.now in
    let two = c.answer_ask.new.host in
    let line = c.as_slice.result.now in
    let conn = c.in-Ok-Ask.conn in
    let input : c.in-Ok-Ask.field-0 ≡ Asks conn line = c.in-Ok-Ask.field-0-is ∙ ap (Asks conn) (sym c.as_slice.ensures) in
    let took : g.H.Host.taken two ≡ Some (inputs ++ Asks conn line ∷ []) =
    c.answer_ask.ensures.taken ∙ c.in-Ok-Ask.ensures.taken ∙ ap (with_input (g.H.Host.taken old)) input ∙ ap (λ (t : Option (List (Input NoWork))). with_input t (Asks conn line)) taken in
    let silent : H.said two ≡ Some pieces = c.answer_ask.ensures.said ∙ c.next.ensures.said ∙ said in
    full_tells H.moment H.left_since H.said H.may_leave H.seen g.H.Host.taken two c.say_full.new.host inputs pieces conn line c.in-Err-Full.size c.say_full.result took silent
    (full_of_labels (H.seen two) (line_read line) c.in-Err-Full.size
    (subst (λ (r : Result Answered EngineFault). ReadFaults (H.seen two) (line_read line) (reply_of r)) (c.in-Err-Full.is ∙ ap Err c.in-Err-Full.field-0-is) c.answer_ask.ensures.faults))
    c.say_full.ensures.says

pub returns-in-Err-Damaged-clause-tells : goal.returns-in-Err-Damaged-clause-tells
returns-in-Err-Damaged-clause-tells g c = λ inputs taken pieces said.
    let H = g.H.Store in
    let old = c.args.host.now in
    let two = c.answer_ask.new.host in
    let line = c.as_slice.result.now in
    let conn = c.in-Ok-Ask.conn in
    let input : c.in-Ok-Ask.field-0 ≡ Asks conn line = c.in-Ok-Ask.field-0-is ∙ ap (Asks conn) (sym c.as_slice.ensures) in
    let took : g.H.Host.taken two ≡ Some (inputs ++ Asks conn line ∷ []) =
    c.answer_ask.ensures.taken ∙ c.in-Ok-Ask.ensures.taken ∙ ap (with_input (g.H.Host.taken old)) input ∙ ap (λ (t : Option (List (Input NoWork))). with_input t (Asks conn line)) taken in
    let silent : H.said two ≡ Some pieces = c.answer_ask.ensures.said ∙ c.next.ensures.said ∙ said in
    let found = damage_of_history (H.seen two) (line_read line) c.in-Err-Damaged.at
    (subst (λ (r : Result Answered EngineFault). ReadFaults (H.seen two) (line_read line) (reply_of r)) (c.in-Err-Damaged.is ∙ ap Err c.in-Err-Damaged.field-0-is) c.answer_ask.ensures.faults) in
    damage_tells H.moment H.left_since H.said H.may_leave H.seen g.H.Host.taken two c.say_damage.new.host inputs pieces conn line found.0 c.in-Err-Damaged.at c.say_damage.result took silent found.1 found.2 c.say_damage.ensures.says

pub returns-in-Ok-TooLong-clause-tells : goal.returns-in-Ok-TooLong-clause-tells
returns-in-Ok-TooLong-clause-tells g c = λ inputs taken pieces said.
    let H = g.H.Store in
    let old = c.args.host.now in
    let conn = c.in-Ok-TooLong.conn in
    let took : g.H.Host.taken c.next.new.self ≡ Some (inputs ++ TooLongInput conn ∷ []) =
    c.in-Ok-TooLong.ensures.taken ∙ ap (with_input (g.H.Host.taken old)) c.in-Ok-TooLong.field-0-is ∙ ap (λ (t : Option (List (Input NoWork))). with_input t (TooLongInput conn)) taken in
    reply_tells H.moment H.left_since H.said H.may_leave H.seen g.H.Host.taken c.next.new.self c.say-in-Ok-TooLong.new.host inputs pieces (TooLongInput conn) TooLong false c.say-in-Ok-TooLong.result took (c.next.ensures.said ∙ said) refl refl
    c.say-in-Ok-TooLong.ensures.says

pub returns-in-Ok-Closed-clause-tells : goal.returns-in-Ok-Closed-clause-tells
returns-in-Ok-Closed-clause-tells g c = λ inputs taken pieces said.
    let old = c.args.host.now in
    inl (
      c.in-Ok-Closed.ensures.taken ∙ ap (with_input (g.H.Host.taken old)) c.in-Ok-Closed.field-0-is ∙ ap (λ (t : Option (List (Input NoWork))). with_input t Closed) taken,
      c.next.ensures.said ∙ said,
    )

pub returns-in-Err-Store-clause-tells : goal.returns-in-Err-Store-clause-tells
returns-in-Err-Store-clause-tells g c = λ inputs taken pieces said. (λ five. absurd (omega (arith, five)), λ seven. absurd (omega (arith, seven)))

pub returns-clause-tells : goal.returns-clause-tells
returns-clause-tells g c = λ inputs taken pieces said. (λ five. absurd (omega (arith, five)), λ seven. absurd (omega (arith, seven)))

pub returns-in-Ok-clause-calls : goal.returns-in-Ok-clause-calls
returns-in-Ok-clause-calls g c =
    let line = c.as_slice.result.now in
    let conn = c.in-Ok-Ask.conn in
    let input : c.in-Ok-Ask.field-0 ≡ Asks conn line = c.in-Ok-Ask.field-0-is ∙ ap (Asks conn) (sym c.as_slice.ensures) in
    inl (
      Asks conn line,
      λ inputs is.
          c.say.ensures.says.taken_same ∙ c.answer_ask.ensures.taken ∙ c.in-Ok-Ask.ensures.taken ∙ ap (with_input (g.H.Host.taken c.args.host.now)) input ∙ ap (λ (t : Option (List (Input NoWork))). with_input t (Asks conn line)) is,
      record { taken = c.next.new.self; answered = c.answer_ask.new.host; take = c.next.ensures.calls; made = c.answer_ask.ensures.calls; say = c.say.ensures.calls },
    )

pub returns-in-Err-Full-clause-calls : goal.returns-in-Err-Full-clause-calls
returns-in-Err-Full-clause-calls g c =
    let line = c.as_slice.result.now in
    let conn = c.in-Ok-Ask.conn in
    let input : c.in-Ok-Ask.field-0 ≡ Asks conn line = c.in-Ok-Ask.field-0-is ∙ ap (Asks conn) (sym c.as_slice.ensures) in
    inl (
      Asks conn line,
      λ inputs is.
          c.say_full.ensures.says.taken_same ∙ c.answer_ask.ensures.taken ∙ c.in-Ok-Ask.ensures.taken ∙ ap (with_input (g.H.Host.taken c.args.host.now)) input ∙ ap (λ (t : Option (List (Input NoWork))). with_input t (Asks conn line)) is,
      record { taken = c.next.new.self; answered = c.answer_ask.new.host; take = c.next.ensures.calls; made = c.answer_ask.ensures.calls; say = c.say_full.ensures.calls },
    )

pub returns-in-Err-Damaged-clause-calls : goal.returns-in-Err-Damaged-clause-calls
returns-in-Err-Damaged-clause-calls g c =
    let line = c.as_slice.result.now in
    let conn = c.in-Ok-Ask.conn in
    let input : c.in-Ok-Ask.field-0 ≡ Asks conn line = c.in-Ok-Ask.field-0-is ∙ ap (Asks conn) (sym c.as_slice.ensures) in
    inl (
      Asks conn line,
      λ inputs is.
          c.say_damage.ensures.taken ∙ c.answer_ask.ensures.taken ∙ c.in-Ok-Ask.ensures.taken ∙ ap (with_input (g.H.Host.taken c.args.host.now)) input ∙ ap (λ (t : Option (List (Input NoWork))). with_input t (Asks conn line)) is,
      record { taken = c.next.new.self; answered = c.answer_ask.new.host; take = c.next.ensures.calls; made = c.answer_ask.ensures.calls; say = c.say_damage.ensures.calls },
    )

pub returns-in-Err-Store-clause-calls : goal.returns-in-Err-Store-clause-calls
returns-in-Err-Store-clause-calls g c =
    let line = c.as_slice.result.now in
    let conn = c.in-Ok-Ask.conn in
    let input : c.in-Ok-Ask.field-0 ≡ Asks conn line = c.in-Ok-Ask.field-0-is ∙ ap (Asks conn) (sym c.as_slice.ensures) in
    inl (
      Asks conn line,
      λ inputs is.
          c.answer_ask.ensures.taken ∙ c.in-Ok-Ask.ensures.taken ∙ ap (with_input (g.H.Host.taken c.args.host.now)) input ∙ ap (λ (t : Option (List (Input NoWork))). with_input t (Asks conn line)) is,
      record { taken = c.next.new.self; answered = c.answer_ask.new.host; take = c.next.ensures.calls; made = c.answer_ask.ensures.calls; say = refl },
    )

pub returns-in-Ok-TooLong-clause-calls : goal.returns-in-Ok-TooLong-clause-calls
returns-in-Ok-TooLong-clause-calls g c = inl (
  TooLongInput c.in-Ok-TooLong.conn,
  λ inputs is.
      c.say-in-Ok-TooLong.ensures.says.taken_same ∙ c.in-Ok-TooLong.ensures.taken ∙ ap (with_input (g.H.Host.taken c.args.host.now)) c.in-Ok-TooLong.field-0-is ∙ ap (λ (t : Option (List (Input NoWork))). with_input t (TooLongInput c.in-Ok-TooLong.conn)) is,
  c.say-in-Ok-TooLong.ensures.calls ∙ c.next.ensures.calls,
)

pub returns-in-Ok-Closed-clause-calls : goal.returns-in-Ok-Closed-clause-calls
returns-in-Ok-Closed-clause-calls g c = inl (
  Closed,
  λ inputs is.
      c.in-Ok-Closed.ensures.taken ∙ ap (with_input (g.H.Host.taken c.args.host.now)) c.in-Ok-Closed.field-0-is ∙ ap (λ (t : Option (List (Input NoWork))). with_input t (Closed)) is,
  c.next.ensures.calls,
)

pub returns-clause-calls : goal.returns-clause-calls
returns-clause-calls g c = inr c.next.ensures.calls
