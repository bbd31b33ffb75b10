use Rattle.std.proofs.Common.{◌≡◌, ◌∙◌, ◌+◌, ◌-◌, ◌==◌, inl, inr, length, sym, ap, true, false, arith}
use Rattle.std.proofs.lemmas.Bool.{or_right, eq-eqb}
use Rattle.swf_queue.specs.Alarms.{is_by}
use Rattle.swf_queue.specs.Queue.{is_among}
use Rattle.swf_queue.proofs.AlarmLemmas.{ups, leaf, leaf_itself, above_down, front_among, there}
use Rattle.swf_queue.proofs.alarms.+wake_below.Goals as goal

pub returns-then-not-is_by-clause-woken : goal.returns-then-not-is_by-clause-woken
returns-then-not-is_by-clause-woken t c = λ n levels e h.
    let inner = c.args.inner.now in
    let alarms = c.args.alarms.now in
    let by_it = ups c.args.moment inner alarms c.requires.tournament levels (length inner + n) c.args.place e c.requires.place (leaf c.args.moment inner alarms n h) in
    let late : is_by c.args.moment c.node.result ≡ false = sym c.is_by.ensures ∙ c.if-not-is_by.true in
    let x : true ≡ false = sym by_it ∙ ap (is_by c.args.moment) (sym c.node.ensures) ∙ late in
    cc

pub returns-then-place-inner-clause-woken : goal.returns-then-place-inner-clause-woken
returns-then-place-inner-clause-woken t c = λ n levels e h.
    let inner = c.args.inner.now in
    let within = there c.args.moment c.args.alarms.now n h in
    let itself : length inner + n ≡ c.args.place = leaf_itself levels (length inner) n c.args.place (omega (arith, within, c.requires.tournament.wide)) (omega arith) e in
    c.put.ensures.among n ∙ or_right (is_among n c.args.queue.now.numbers) (n == (c.args.place - length inner)) (eq-eqb n (c.args.place - length inner) (omega (arith, itself)))

pub returns-clause-woken : goal.returns-clause-woken
returns-clause-woken t c = λ n levels e h.
    let inner = c.args.inner.now in
    let one = above_down levels (length inner + n) c.args.place e (λ f. omega (arith, f)) in
    elim one.1 [
      | inl g ↦ front_among c.wake_below.new.queue.numbers c.wake_below-2.new.queue.numbers c.wake_below-2.ensures.front n (c.wake_below.ensures.woken n one.0 g h)
      | inr g ↦ c.wake_below-2.ensures.woken n one.0 g h
    ]
