use Rattle.std.proofs.Common.{◌≡◌, ◌∙◌, ◌+◌, ◌*◌, ◌/◌, ◌<◌, refl, length, take, drop, ◌++◌, subst, sym, ap, arith, length-set}
use Rattle.std.proofs.Math.ListN.{set}
use Rattle.swf_queue.specs.Alarms.{node, sooner}
use Rattle.swf_queue.proofs.AlarmLemmas.{WonBut, set_leaf, set_inner, written_back}
use Rattle.swf_queue.proofs.alarms.Alarms.set.Goals as goal

pub loop-place-init : goal.loop-place-init
loop-place-init c =
    let inner = c.self.inside.inner.items in
    let alarms = c.self.inside.alarms.items in
    let width : c.len.result ≡ length inner = omega (arith, c.len.ensures, c.self.inside.inner.ok) in
    let known : c.args.number < length alarms = omega (arith, c.requires, ap (λ a. length a.moments) c.self.view_is) in
    record {
      inside = omega (arith, width, known, c.self.invariant.wide);
      won = subst (λ w. WonBut inner (set alarms c.args.number c.args.until) ((w + c.args.number) / 2)) (sym width) (set_leaf inner alarms c.args.number c.args.until c.self.invariant);
      wide = refl;
      alarms = refl;
    }

pub loop-place-preserved : goal.loop-place-preserved
loop-place-preserved c =
    let place = c.loop-place.place in
    let inner = c.loop-place.self-inside.inner.items in
    let alarms = c.loop-place.self-inside.alarms.items in
    let played : c.play.new.inner ≡ set inner place (sooner (node inner alarms (2 * place)) (node inner alarms (2 * place + 1))) =
    rw (c.deref_mut.ensures.value, c.deref.ensures.value) at c.play.ensures in
    let as_long : length c.play.new.inner ≡ length inner = ap length played ∙ length-set inner place _ in
    let all : take c.loop-place.self-inside.inner.len (c.play.new.inner ++ drop (length c.play.new.inner) inner) ≡ c.play.new.inner =
    written_back c.loop-place.self-inside.inner.len c.play.new.inner (drop (length c.play.new.inner) inner) (omega (arith, as_long, c.loop-place.self-inside.inner.ok)) in
    record {
      inside = omega (arith, ap length all, as_long, c.loop-place.invariant.inside);
      won = subst (λ i. WonBut i alarms (place / 2)) (sym (all ∙ played)) (set_inner inner alarms place (omega arith) c.loop-place.invariant.inside c.loop-place.invariant.won);
      wide = omega (arith, ap length all, as_long, c.loop-place.invariant.wide);
      alarms = c.loop-place.invariant.alarms;
    }
