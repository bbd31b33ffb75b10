use Rattle.std.proofs.Common.{◌≡◌, ◌∙◌, ◌+◌, ◌-◌, length, subst, sym, ap, arith, length-set}
use Rattle.swf_queue.proofs.AlarmLemmas.{WonFrom, won_more}
use Rattle.swf_queue.proofs.alarms.play_all.Goals as goal

pub loop-place-preserved : goal.loop-place-preserved
loop-place-preserved c =
    let next = c.loop-place.place - 1 in
    let inner = c.loop-place.inner in
    let as_long : length c.play.new.inner ≡ length inner = ap length c.play.ensures ∙ length-set inner next _ in
    let before : next + 1 ≡ c.loop-place.place = omega arith in
    record {
      within = omega (arith, as_long, c.loop-place.invariant.within);
      won = rw c.play.ensures (won_more inner c.args.alarms.now next (omega arith) (omega (arith, c.loop-place.invariant.within)) (subst (WonFrom inner c.args.alarms.now) (sym before) c.loop-place.invariant.won));
      len = omega (arith, as_long, c.loop-place.invariant.len);
    }
