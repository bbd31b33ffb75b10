use Rattle.std.proofs.Common.{◌∙◌, ◌++◌, ap, map}
use Rattle.std.specs.List.{filter_map}
use Rattle.swf_meaning.specs.Pending.{listen_value, timer_value}
use Rattle.swf_strands.specs.Ways.{listens_at, until_at}
use Rattle.swf_reports.proofs.StrandsLemmas.{told_listen, told_timer, listening_is, waiting_is, listen_one, timer_one, told_one}
use Rattle.swf_reports.proofs.waits.push_instance.Goals as goal

pub loop-strand-init : goal.loop-strand-init
loop-strand-init c =
    let i = c.args.instance.now in
    let all = c.into_iter-strand-iterator.ensures.into_iter_gives.0 ∙ c.in_ok-strand-items.ensures in
    record {
      listens = ap (λ ys. c.args.listens.now.items ++ map (listen_value i) ys) (ap (filter_map (told_listen i.node)) all ∙ listening_is i.node);
      timers = ap (λ ys. c.args.timers.now.items ++ map (timer_value i) ys) (ap (filter_map (told_timer i.node)) all ∙ waiting_is i.node);
    }

pub loop-strand-preserved : goal.loop-strand-preserved
loop-strand-preserved c =
    let i = c.args.instance.now in
    let s = c.in-Some.strand in
    let left = c.in-Some.ensures.steps.0 in
    record {
      listens = told_one (told_listen i.node) (listen_value i) s _ _ _ _ _ _ left c.in_ok-push_listen.ensures (listen_one (listen_value i) s (listens_at s i.node)) c.loop-strand.invariant.listens;
      timers = told_one (told_timer i.node) (timer_value i) s _ _ _ _ _ _ left c.in_ok-push_timer.ensures (timer_one (timer_value i) s (until_at s i.node)) c.loop-strand.invariant.timers;
    }
