use Rattle.std.proofs.Common.{◌≡◌, ◌++◌, map}
use Rattle.std.specs.List.{filter_map}
use Rattle.swf_meaning.specs.Pending.{listening, waiting, listen_value, timer_value}
use Rattle.swf_reports.proofs.StrandsLemmas.{told_listen, told_timer}
use Rattle.swf_reports.proofs.waits.push_instance.Given as goal

-- with what is told of the strands that are left it is all
abbrev pub invariant-loop-strand : goal.invariant-loop-strand
invariant-loop-strand l =
    let i = l.instance in
    let left = l.strand-iterator.rest.items in
    record {
      listens : l.listens.items ++ map (listen_value i) (filter_map (told_listen i.node) left) ≡ l.fn.listens.items ++ map (listen_value i) (listening i.node);
      timers : l.timers.items ++ map (timer_value i) (filter_map (told_timer i.node) left) ≡ l.fn.timers.items ++ map (timer_value i) (waiting i.node);
    }
