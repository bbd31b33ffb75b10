use Rattle.std.proofs.Common.{◌≡◌, take}
use Rattle.swf_meaning.specs.Pending.{listens, timers}
use Rattle.swf_reports.proofs.waits.pending.Given as goal

-- what the instances so far wait for
abbrev pub invariant-loop-number : goal.invariant-loop-number
invariant-loop-number l =
    let is = l.instances.instances in
    record {
      listens : l.listens.items ≡ listens (take l.number is);
      timers : l.timers.items ≡ timers (take l.number is);
    }
