use Rattle.std.proofs.Common.{◌≡◌}
use Rattle.swf_check.proofs.RunLemmas.{none_came, nothing_said, all_said}
use Rattle.swf_check.proofs.run.run_check.Goals as goal

pub returns-in-Ok-judge-clause-runs : goal.returns-in-Ok-judge-clause-runs
returns-in-Ok-judge-clause-runs g c =
    let H = g.H.Store in
    let n = c.in-Ok.ensures in
    all_said H.moment H.left_since H.said H.may_leave g.H.Host.taken g.met.H.Store.only_now c.args.host.now c.next.new.self n.said n.stop n.time
    c.in-Ok.input n.taken c.tell.new.host c.in-Ok-judge.verdict.accepted c.in-Ok-judge.verdict.lines.items c.tell.result c.in-Ok-judge.ensures.0 c.in-Ok-judge.ensures.1 c.tell.ensures.tells

pub returns-clause-runs : goal.returns-clause-runs
returns-clause-runs g c =
    let H = g.H.Store in
    let n = c.in-Err.ensures in
    none_came H.moment H.left_since H.said H.may_leave g.H.Host.taken g.met.H.Store.only_now c.args.host.now c.next.new.self n.said n.stop n.time n.taken
