use Rattle.swf_strands.proofs.ForkLemmas.{put-closed, put-open, put-top}
use Rattle.swf_strands.proofs.fork.put_anew.Goals as goal

pub returns-then-is_some : goal.returns-then-is_some
returns-then-is_some c =
    put-closed c.args.forest.now c.set_top.new.self c.close_children.new.self c.args.strand c.args.stand c.requires
    (put-top c.args.forest.now c.set_top.new.self c.args.strand c.args.stand c.set_top.result c.requires c.set_top.ensures.set c.set_top.ensures.handed_back) c.close_children.ensures.closed

pub returns-else-is_some : goal.returns-else-is_some
returns-else-is_some c =
    put-open c.args.forest.now c.set_top.new.self c.args.strand c.args.stand c.requires
    (put-top c.args.forest.now c.set_top.new.self c.args.strand c.args.stand c.set_top.result c.requires c.set_top.ensures.set c.set_top.ensures.handed_back)
    c.child.result c.is_some.result c.child.ensures c.is_some.ensures c.if-is_some.false
