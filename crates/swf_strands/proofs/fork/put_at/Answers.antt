use Rattle.swf_strands.proofs.ForkLemmas.{at-held, no-way, put-alone}
use Rattle.swf_strands.proofs.TreeLemmas.{root-held}
use Rattle.swf_strands.proofs.fork.put_at.Goals as goal

pub strand_at-requires : goal.strand_at-requires
strand_at-requires c = root-held c.args.forest.now c.root.result c.root.ensures.root c.root.ensures.distinct c.requires.grown

pub unreachable-requires : goal.unreachable-requires
unreachable-requires c = no-way c.args.forest.now c.root.result c.args.changed.now c.root.ensures.root c.requires.grown c.in_default.ensures.none c.requires.there

pub put_anew-requires : goal.put_anew-requires
put_anew-requires c = at-held c.args.forest.now c.root.result c.in-Some.strand c.args.changed.now c.root.ensures.root c.root.ensures.distinct c.requires.grown c.in-Some.ensures.found

pub returns-clause-grown : goal.returns-clause-grown
returns-clause-grown c =
    (put-alone c.args.forest.now c.put_anew.new.forest c.root.result c.in-Some.strand c.args.changed.now c.args.stand c.root.ensures.root c.root.ensures.distinct c.requires.grown c.in-Some.ensures.found c.put_anew.ensures).0

pub returns-clause-node : goal.returns-clause-node
returns-clause-node c =
    (put-alone c.args.forest.now c.put_anew.new.forest c.root.result c.in-Some.strand c.args.changed.now c.args.stand c.root.ensures.root c.root.ensures.distinct c.requires.grown c.in-Some.ensures.found c.put_anew.ensures).1
