use Rattle.std.proofs.Common.{◌≡◌, subst, sym, true}
use Rattle.swf_frames.specs.Tree.{Tree}
use Rattle.swf_stack.specs.declared.made.Stand.{Stand}
use Rattle.swf_strands.specs.Strands.{IsGrown, made_stand, root_node}
use Rattle.swf_strands.specs.Ways.{has_strand}
use Rattle.swf_strands.proofs.ForkLemmas.{IsWith, at-held, no-way, put-fork}
use Rattle.swf_strands.proofs.TreeLemmas.{root-held}
use Rattle.swf_strands.proofs.fork.forked.Goals as goal

pub strand_at-requires : goal.strand_at-requires
strand_at-requires c = root-held c.in_ok-forest.forest c.root.result c.root.ensures.root c.root.ensures.distinct (subst (λ (t : Tree Stand). IsGrown t.strands) (sym c.in_ok-forest.ensures) c.requires.grown)

pub unreachable-requires : goal.unreachable-requires
unreachable-requires c =
    let same = sym c.in_ok-forest.ensures in
    no-way c.in_ok-forest.forest c.root.result c.args.changed.now c.root.ensures.root (subst (λ (t : Tree Stand). IsGrown t.strands) same c.requires.grown) c.in_default.ensures.none
    (subst (λ (t : Tree Stand). has_strand c.args.changed.now (root_node t.strands) ≡ true) same c.requires.there)

pub put_anew-requires : goal.put_anew-requires
put_anew-requires c =
    at-held c.in_ok-forest.forest c.root.result c.in-Some.strand c.args.changed.now c.root.ensures.root c.root.ensures.distinct (subst (λ (t : Tree Stand). IsGrown t.strands) (sym c.in_ok-forest.ensures) c.requires.grown) c.in-Some.ensures.found

pub returns-in-Ok-clause-grown : goal.returns-in-Ok-clause-grown
returns-in-Ok-clause-grown c =
    (put-fork c.in_ok-forest.forest c.put_anew.new.forest c.split.new.self c.root.result c.in-Some.strand c.args.changed.now c.args.stand c.args.branches.items c.root.ensures.root c.root.ensures.distinct
    (subst (λ (t : Tree Stand). IsGrown t.strands) (sym c.in_ok-forest.ensures) c.requires.grown) c.in-Some.ensures.found c.requires.branches c.requires.few c.put_anew.ensures c.in-Ok.ensures.ok).0

pub returns-in-Ok-clause-node : goal.returns-in-Ok-clause-node
returns-in-Ok-clause-node c =
    (subst (λ (t : Tree Stand). IsWith t.strands c.args.changed.now (made_stand c.args.stand) c.split.new.self.strands) c.in_ok-forest.ensures
    (put-fork c.in_ok-forest.forest c.put_anew.new.forest c.split.new.self c.root.result c.in-Some.strand c.args.changed.now c.args.stand c.args.branches.items c.root.ensures.root c.root.ensures.distinct
    (subst (λ (t : Tree Stand). IsGrown t.strands) (sym c.in_ok-forest.ensures) c.requires.grown) c.in-Some.ensures.found c.requires.branches c.requires.few c.put_anew.ensures c.in-Ok.ensures.ok)).1
