use Rattle.std.proofs.Common.{◌≡◌, ◌∙◌, refl, sym, None}
use Rattle.std.specs.Prelude.{option_and_then}
use Rattle.swf_strands.specs.Ways.{own_until}
use Rattle.swf_strands.proofs.TopLemmas.{until-at}
use Rattle.swf_strands.proofs.TreeLemmas.{root-held}
use Rattle.swf_tasks.proofs.WayLemmas.{on-strand, no-strand, way-held}
use Rattle.swf_tasks.proofs.machine.Machine.until.Goals as goal

pub strand_at-requires : goal.strand_at-requires
strand_at-requires c = root-held c.self.inside.forest c.root.result c.root.ensures.root c.root.ensures.distinct c.self.invariant.0

pub returns-in_err-strand : goal.returns-in_err-strand
returns-in_err-strand c =
    c.from_residual.ensures ∙ no-strand (λ o. None ≡ option_and_then own_until o) c.self.inside.setting c.self.inside.forest c.root.result c.as_slice.result.now c.args.strand.now c.args.self.now c.self.view_is c.root.ensures.root c.self.invariant.0 c.as_slice.ensures c.in_err-strand.ensures.none refl
    ∙ sym (until-at c.args.strand.now c.args.self.now.node)

pub own_until-requires : goal.own_until-requires
own_until-requires c = way-held c.self.inside.forest c.root.result c.in_ok-strand.strand c.as_slice.result.now (root-held c.self.inside.forest c.root.result c.root.ensures.root c.root.ensures.distinct c.self.invariant.0) c.in_ok-strand.ensures.found

pub returns : goal.returns
returns c =
    on-strand (λ o. c.own_until.result ≡ option_and_then own_until o) c.self.inside.setting c.self.inside.forest c.root.result c.in_ok-strand.strand c.as_slice.result.now c.args.strand.now c.args.self.now c.self.view_is c.root.ensures.root c.self.invariant.0 c.as_slice.ensures c.in_ok-strand.ensures.found c.own_until.ensures
    ∙ sym (until-at c.args.strand.now c.args.self.now.node)
