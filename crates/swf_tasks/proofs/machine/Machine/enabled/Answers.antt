use Rattle.std.proofs.Common.{◌≡◌, ◌∙◌, refl, sym, false}
use Rattle.swf_meaning.specs.Strands.{can_top}
use Rattle.swf_strands.proofs.TopLemmas.{top_there, top_is-at}
use Rattle.swf_strands.proofs.TreeLemmas.{root-held}
use Rattle.swf_tasks.proofs.WayLemmas.{on-strand, no-strand, way-held}
use Rattle.swf_tasks.proofs.machine.Machine.enabled.Goals as goal

pub strand_at-requires : goal.strand_at-requires
strand_at-requires c = root-held c.self.inside.forest c.root.result c.root.ensures.root c.root.ensures.distinct c.self.invariant.0

pub enabled_here-requires : goal.enabled_here-requires
enabled_here-requires c = way-held c.self.inside.forest c.root.result c.in-Some.strand c.as_slice.result.now (root-held c.self.inside.forest c.root.result c.root.ensures.root c.root.ensures.distinct c.self.invariant.0) c.in-Some.ensures.found

pub returns-in-Some : goal.returns-in-Some
returns-in-Some c =
    on-strand (λ o. c.enabled_here.result ≡ top_there (can_top c.args.now) o) c.self.inside.setting c.self.inside.forest c.root.result c.in-Some.strand c.as_slice.result.now c.args.strand.now c.args.self.now c.self.view_is c.root.ensures.root c.self.invariant.0 c.as_slice.ensures c.in-Some.ensures.found c.enabled_here.ensures
    ∙ sym (top_is-at (can_top c.args.now) c.args.strand.now c.args.self.now.node)

pub returns-in-None : goal.returns-in-None
returns-in-None c =
    no-strand (λ o. false ≡ top_there (can_top c.args.now) o) c.self.inside.setting c.self.inside.forest c.root.result c.as_slice.result.now c.args.strand.now c.args.self.now c.self.view_is c.root.ensures.root c.self.invariant.0 c.as_slice.ensures c.in-None.ensures.none refl
    ∙ sym (top_is-at (can_top c.args.now) c.args.strand.now c.args.self.now.node)
