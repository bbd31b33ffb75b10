use Rattle.std.proofs.Common.{◌≡◌, ◌∙◌, ◌+◌, ◌∷◌, ap, sym, subst, arith, drop, length, true}
use Rattle.std.specs.Prelude.{get_or}
use Rattle.swf_meaning.specs.Line.{Site}
use Rattle.swf_meaning.specs.Strands.{can_go}
use Rattle.swf_scene.specs.Setting.{line_of, site_of}
use Rattle.swf_strands.specs.Strands.{node_of}
use Rattle.swf_tasks.proofs.ChangeLemmas.{way-end, way-more, own-goes, own-told, child-goes, fork-there, branch-told, nowhere-goes, Goes}
use Rattle.swf_strands.proofs.TreeLemmas.{child-held}
use Rattle.swf_tasks.proofs.step.+step_of.Goals as goal

pub own_step-requires : goal.own_step-requires
own_step-requires t c =
    let bs = c.args.strand.now in
    let k = c.args.depth in
    own-goes c.args.scene.site.now c.args.forest.now c.args.above (drop k bs) c.stand_of-stand.result.now c.requires.held (way-end c.as_slice-numbers.result.now bs k c.as_slice-numbers.ensures c.if-depth-numbers.true) c.requires.can c.stand_of-stand.ensures

pub returns-then-depth-numbers : goal.returns-then-depth-numbers
returns-then-depth-numbers t c =
    let bs = c.args.strand.now in
    let k = c.args.depth in
    own-told (site_of c.args.scene) (line_of c.args.scene) bs k c.args.forest.now c.args.above (drop k bs) c.stand_of-stand.result.now c.own_step.result
    (way-end c.as_slice-numbers.result.now bs k c.as_slice-numbers.ensures c.if-depth-numbers.true) c.requires.can c.stand_of-stand.ensures c.own_step.ensures

pub unreachable-requires : goal.unreachable-requires
unreachable-requires t c =
    let bs = c.args.strand.now in
    let k = c.args.depth in
    let ws = c.as_slice-numbers.result.now in
    let b = c.requires.held.1.0 in
    let f = c.requires.held.1.1.0 in
    let more : drop k bs ≡ get_or ws k 0 ∷ drop (k + 1) bs = way-more ws bs k c.as_slice-numbers.ensures c.if-depth-numbers.false in
    nowhere-goes c.args.scene.site.now (drop (k + 1) bs) (get_or ws k 0) b (c.in_default.ensures.none b f) (subst (λ is. can_go c.args.scene.site.now is (node_of b) ≡ true) more (c.requires.can b f))

pub step_of-requires : goal.step_of-requires
step_of-requires t c =
    let bs = c.args.strand.now in
    let k = c.args.depth in
    let ws = c.as_slice-numbers.result.now in
    let i = get_or ws k 0 in
    let now : c.args.scene.site.now ≡ c.in_ok-copy.field-0.site.now = sym (ap (λ (s : Site). s.now) (c.in_ok-copy.ensures.site ∙ c.in_ok-scene.ensures.site)) in
    let more : drop k bs ≡ i ∷ drop (k + 1) bs = way-more ws bs k c.as_slice-numbers.ensures c.if-depth-numbers.false in
    let less = c.if-depth-numbers.false in
    let all : length ws ≡ length bs = ap length c.as_slice-numbers.ensures in (
      omega (arith, all, less, c.decreases),
      (
        child-held c.args.forest.now c.args.above i c.in-Some.branch c.requires.held c.in-Some.ensures.child,
        subst (λ n. Goes n c.args.forest.now c.in-Some.branch (drop (k + 1) bs)) now (child-goes c.args.scene.site.now c.args.forest.now c.args.above i c.in-Some.branch (drop k bs) (drop (k + 1) bs) c.requires.held c.in-Some.ensures.child more c.requires.can),
      ),
    )

pub settle-requires-clause-fork : goal.settle-requires-clause-fork
settle-requires-clause-fork t c =
    fork-there c.args.forest.now c.args.above (get_or c.as_slice-numbers.result.now c.args.depth 0) c.in-Some.branch c.requires.held c.in-Some.ensures.child

pub returns : goal.returns
returns t c =
    let bs = c.args.strand.now in
    let k = c.args.depth in
    let ws = c.as_slice-numbers.result.now in
    let i = get_or ws k 0 in
    let more : drop k bs ≡ i ∷ drop (k + 1) bs = way-more ws bs k c.as_slice-numbers.ensures c.if-depth-numbers.false in
    branch-told (site_of c.args.scene) (site_of c.in_ok-scene.scene) (site_of c.in_ok-copy.field-0) (line_of c.args.scene) (line_of c.in_ok-scene.scene) (line_of c.in_ok-copy.field-0) bs k c.args.forest.now c.args.above i c.in-Some.branch (drop k bs) (drop (k + 1) bs)
    c.stand_of-stand.result.now c.in_ok-prepared.prepared c.settle.result
    c.requires.held c.in-Some.ensures.child more c.stand_of-stand.ensures c.in_ok-scene.ensures.site c.in_ok-copy.ensures.site c.in_ok-scene.ensures.line c.in_ok-copy.ensures.line c.in_ok-prepared.ensures c.settle.ensures
