use Rattle.std.proofs.Common.{ap, refl}
use Rattle.swf_meaning.specs.Line.{Site}
use Rattle.swf_meaning.specs.World.{line_of as line_at, site_of as site_at}
use Rattle.swf_scene.specs.Setting.{line_of, site_of}
use Rattle.swf_tasks.specs.Stepped.{IsChange}
use Rattle.swf_tasks.proofs.PrepareLemmas.{change-fits, prepared-by, root-can, root-change}
use Rattle.swf_strands.proofs.TreeLemmas.{root-held}
use Rattle.swf_tasks.proofs.machine.Machine.prepare.Goals as goal

pub step_of-requires : goal.step_of-requires
step_of-requires c =
    let t = c.self.inside.forest in
    let r = c.root-root.ensures in record {
      held = root-held t c.root-root.result r.root r.distinct c.self.invariant.0;
      can = root-can t c.root-root.result c.args.site.now c.in_ok-scene.scene.site.now c.self.inside.setting c.args.self.now c.args.strand.now c.args.strand.now c.self.view_is r.root c.self.invariant.0
          (ap (λ (x : Site). x.now) c.in_ok-scene.ensures.site) refl c.requires;
    }

pub begun-requires : goal.begun-requires
begun-requires c =
    let now = c.args.site.now in
    let ds = c.args.site.documents.now.documents in
    let i = c.args.self.now in
    let bs = c.args.strand.now in
    let p = c.in_ok-strand.field-0 in
    let change : IsChange (site_at now ds i) (line_at i) bs 0 bs i.node p =
    root-change c.self.inside.forest c.root-root.result c.count-branches.result now ds c.self.inside.setting i (site_of c.in_ok-scene.scene) (line_of c.in_ok-scene.scene) bs bs p c.self.view_is c.root-root.ensures.root c.self.invariant.0
    c.count-branches.ensures c.in_ok-scene.ensures.site c.in_ok-scene.ensures.line refl c.in_ok-strand.ensures in
    change-fits (site_at now ds i) (line_at i) bs c.as_slice.result.now i p c.as_slice.ensures change

pub returns : goal.returns
returns c =
    let now = c.args.site.now in
    let ds = c.args.site.documents.now.documents in
    let i = c.args.self.now in
    let bs = c.args.strand.now in
    let p = c.in_ok-strand.field-0 in
    let change : IsChange (site_at now ds i) (line_at i) bs 0 bs i.node p =
    root-change c.self.inside.forest c.root-root.result c.count-branches.result now ds c.self.inside.setting i (site_of c.in_ok-scene.scene) (line_of c.in_ok-scene.scene) bs bs p c.self.view_is c.root-root.ensures.root c.self.invariant.0
    c.count-branches.ensures c.in_ok-scene.ensures.site c.in_ok-scene.ensures.line refl c.in_ok-strand.ensures in
    prepared-by now ds bs c.as_slice.result.now i p _ c.in_ok-strands.strands c.as_slice.ensures change c.in_ok-strands.ensures refl
