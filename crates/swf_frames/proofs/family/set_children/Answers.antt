use Rattle.std.proofs.Common.{◌∙◌, rules}
use Rattle.std.specs.Vec.{vec_len}
use Rattle.std.proofs.lemmas.List.{map-set}
use Rattle.std.proofs.lemmas.Option.{slice_get_read}
use Rattle.swf_frames.specs.Stacks.{row_of, rows}
use Rattle.swf_frames.proofs.SearchLemmas.{at_rows}
use Rattle.swf_frames.proofs.GrowLemmas.{children_set}
use Rattle.swf_frames.proofs.family.set_children.Goals as goal

pub returns-clause-rows : goal.returns-clause-rows
returns-clause-rows g c =
    let ss = c.args.stacks.now in
    let place = c.args.place in
    let s = c.index_mut.result.now in
    let row = at_rows ss.items place s (slice_get_read ss.items (vec_len ss) place s (search rules) c.requires c.index_mut.ensures.value) in
    map-set row_of ss.items place (record s { children = c.args.children }) ∙ children_set (rows ss.items) place (row_of s) c.args.children row
