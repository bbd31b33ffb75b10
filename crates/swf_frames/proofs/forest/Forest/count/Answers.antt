use Rattle.std.proofs.Common.{◌≡◌, ◌∙◌, length, sym, rules}
use Rattle.std.proofs.lemmas.List.{length-map}
use Rattle.std.specs.Vec.{vec_len}
use Rattle.swf_frames.specs.Stacks.{row_of, rows}
use Rattle.swf_frames.proofs.DistinctLemmas.{counted}
use Rattle.swf_frames.proofs.forest.Forest.count.Goals as goal

pub returns : goal.returns
returns g c =
    let stacks = c.self.inside.stacks in
    let len : vec_len stacks ≡ length stacks.items = search rules in
    rw (← c.self.view_is) (c.len.ensures ∙ (len ∙ (sym (length-map stacks.items row_of) ∙ sym (counted (rows stacks.items) c.self.inside.next c.self.invariant.0))))
