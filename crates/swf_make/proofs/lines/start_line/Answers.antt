use Rattle.std.proofs.Common.{◌∙◌, ◌+◌, ◌*◌, ◌++◌, ap, codes}
use Rattle.std.specs.Fmt.{decimal}
use Rattle.swf_make.specs.Generated.{numbers}
use Rattle.swf_make.proofs.LineLemmas.{five_by}
use Rattle.swf_make.proofs.lines.start_line.Goals as goal

pub returns : goal.returns
returns c =
    let k = c.args.instance in
    let joined = five_by (codes "start g") (decimal k) (codes " make gen 1.0.0 {\"items\":[") (numbers (100 * k + 1) c.turns_of-count.result) (codes "],\"n\":0}") _ _ _ _ _
    (c.in_ok-line.ensures.items_if_clones_equal (λ x y e. e)) c.in_ok-put_number.ensures.number c.in_ok-extend_from_slice.ensures.items c.in_ok-put_numbers.ensures.numbers c.in_ok-extend_from_slice-2.ensures.items in
    record { line = joined ∙ ap (λ n. codes "start g" ++ (decimal k ++ (codes " make gen 1.0.0 {\"items\":[" ++ (numbers (100 * k + 1) n ++ codes "],\"n\":0}")))) c.turns_of-count.ensures.count }
