use Rattle.std.proofs.Common.{◌∙◌, ap, to_z-of_z}
use Rattle.swf_make.specs.Totals.{line_of}
use Rattle.swf_make.proofs.totals.totals_line.Goals as goal

pub returns : goal.returns
returns c = record { line = ap (λ v. v.items) c.into_bytes.ensures.value ∙ c.in_ok-line.ensures.ok ∙ ap (line_of c.args.completed c.args.started) (to_z-of_z c.ranges.total) }
