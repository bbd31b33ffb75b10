use Rattle.std.proofs.Common.{◌∙◌, ap, sym}
use Rattle.std.specs.Option.{option_copied}
use Rattle.swf_strands.proofs.StrandLemmas.{copied-some, held-some, held-top}
use Rattle.swf_strands.proofs.stand.stand_of.Goals as goal

pub returns : goal.returns
returns c = held-top c.args.forest.now c.args.strand c.unwrap.result.now c.requires (sym (ap option_copied c.unwrap.ensures) ∙ c.top.ensures)

pub unwrap-requires : goal.unwrap-requires
unwrap-requires c = copied-some c.top.result (held-some c.args.forest.now c.args.strand c.requires).0 (c.top.ensures ∙ (held-some c.args.forest.now c.args.strand c.requires).1)
