use Rattle.std.proofs.Common.{◌∙◌, ap, sym}
use Rattle.swf_catalog.specs.declared.round.Round.TheVariants.{Each}
use Rattle.swf_catalog.proofs.IterationLemmas.{same-iteration}
use Rattle.swf_catalog.proofs.round.Round.copy.Goals as goal

pub returns-in_ok-copy-in-Each : goal.returns-in_ok-copy-in-Each
returns-in_ok-copy-in-Each c = ap Each (same-iteration c.in-Each.iteration c.in_ok-copy-in-Each.field-0 _ c.in_ok-copy-in-Each.ensures) ∙ sym c.in-Each.is
