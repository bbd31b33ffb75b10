use Rattle.std.proofs.Common.{[], ◌∷◌}
use Rattle.std.proofs.lemmas.List.Sums.{fold-append}
use Rattle.swf_make.specs.Totals.{nothing, with_reply}
use Rattle.swf_make.proofs.laws.totals_laws.Goals as goal

pub returns-clause-last : goal.returns-clause-last
returns-clause-last c = λ replies reply. fold-append with_reply nothing replies (reply ∷ [])
