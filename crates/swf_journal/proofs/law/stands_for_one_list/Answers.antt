use Rattle.swf_journal.proofs.StandsLemmas.{stands_for_one}
use Rattle.swf_journal.proofs.law.stands_for_one_list.Goals as goal

pub returns : goal.returns
returns c = λ image frames others a b. stands_for_one image.journal frames others a b
