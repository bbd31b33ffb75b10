use Rattle.swf_test_tables.proofs.Splits.{parts_found, parts_lacking}
use Rattle.swf_test_tables.proofs.split.Goals as goal

pub returns-in-Some-clause-parts : goal.returns-in-Some-clause-parts
returns-in-Some-clause-parts c = parts_found c.args.text.now c.split_once.result c.in-Some.parts c.in-Some.is c.split_once.ensures.cases

pub returns-in-None-clause-parts : goal.returns-in-None-clause-parts
returns-in-None-clause-parts c = parts_lacking c.args.text.now c.split_once.result c.in-None.is c.split_once.ensures.cases
