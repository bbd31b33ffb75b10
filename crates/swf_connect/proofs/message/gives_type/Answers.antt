use Rattle.std.proofs.Common.{codes, rules, tests}
use Rattle.std.proofs.lemmas.Iterator.{YieldsList-from_slice}
use Rattle.std.proofs.lemmas.Iterator.Search.{any_from_yields_List}
use Rattle.http1.specs.Text.{eq_ignore_case}
use Rattle.swf_connect.specs.Sending.{is_named}
use Rattle.swf_connect.proofs.message.gives_type.Goals as goal

pub returns : goal.returns
unfolding eq_ignore_case
returns c =
    any_from_yields_List (is_named (codes "content-type")) _ _ _ c.any.ensures.ran (YieldsList-from_slice c.args.given.now c.iter.ensures.rest)
    (λ x b q k. search (rules, tests))
