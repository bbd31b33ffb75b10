use Rattle.std.proofs.Common.{rules, tests}
use Rattle.std.proofs.lemmas.Iterator.{YieldsList-from_slice}
use Rattle.std.proofs.lemmas.Iterator.Search.{any_from_yields_List}
use Rattle.swf_connect.specs.Content.{tells_json}
use Rattle.swf_connect.proofs.content.is_json.Goals as goal

pub returns : goal.returns
returns c =
    any_from_yields_List tells_json _ _ _ c.any.ensures.ran (YieldsList-from_slice c.args.headers.now c.iter.ensures.rest)
    (λ x b q k. search (rules, tests))
