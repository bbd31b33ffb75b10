use Rattle.std.proofs.Common.{◌≡◌, [], length}
use Rattle.std.specs.Vec.Iter.{into_iter_items, into_iter_len}
use Rattle.swf_jq_parse.specs.Machine.{run}
use Rattle.swf_jq_parse.specs.declared.mode.Mode.TheVariants as mode
use Rattle.swf_jq_parse.proofs.parsing.run.Given as goal

abbrev pub invariant-loop-at : goal.invariant-loop-at
invariant-loop-at l =
    (run l.stack l.mode (into_iter_items l.at-iterator) l.end ≡ run [] mode.Want l.fn.tokens.items l.end)
    × (into_iter_len l.at-iterator ≡ length (into_iter_items l.at-iterator))
