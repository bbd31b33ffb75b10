use Rattle.std.proofs.Common.{◌≡◌, ◌≤◌, ◌*◌, take}
use Rattle.std.specs.Char.{len_utf8}
use Rattle.std.specs.List.{sum_by}
use Rattle.swf_jq_tokens.proofs.lexer.width.Given as goal

abbrev pub invariant-loop-c : goal.invariant-loop-c
invariant-loop-c l = (l.width ≡ sum_by len_utf8 (take l.c-index l.chars)) × (l.width ≤ 4 * l.c-index)
