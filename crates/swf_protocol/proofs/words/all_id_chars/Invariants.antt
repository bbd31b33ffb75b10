use Rattle.std.proofs.Common.{◌≡◌, drop}
use Rattle.std.specs.List.{list_all}
use Rattle.swf_protocol.specs.Words.{is_id_char}
use Rattle.swf_protocol.proofs.words.all_id_chars.Given as goal

abbrev pub invariant-loop-byte : goal.invariant-loop-byte
invariant-loop-byte l = list_all is_id_char l.bytes ≡ list_all is_id_char (drop l.byte-index l.bytes)
