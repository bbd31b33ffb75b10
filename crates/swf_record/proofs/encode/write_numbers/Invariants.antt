use Rattle.std.proofs.Common.{◌≡◌, ◌++◌, length, take}
use Rattle.std.specs.List.{flat_map}
use Rattle.swf_record.specs.Encodes.{two_bytes}
use Rattle.swf_record.proofs.encode.write_numbers.Given as goal

abbrev pub invariant-loop-number : goal.invariant-loop-number
invariant-loop-number l = l.out.items ≡ l.fn.out.items ++ (two_bytes (length l.numbers) ++ flat_map two_bytes (take l.number-index l.numbers))
