use Rattle.std.proofs.Common.{◌≡◌, ◌++◌, length, take}
use Rattle.std.specs.List.{AllByRecursion, flat_map}
use Rattle.swf_record.specs.Encodes.{four_bytes, label_bytes, Fits}
use Rattle.swf_record.proofs.encode.encode_labels.Given as goal

abbrev pub invariant-loop-label : goal.invariant-loop-label
invariant-loop-label l = (l.out.items ≡ four_bytes (length l.labels) ++ flat_map label_bytes (take l.label-index l.labels)) × AllByRecursion Fits (take l.label-index l.labels)
