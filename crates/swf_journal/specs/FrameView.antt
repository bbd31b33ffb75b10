-- The body in the bytes of a frame.
use Rattle.std.specs.Prelude.{◌≡◌, ◌-◌, ℕ, List, length, take, drop}
use Rattle.swf_journal.specs.declared.frame.FrameBytes.TheInside.{Inside}
use Rattle.swf_journal.specs.Frames.{frame_tail}

-- what stands between the length and the closed gate
abbrev pub body_of : Inside → List ℕ
body_of frame = take (length frame.bytes.items - 9) (drop 8 frame.bytes.items)

abbrev pub IsFrameBytes : Inside → Type 0
IsFrameBytes frame = frame.bytes.items ≡ frame_tail (body_of frame)
