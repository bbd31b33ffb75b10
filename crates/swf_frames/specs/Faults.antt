-- What a refused call hands back.
use Rattle.std.specs.Prelude.{Vec}
use Rattle.std.specs.declared.alloc.Global.{Global}
use Rattle.swf_frames.specs.declared.faults.PushFault.{PushFault}
use Rattle.swf_frames.specs.declared.faults.PushFault.TheVariants.{Stale, OutOfMemory}
use Rattle.swf_frames.specs.declared.faults.SplitFault.{SplitFault}
use Rattle.swf_frames.specs.declared.faults.SplitFault.TheVariants as split

abbrev pub frame_in : {F : Type 0} → PushFault F → F
frame_in (Stale f) = f
frame_in (OutOfMemory f) = f

abbrev pub frames_in : {F : Type 0} → SplitFault F → Vec F Global
frames_in (split.Stale fs) = fs
frames_in (split.HasChildren fs) = fs
frames_in (split.OutOfMemory fs) = fs
