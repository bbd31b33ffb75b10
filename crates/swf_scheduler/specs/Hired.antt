-- What is known of a worker's thread.
use Rattle.std.specs.Prelude.{◌≡◌, ℕ, Bool, true, false}
use Rattle.std.specs.declared.alloc.Global.{Global}
use Rattle.std.specs.declared.option.Option.{Option}
use Rattle.crossbeam_channel.specs.Claims.{view, IsSeatAt, Pass}
use Rattle.crossbeam_channel.specs.Ends.{receives_on}
use Rattle.crossbeam_channel.specs.declared.flavors.array.Key.{Key}
use Rattle.crossbeam_channel.specs.declared.flavors.array.Doing.{Doing}
use Rattle.crossbeam_channel.specs.declared.flavors.array.Rows.{Rows}
use Rattle.crossbeam_channel.specs.declared.flavors.array.Rounds.{Rounds}
use Rattle.crossbeam_channel.specs.declared.flavors.array.Lockers.{Lockers}
use Rattle.crossbeam_channel.specs.declared.flavors.array.Whole.{Whole}
use Rattle.atomic_table.specs.declared.badge.Badge.{Badge}
use Rattle.swf_scheduler.specs.declared.rule.Job.{Job}
use Rattle.swf_scheduler.specs.declared.rule.Hand.{Hand}
use Rattle.swf_scheduler.specs.declared.rule.Numbered.{Numbered}
use Rattle.swf_scheduler.specs.declared.worker.Worked.{Worked}
use Rattle.swf_scheduler.specs.declared.hired.Duty.{Duty}
use Rattle.swf_scheduler.specs.declared.hired.Hired.{Hired}
use Rattle.swf_scheduler.specs.declared.hired.Hired.TheVariants.{Working, Unstarted}
use Rattle.swf_scheduler.specs.Worked.{IsWorked}

-- the channel's ring
abbrev pub Ring : Type 0 → Type 0
Ring W = Rows (Badge (Key (Job W))) (Doing (Job W) (Hand W)) (Rounds Numbered) (Option (Job W)) (Key (Job W)) (Lockers Whole) Global

-- what a pass knows
abbrev pub hand_of : {W : Type 0} → Pass (Job W) (Hand W) → Hand W
hand_of p = view p

module _ {W O Tool Done : Type 0} where
  -- the promise that its worker began with
  abbrev pub duty_of : Hired W O Tool Done → Duty W Tool Done
  duty_of (Working h) = h.promise
  duty_of (Unstarted r d) = d

  -- the tool that its worker began with
  abbrev pub tool_of : Hired W O Tool Done → Tool
  tool_of h = (duty_of h).tool.value

  -- whether its worker was started
  abbrev pub is_working : Hired W O Tool Done → Bool
  is_working (Working h) = true
  is_working (Unstarted r d) = false

  module _ (gives : W → Tool → Tool → Done → Type 0) (offered : O → ℕ) where
    -- what a worker hands in, at the ring and from the tool of the duty
    abbrev pub Keeps : Duty W Tool Done → Worked W O Tool Done → Type 0
    Keeps d r = IsSeatAt (receives_on d.from.value) r.pass × IsWorked gives d.tool.value r.seat.tool (offered r.seat.outlet) r.taken.items (view r.pass)

    -- of a worker that was not started what it promised is so already
    abbrev pub IsKept : Hired W O Tool Done → Type 0
    IsKept (Working h) = Unit {0}
    IsKept (Unstarted r d) = Keeps d r

    -- its worker's pass is of this ring, and it does what it promised
    abbrev pub IsOn : Ring W → Hired W O Tool Done → Type 0
    IsOn ring h = (receives_on (duty_of h).from.value ≡ ring) × IsKept h
