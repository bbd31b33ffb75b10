-- What a closed crew did.
use Rattle.std.specs.Prelude.{◌≡◌, ℕ, ◌+◌, List, [], ◌∷◌, ◌++◌, length, map, All, slice_get, Some}
use Rattle.std.specs.declared.alloc.Global.{Global}
use Rattle.std.specs.declared.vec.Vec.{Vec}
use Rattle.swf_scheduler.specs.declared.work.Seat.{Seat}
use Rattle.swf_scheduler.specs.Roster.{Roster}
use Rattle.swf_scheduler.specs.Rule.{times, once_below}
use Rattle.swf_scheduler.specs.Worked.{Leads}

-- the numbers of all lists
abbrev pub all_taken : List (Vec ℕ Global) → List ℕ
all_taken [] = []
all_taken (v ∷ vs) = v.items ++ all_taken vs

-- the numbers of what is left
abbrev pub left_numbers : {W : Type 0} → List (ℕ × W) → List ℕ
left_numbers left = map (λ l. l.0) left

module _ {W O Tool Done : Type 0} (gives : W → Tool → Tool → Done → Type 0) (offered : O → ℕ) where
  -- each seat: some results, one for each number in its list, lead from its tool at the start to its tool at the end, over the works given under these numbers; and its outlet was offered one for each
  abbrev pub EachSeat : List W → List Tool → List (Seat W O Tool Done) → List (Vec ℕ Global) → Type 0
  EachSeat given [] [] [] = Unit {0}
  EachSeat given [] [] (n ∷ ns) = ⊥
  EachSeat given [] (s ∷ ss) ns = ⊥
  EachSeat given (t ∷ ts) [] ns = ⊥
  EachSeat given (t ∷ ts) (s ∷ ss) [] = ⊥
  EachSeat given (t ∷ ts) (s ∷ ss) (n ∷ ns) = ((results : List Done) × Leads gives given n.items results t s.tool) × (offered s.outlet ≡ length n.items) × EachSeat given ts ss ns

  -- what `close` gives back: the numbers taken and those left are the numbers given, each once, and what is left is the work given under its number
  pub record IsClosed (crew : Roster W Tool) (seats : List (Seat W O Tool Done)) (taken : List (Vec ℕ Global)) (left : List (ℕ × W)) : Type 0 where
    pub each_seat : EachSeat crew.given crew.tools seats taken
    pub once : (x : ℕ) → times x (all_taken taken) + times x (left_numbers left) ≡ once_below x (length crew.given)
    pub left_right : All (λ l. slice_get crew.given l.0 ≡ Some l.1) left
