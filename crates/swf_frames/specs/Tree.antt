-- A forest of frames as a tree whose nodes are lists.
use Rattle.std.specs.Prelude.{ℕ, suc, Bool, true, false, ◌+◌, ◌-◌, ◌==◌, if◌then◌else◌, List, [], ◌∷◌, ◌++◌, length, take, slice_get, slice_set, Option, Some, None, option_map, option_and_then}
use Rattle.std.specs.Option.{option_or}

-- strands beside each other, in order: of the first its number, its frames from the bottom to the top and the strands below it, and then the others
pub data Strands (F : Type 0) : Type 0 where
  no_strands : Strands F
  strand : ℕ → List F → Strands F → Strands F → Strands F

-- the strands, of which the first is the root, and the number of the next new one
pub record Tree (F : Type 0) : Type 0 where
  pub next : ℕ
  pub strands : Strands F

-- what a strand holds
pub record Branch (F : Type 0) : Type 0 where
  pub frames : List F
  pub below : Strands F

module _ {F : Type 0} where
  -- the numbers of those beside each other
  abbrev pub numbers : Strands F → List ℕ
  numbers no_strands = []
  numbers (strand m fs below after) = m ∷ numbers after

  -- what the strand of a number holds
  abbrev pub find : Strands F → ℕ → Option (Branch F)
  find no_strands n = None
  find (strand m fs below after) n =
      if m == n then Some (record { frames = fs; below = below }) else option_or (find below n) (find after n)

  -- other frames in the strand of a number
  abbrev pub changed : (List F → List F) → Strands F → ℕ → Strands F
  changed f no_strands n = no_strands
  changed f (strand m fs below after) n =
      strand m (if m == n then f fs else fs) (changed f below n) (changed f after n)

  abbrev pub has_none : Strands F → Bool
  has_none no_strands = true
  has_none (strand m fs below after) = false

  -- the numbers of those with none below them, in order
  abbrev pub leaves : Strands F → List ℕ
  leaves no_strands = []
  leaves (strand m fs below after) = (if has_none below then m ∷ [] else leaves below) ++ leaves after

  -- the strand above that of a number, where these stand below the first one given
  abbrev pub above : Option ℕ → Strands F → ℕ → Option ℕ
  above up no_strands n = None
  above up (strand m fs below after) n =
      if m == n then up else option_or (above (Some m) below n) (above up after n)

  -- how many there are
  abbrev pub count : Strands F → ℕ
  count no_strands = 0
  count (strand m fs below after) = 1 + (count below + count after)

  -- these strands, and no others, below that of a number
  abbrev pub with_below : Strands F → Strands F → ℕ → Strands F
  with_below new no_strands n = no_strands
  with_below new (strand m fs below after) n =
      strand m fs (if m == n then new else with_below new below n) (with_below new after n)

  -- strands of one frame each, numbered from this on
  abbrev pub fresh : ℕ → List F → Strands F
  fresh n [] = no_strands
  fresh n (f ∷ fs) = strand n (f ∷ []) no_strands (fresh (suc n) fs)

  abbrev pub top_frame : List F → Option F
  top_frame fs = slice_get fs (length fs - 1)

  abbrev pub frames : Tree F → ℕ → Option (List F)
  frames t n = option_map (λ b. b.frames) (find t.strands n)

  abbrev pub top : Tree F → ℕ → Option F
  top t n = option_and_then top_frame (frames t n)

  abbrev pub with_frames : (List F → List F) → Tree F → ℕ → Tree F
  with_frames f t n = record t { strands = changed f t.strands n }

  abbrev pub pushed : Tree F → ℕ → F → Tree F
  pushed t n frame = with_frames (λ fs. fs ++ frame ∷ []) t n

  abbrev pub popped : Tree F → ℕ → Tree F
  popped t n = with_frames (λ fs. take (length fs - 1) fs) t n

  -- another frame at the top
  abbrev pub with_top : Tree F → ℕ → F → Tree F
  with_top t n frame = with_frames (λ fs. slice_set fs (length fs - 1) frame) t n

  abbrev pub replaced : Tree F → ℕ → List F → Tree F
  replaced t n fs = with_frames (λ _. fs) t n

  -- one strand with one frame
  abbrev pub planted : F → Tree F
  planted root = record { next = 1; strands = strand 0 (root ∷ []) no_strands no_strands }

  abbrev pub parent : Tree F → ℕ → Option ℕ
  parent t n = above None t.strands n

  -- the child of a number, from 0
  abbrev pub child : Tree F → ℕ → ℕ → Option ℕ
  child t n number = option_and_then (λ b. slice_get (numbers b.below) number) (find t.strands n)

  -- one new child for each frame
  abbrev pub split : Tree F → ℕ → List F → Tree F
  split t n fs = record { next = t.next + length fs; strands = with_below (fresh t.next fs) t.strands n }

  -- none below
  abbrev pub closed : Tree F → ℕ → Tree F
  closed t n = record t { strands = with_below no_strands t.strands n }
