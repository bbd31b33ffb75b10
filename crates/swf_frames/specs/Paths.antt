-- Strands by the way to them, and that each has a number of its own.
use Rattle.std.specs.Prelude.{◌≡◌, ℕ, zero, suc, ◌==◌, if◌then◌else◌, Bool, true, false, is_some, List, [], ◌∷◌, Option, Some, None, option_and_then}
use Rattle.swf_frames.specs.Tree.{Strands, no_strands, strand, Branch, find}

-- a strand: its number, and what it holds
pub record Found (F : Type 0) : Type 0 where
  pub number : ℕ
  pub held : Branch F

module _ {F : Type 0} where
  -- one of those beside each other, by its place
  abbrev pub nth : Strands F → ℕ → Option (Found F)
  nth no_strands i = None
  nth (strand m fs below after) zero = Some (record { number = m; held = record { frames = fs; below = below } })
  nth (strand m fs below after) (suc i) = nth after i

  -- where these places lead to, from the outside in
  abbrev pub walk : Found F → List ℕ → Option (Found F)
  walk r [] = Some r
  walk r (i ∷ is) = option_and_then (λ c. walk c is) (nth r.held.below i)

  -- what the strand at a place holds is changed
  abbrev pub edit_nth : (Branch F → Branch F) → Strands F → ℕ → Strands F
  edit_nth g no_strands i = no_strands
  edit_nth g (strand m fs below after) zero =
      let r = g (record { frames = fs; below = below }) in strand m r.frames r.below after
  edit_nth g (strand m fs below after) (suc i) = strand m fs below (edit_nth g after i)

  -- what the strand holds that places lead to is changed
  abbrev pub along : List ℕ → (Branch F → Branch F) → Branch F → Branch F
  along [] g b = g b
  along (i ∷ is) g b = record b { below = edit_nth (along is g) b.below i }

  -- what the strand of a number holds is changed
  abbrev pub edit : (Branch F → Branch F) → Strands F → ℕ → Strands F
  edit g no_strands n = no_strands
  edit g (strand m fs below after) n =
      let b : Branch F = record { frames = fs; below = below } in
      let r = if m == n then g b else record b { below = edit g below n } in
      strand m r.frames r.below (edit g after n)

  abbrev pub has : Strands F → ℕ → Bool
  has ss n = is_some (find ss n)

  -- each has a number of its own
  abbrev pub AreDistinct : Strands F → Type 0
  AreDistinct no_strands = Unit {0}
  AreDistinct (strand m fs below after) =
      (has below m ≡ false) × (has after m ≡ false) × ((n : ℕ) → has below n ≡ true → has after n ≡ false) × AreDistinct below × AreDistinct after
