-- The moment that comes before an outcome: the last that was told, where it is above now.
use Rattle.std.specs.Prelude.{◌≡◌, ◌⊎◌, ℕ, List, [], ◌∷◌, ◌++◌, Bool, true, false, nat_lt, Option, Some, None}
use Rattle.swf_meaning.specs.declared.label.Label.{Label}
use Rattle.swf_meaning.specs.declared.label.Label.TheVariants.{Moment}
use Rattle.swf_runs.specs.Runs.{world_at}

-- by what holds of a history and the labels behind it
module _ (Holds : List Label → List Label → Type 0) where
  abbrev pub BehindMoment : Bool → ℕ → List Label → List Label → Type 0
  BehindMoment false t before labels = Holds before labels
  BehindMoment true t before labels = (rest : List Label) × (labels ≡ Moment t ∷ rest) × Holds (before ++ Moment t ∷ []) rest

  -- it holds behind the last moment that was told
  abbrev pub Behind : Option ℕ → List Label → List Label → Type 0
  Behind None before labels = Holds before labels
  Behind (Some t) before labels = BehindMoment (nat_lt (world_at before).now t) t before labels

  -- the same, or nothing was added yet
  abbrev pub MayBehind : Option ℕ → List Label → List Label → Type 0
  MayBehind None before part = Holds before part
  MayBehind (Some t) before part = (part ≡ []) ⊎ Behind (Some t) before part
