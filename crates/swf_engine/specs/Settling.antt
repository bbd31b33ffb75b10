-- What a settling adds: steps, and among them the replies that a board gave to open calls.
use Rattle.std.specs.Prelude.{◌≡◌, ◌==◌, ◌⊎◌, ◌&&◌, ◌||◌, ℕ, ◌≤◌, List, [], ◌∷◌, ◌++◌, Bool, true, false, not, length, filter, flat_map, Contains, is_some, unwrap_or, Option, Some, None}
use Rattle.std.specs.Option.{ok_or}
use Rattle.swf_calls.specs.Request.{Request}
use Rattle.swf_calls.specs.declared.reply.CallReply.{CallReply}
use Rattle.swf_connect.specs.Parties.{Party, Performs}
use Rattle.swf_meaning.specs.Pending.{open_calls}
use Rattle.swf_meaning.specs.World.{World}
use Rattle.swf_meaning.specs.declared.key.Key.TheVariants.{Activity as OfActivity}
use Rattle.swf_meaning.specs.declared.label.Label.{Label}
use Rattle.swf_meaning.specs.declared.label.Label.TheVariants.{Load, Start, Event, Reply, Moment, Step}
use Rattle.swf_runs.specs.After.{after, is_used}
use Rattle.swf_runs.specs.Runs.{is_quiet}

-- what a board was asked: the request of an activity, with the reply, if one came
pub record Called : Type 0 where
  pub activity : List ℕ
  pub request : Request
  pub reply : Option CallReply

-- ---- the board

-- it performed these requests, one after the other, with these replies
abbrev pub AreAsked : List Called → List Party → List Party → Type 0
AreAsked [] old new = new ≡ old
AreAsked (c ∷ cs) old new = (middle : List Party) × Performs c.request (ok_or c.reply (tt {0})) old middle × AreAsked cs middle new

-- whom a call asked: nobody, where calls are answered by hand
pub record AsksBoard (calls : Bool) (called : List Called) (old new : List Party) : Type 0 where
  pub asked : AreAsked called old new
  pub by_hand : calls ≡ false → called ≡ []

-- ---- what is open

-- the calls that await a reply, each with its activity
abbrev pub calls_in : World → List (List ℕ × Request)
calls_in w = flat_map (λ i. open_calls i.node) w.instances

-- the call is open with that request, or its activity is answered already
abbrev pub IsAwaited : World → List ℕ × Request → Type 0
IsAwaited w call = Contains (calls_in w) call ⊎ (is_used (OfActivity call.0) w ≡ true)

-- no strand is enabled, and, where a board answers calls, none is open
abbrev pub is_settled : Bool → World → Bool
is_settled calls w = is_quiet w && (not calls || (length (calls_in w) == 0))

-- ---- the labels

abbrev pub is_step : Label → Bool
is_step (Load v) = false
is_step (Start id key input) = false
is_step (Event e) = false
is_step (Reply a r) = false
is_step (Moment moment) = false
is_step (Step id strand) = true

abbrev pub steps_in : List Label → List Label
steps_in labels = filter is_step labels

-- A reply is the first of those that were given, and where it is taken, its call is open with that request. A step needs none.
abbrev pub Takes : World → Label → (given rest : List Called) → Type 0
Takes w (Reply a r) given rest = (request : Request) × (given ≡ (record { activity = a; request = request; reply = Some r }) ∷ rest) × (is_some (after w (Reply a r)) ≡ true → Contains (calls_in w) (a, request))
Takes w (Step id strand) given rest = given ≡ rest
Takes w (Load v) given rest = ⊥
Takes w (Start id key input) given rest = ⊥
Takes w (Event e) given rest = ⊥
Takes w (Moment moment) given rest = ⊥

-- the world behind a label; one that is not taken leaves it as it is
abbrev pub behind : World → Label → World
behind w l = unwrap_or (after w l) w

-- behind that world these labels are steps, and replies that were given in this order, of which all are used
abbrev pub AreTaken : World → List Label → List Called → Type 0
AreTaken w [] given = given ≡ []
AreTaken w (l ∷ ls) given = (rest : List Called) × Takes w l given rest × AreTaken (behind w l) ls rest

-- so many of them are steps at most, and what was given last may be left
pub record IsGroup (w : World) (labels : List Label) (limit : ℕ) (called : List Called) : Type 0 where
  pub used : List Called
  pub left : List Called
  pub called_are : called ≡ used ++ left
  pub taken : AreTaken w labels used
  pub most : length (steps_in labels) ≤ limit
