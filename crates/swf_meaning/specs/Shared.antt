-- Steps that need more of the world than the instance itself: that it may wait, or make an activity, an event or strands.
use Rattle.std.specs.Prelude.{ℕ, zero, suc, List, Bool, true, false, is_some, Option, Some, None, option_map, if◌then◌else◌}
use Rattle.swf_document.specs.Task.{Kind, call, do_all, emit, for, fork, listen, raise, run, set, switch, try, wait}
use Rattle.swf_meaning.specs.Documents.{Loaded}
use Rattle.swf_meaning.specs.Node.{Node, Round, Seq, Each, Try, Catch, Fun, Sub}
use Rattle.swf_meaning.specs.Parts.{Catching, kind_of, try_in}
use Rattle.swf_meaning.specs.Top.{Top, Begins, Moves, Fails, Retries, Sleeps, Hears, Awaits, Splits, Ends, Breaks, top_at, top_is}
use Rattle.swf_meaning.specs.World.{Instance, step_at, with_step}

-- entering a task of these kinds
abbrev pub is_shared_kind : Kind → Bool
is_shared_kind (call c) = true
is_shared_kind (do_all ts) = false
is_shared_kind (emit e) = true
is_shared_kind (for l ts) = false
is_shared_kind (fork c ts) = true
is_shared_kind (listen l) = true
is_shared_kind (raise e) = false
is_shared_kind (run s) = true
is_shared_kind (set e) = false
is_shared_kind (switch cs) = false
is_shared_kind (try c ts h) = false
is_shared_kind (wait d) = true

-- an error in the list of a `try` that may be made again
abbrev pub has_retry : Option Catching → Bool
has_retry None = false
has_retry (Some c) = is_some c.errors.retry

abbrev pub is_shared_error : Round → Kind → Bool
is_shared_error Seq k = false
is_shared_error (Each items j) k = false
is_shared_error (Try n) k = has_retry (try_in k)
is_shared_error (Catch p) k = false
is_shared_error Fun k = false
is_shared_error (Sub d v c) k = false

-- the step of a top is shared
abbrev pub is_shared_top : Top → Bool
is_shared_top (Begins t v) = is_shared_kind (kind_of t)
is_shared_top (Moves r round i w f) = false
is_shared_top (Fails r round i p) = is_shared_error round (kind_of r.task)
is_shared_top (Retries r n until) = false
is_shared_top (Sleeps r until) = false
is_shared_top (Hears r bound hs) = false
is_shared_top (Awaits r a q o) = false
is_shared_top (Splits r ns) = false
is_shared_top (Ends w f) = false
is_shared_top (Breaks p) = false

-- the next step of a strand is shared
abbrev pub is_shared : List ℕ → Node → Bool
is_shared bs n = top_is is_shared_top (top_at bs n)

-- one step that is not shared; none where the next one is, or there is none
abbrev pub unshared : ℕ → List Loaded → List ℕ → Instance → Option Instance
unshared now ds bs i = if is_shared bs i.node then None else option_map (with_step i) (step_at now ds bs i)

-- with the step before those that were taken, where there is one
abbrev pub after_one : Instance → Option (Instance × ℕ) → Instance × ℕ
after_one i None = (i, zero)
after_one i (Some r) = (r.0, suc r.1)

-- what at most so many such steps of a strand at a moment lead to, and how many were taken
abbrev pub advanced : ℕ → List Loaded → List ℕ → ℕ → Instance → Instance × ℕ
advanced now ds bs zero i = (i, zero)
advanced now ds bs (suc n) i = after_one i (option_map (advanced now ds bs n) (unshared now ds bs i))
