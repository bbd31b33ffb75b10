-- What was taken, and what was given.
use Rattle.std.specs.Prelude.{List, [], ◌∷◌, ◌++◌, Bool, true, not, Option, option_map, Result, Ok, Err}
use Rattle.swf_host.specs.declared.host.Input.{Input}
use Rattle.swf_host.specs.declared.host.Input.TheVariants.{Ask, TooLong, Work, Idle, Closed}

-- after a call for the next input
abbrev pub after_next : {W E : Type 0} → Result (Input W) E → Option (List (Input W)) → Option (List (Input W))
after_next {W = W} (Ok i) taken = option_map (λ (all : List (Input W)). all ++ i ∷ []) taken
after_next (Err e) taken = taken

-- after a call that gives a job, which may be handed back
abbrev pub after_give : {G T E : Type 0} → G → Result T E → Option (List G) → Option (List G)
after_give {G = G} job (Ok u) given = option_map (λ (all : List G). all ++ job ∷ []) given
after_give job (Err e) given = given

-- a call for the next input may answer this one: `Idle` where it waits for work alone, work always, and else another
abbrev pub is_awaited : {W : Type 0} → Bool → Input W → Bool
is_awaited only_work (Ask conn bytes) = not only_work
is_awaited only_work (TooLong conn) = not only_work
is_awaited only_work (Work w) = true
is_awaited only_work Idle = only_work
is_awaited only_work Closed = not only_work
