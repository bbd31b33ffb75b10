-- The list of the calls that were made of a store, where the store tells it.
use Rattle.std.specs.Prelude.{◌≡◌, ◌⊎◌, Option, option_map, List, [], ◌∷◌, ◌++◌, Result, OnOk, OnErr}
use Rattle.swf_store.specs.declared.call.Call.{Call}

-- some calls more
abbrev pub and_calls : List Call → Option (List Call) → Option (List Call)
and_calls more calls = option_map (λ (cs : List Call). cs ++ more) calls

-- one call more
abbrev pub and_call : Call → Option (List Call) → Option (List Call)
and_call call calls = and_calls (call ∷ []) calls

-- a call that was done is on the list, and a call that failed may be
pub record IsListed {T E : Type 0} (call : Call) (before now : Option (List Call)) (result : Result T E) : Type 0 where
  pub done : OnOk result (now ≡ and_call call before)
  pub failed : OnErr result ((now ≡ before) ⊎ (now ≡ and_call call before))

-- the first of these calls were made, and no other
pub record Begins (plan : List Call) (before now : Option (List Call)) : Type 0 where
  pub made : List Call
  pub rest : List Call
  pub planned : plan ≡ made ++ rest
  pub listed : now ≡ and_calls made before

-- all of these calls were made, or the first of them after a failure
pub record Makes {T E : Type 0} (plan : List Call) (before now : Option (List Call)) (result : Result T E) : Type 0 where
  pub done : OnOk result (now ≡ and_calls plan before)
  pub failed : OnErr result (Begins plan before now)
