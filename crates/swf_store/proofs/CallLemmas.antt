-- The calls of a run, where it goes on and where it ends.
use Rattle.std.proofs.Common.{◌≡◌, ◌⊎◌, ⊎_elim, Option, Some, None, List, [], ◌∷◌, ◌++◌, Result, Ok, Err, refl, sym, ◌∙◌, ap, append-nil}
use Rattle.std.proofs.lemmas.List.{append_assoc}
use Rattle.std.specs.Result.{IsErr}
use Rattle.swf_store.specs.declared.call.Call.{Call}
use Rattle.swf_store.specs.Calls.{and_call, and_calls, IsListed, Begins, Makes}

pub and_none : (calls : Option (List Call)) → calls ≡ and_calls [] calls
and_none None = refl
and_none (Some cs) = ap (λ (l : List Call). Some l) (sym (append-nil cs))

pub and_more : (calls : Option (List Call)) (first second : List Call) → and_calls second (and_calls first calls) ≡ and_calls (first ++ second) calls
and_more None first second = refl
and_more (Some cs) first second = ap (λ (l : List Call). Some l) (append_assoc cs first second)

-- no call was made
pub begins_none : (plan : List Call) (calls : Option (List Call)) → Begins plan calls calls
begins_none plan calls = record { made = []; rest = plan; planned = refl; listed = and_none calls }

-- the first call failed
pub begins_one : (call : Call) (rest : List Call) (before now : Option (List Call)) → (now ≡ before) ⊎ (now ≡ and_call call before) → Begins (call ∷ rest) before now
begins_one call rest before now listed = ⊎_elim
    (λ same. record { made = []; rest = call ∷ rest; planned = refl; listed = same ∙ and_none before })
    (λ one. record { made = call ∷ []; rest = rest; planned = refl; listed = one })
    listed

-- all calls were made
pub begins_all : (plan : List Call) (before now : Option (List Call)) → now ≡ and_calls plan before → Begins plan before now
begins_all plan before now listed = record { made = plan; rest = []; planned = sym (append-nil plan); listed = listed }

-- the run ended in its first part
pub begins_longer : (plan more : List Call) (before now : Option (List Call)) → Begins plan before now → Begins (plan ++ more) before now
begins_longer plan more before now begins = record {
  made = begins.made;
  rest = begins.rest ++ more;
  planned = ap (λ (l : List Call). l ++ more) begins.planned ∙ append_assoc begins.made begins.rest more;
  listed = begins.listed;
}

-- the run ended behind its first part
pub begins_after : (first plan : List Call) (before mid now : Option (List Call)) → mid ≡ and_calls first before → Begins plan mid now → Begins (first ++ plan) before now
begins_after first plan before mid now is begins = record {
  made = first ++ begins.made;
  rest = begins.rest;
  planned = ap (λ (l : List Call). first ++ l) begins.planned ∙ sym (append_assoc first begins.made begins.rest);
  listed = begins.listed ∙ ap (and_calls begins.made) is ∙ and_more before first begins.made;
}

-- the run went on behind its first part
pub done_after : (first plan : List Call) (before mid now : Option (List Call)) → mid ≡ and_calls first before → now ≡ and_calls plan mid → now ≡ and_calls (first ++ plan) before
done_after first plan before mid now is goes = goes ∙ ap (and_calls plan) is ∙ and_more before first plan

-- one call more behind others that were done
pub makes_last : {T E : Type 0} (first : List Call) (call : Call) (before mid now : Option (List Call)) (result : Result T E) → mid ≡ and_calls first before → IsListed call mid now result → Makes (first ++ call ∷ []) before now result
makes_last first call before mid now (Ok x) is listed = record { done = done_after first (call ∷ []) before mid now is listed.done; failed = tt }
makes_last first call before mid now (Err e) is listed = record { done = tt; failed = begins_after first (call ∷ []) before mid now is (begins_one call [] mid now listed.failed) }

pub makes_failed : {T E : Type 0} (plan : List Call) (before now : Option (List Call)) (result : Result T E) → IsErr result → Begins plan before now → Makes plan before now result
makes_failed plan before now (Ok x) is begins = absurd (cc)
makes_failed plan before now (Err e) is begins = record { done = tt; failed = begins }
