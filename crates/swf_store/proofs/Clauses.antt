-- The clauses of a store, of one in memory that takes a call.
use Rattle.std.proofs.Common.{◌≡◌, inl, inr, ⊎_elim, ℕ, suc, ◌+◌, ◌<◌, ◌≤◌, Bool, true, false, Some, List, [], ◌∷◌, ◌++◌, length, not, Result, Ok, Err, OnOk, if◌then◌else◌, refl, sym, ◌∙◌, ap, subst, arith}
use Rattle.std.specs.Option.{ForSome}
use Rattle.std.proofs.lemmas.Bool.{cases_lt}
use Rattle.std.proofs.lemmas.List.{length_push}
use Rattle.swf_store.specs.declared.call.Call.{Call}
use Rattle.swf_store.specs.declared.call.Call.TheVariants.{Write, Sync}
use Rattle.swf_store.specs.declared.image.File.{File}
use Rattle.swf_store.specs.declared.image.Image.{Image}
use Rattle.swf_store.specs.Calls.{IsListed}
use Rattle.swf_store.specs.Disk.{NothingNew, Follows, Only, TornIn}
use Rattle.swf_store.specs.Faults.{HasCause, RoseOnce}
use Rattle.swf_store.specs.Memory.{Memory, Takes, LeftSince, state_of, state_after, and_listed, and_lack, fails_next, faults_of, failed_before}
use Rattle.swf_store.specs.Replay.{Writing, IsLeft, step, and_write, reads}
use Rattle.swf_store.specs.Stops.{ElapsesSilent}
use Rattle.swf_store.specs.Files.{bytes_of, with_bytes}
use Rattle.swf_store.specs.Put.{put}
use Rattle.swf_store.specs.Laws.{whole_is_torn, same_in_is_torn}
use Rattle.swf_store.proofs.Chain.{state_of_listed, state_after_listed, torn_last, whole_append}

abbrev pub Goes : Memory → Memory → Type 0
Goes old new = ElapsesSilent (length old.calls) (length new.calls) (LeftSince old) (LeftSince new) (IsLeft (state_of new)) (Some [])

goes_listed : (old : Memory) (call : Call) → Goes old (and_listed call old)
goes_listed old call = record {
  later = omega (arith, one_more);
  nothing_else = λ t image pieces le since. ⊎_elim (λ new. inr (subst (λ n. IsLeft (state_after (and_listed call old) n) image) (last since.number new since.made) since.left, λ told is. let none : [] ≡ told = cc in since.silent ∙ none)) (λ was. inl (record {
    number = since.number;
    not_before = since.not_before;
    made = was;
    left = subst (λ w. IsLeft w image) (state_after_listed old call since.number was) since.left;
    silent = since.silent;
  })) (cases_lt (length old.calls) since.number);
  keeps = λ t image pieces le since. record {
    number = since.number;
    not_before = since.not_before;
    made = omega (arith, one_more, since.made);
    left = subst (λ w. IsLeft w image) (sym (state_after_listed old call since.number since.made)) since.left;
    silent = since.silent;
  };
}
  where
    one_more : length (old.calls ++ call ∷ []) ≡ length old.calls + 1
    one_more = length_push old.calls call

    last : (n : ℕ) → length old.calls < n → n ≤ length (old.calls ++ call ∷ []) → n ≡ length (old.calls ++ call ∷ [])
    last n above made = omega (arith, one_more)

goes_lack : (old : Memory) → Goes old (and_lack old)
goes_lack old = record {
  later = omega arith;
  nothing_else = λ t image pieces le since. inl (record { number = since.number; not_before = since.not_before; made = since.made; left = since.left; silent = since.silent });
  keeps = λ t image pieces le since. record { number = since.number; not_before = since.not_before; made = since.made; left = since.left; silent = since.silent };
}

pub takes_goes : {T E : Type 0} (call : Call) (old new : Memory) (result : Result T E) → Takes call old new result → Goes old new
takes_goes call old new (Ok x) takes = subst (λ n. Goes old n) (sym takes.done.0) (goes_listed old call)
takes_goes call old new (Err e) takes =
    ⊎_elim (λ f. subst (λ n. Goes old n) (sym f.0) (goes_listed old call)) (λ lack. subst (λ n. Goes old n) (sym lack) (goes_lack old)) takes.failed

pub takes_listed : {T E : Type 0} (call : Call) (old new : Memory) (result : Result T E) → Takes call old new result → IsListed call (Some old.calls) (Some new.calls) result
takes_listed call old new (Ok x) takes = record { done = ap (λ (m : Memory). Some m.calls) takes.done.0; failed = tt }
takes_listed call old new (Err e) takes = record {
  done = tt;
  failed = ⊎_elim (λ f. inr (ap (λ (m : Memory). Some m.calls) f.0)) (λ lack. inl (ap (λ (m : Memory). Some m.calls) lack)) takes.failed;
}

faults_listed : (old : Memory) (call : Call) (fails : Bool) → fails_next old ≡ fails → faults_of (and_listed call old) ≡ faults_of old + (if fails then 1 else 0)
faults_listed old call fails is =
    let one_more : length (old.calls ++ call ∷ []) ≡ suc (length old.calls) = omega (arith, length_push old.calls call) in
    let counted : failed_before old.failing (length (old.calls ++ call ∷ [])) ≡ failed_before old.failing (length old.calls) + (if fails then 1 else 0) =
    ap (λ n. failed_before old.failing n) one_more ∙ ap (λ (b : Bool). failed_before old.failing (length old.calls) + (if b then 1 else 0)) is in
    omega (arith, counted)

pub takes_cause : {T E : Type 0} (call : Call) (old new : Memory) (result : Result T E) → Takes call old new result → HasCause (faults_of old) (faults_of new) result
takes_cause call old new (Ok x) takes =
    let same : faults_of new ≡ faults_of old + 0 = ap faults_of takes.done.0 ∙ faults_listed old call false takes.done.1 in
    record { failed = tt; done = omega (arith, same) }
takes_cause {T} {E} call old new (Err e) takes = record { failed = ⊎_elim counted lacked takes.failed; done = tt }
  where
    counted : (new ≡ and_listed call old) × (fails_next old ≡ true) → RoseOnce (faults_of old) (faults_of new)
    counted f =
        let more : faults_of new ≡ faults_of old + 1 = ap faults_of f.0 ∙ faults_listed old call true f.1 in
        record { rose = omega (arith, more); later = omega (arith, more); once = omega (arith, more) }

    lacked : new ≡ and_lack old → RoseOnce (faults_of old) (faults_of new)
    lacked lack =
        let more : faults_of new ≡ faults_of (and_lack old) = ap faults_of lack in
        record { rose = omega (arith, more); later = omega (arith, more); once = omega (arith, more) }

-- what is so of the files before the call, and of those after it, whether it was done or failed
takes_cases : {T E : Type 0} (P : Writing → Type 0) (call : Call) (old new : Memory) (result : Result T E) → Takes call old new result → P (state_of old) → ((fails : Bool) → P (step fails call (state_of old))) → P (state_of new)
takes_cases P call old new result takes same after = by_result result takes
  where
    listed : new ≡ and_listed call old → P (state_of new)
    listed is = subst P (sym (ap state_of is ∙ state_of_listed old call)) (after (fails_next old))

    by_result : {T E : Type 0} (r : Result T E) → Takes call old new r → P (state_of new)
    by_result (Ok x) t = listed t.done.0
    by_result (Err e) t = ⊎_elim (λ f. listed f.0) (λ lack. subst P (sym (ap state_of lack)) same) t.failed

-- a call that changes nothing that a read gives
abbrev pub IsLook : Call → Type 0
IsLook call = (fails : Bool) (writing : Writing) → reads (step fails call writing) ≡ reads writing

pub sync_is_look : IsLook Sync
sync_is_look true writing = refl
sync_is_look false writing = refl

pub takes_reads : {T E : Type 0} (call : Call) (old new : Memory) (result : Result T E) → Takes call old new result → IsLook call → reads (state_of new) ≡ reads (state_of old)
takes_reads call old new result takes look = takes_cases (λ w. reads w ≡ reads (state_of old)) call old new result takes refl (λ fails. look fails (state_of old))

-- a call that lets a stop leave nothing new
abbrev pub IsCalm : Call → Type 0
IsCalm call = (fails : Bool) (writing : Writing) (image : Image) → IsLeft (step fails call writing) image → IsLeft writing image

pub sync_is_calm : IsCalm Sync
sync_is_calm true writing image left = left
sync_is_calm false writing image left = subst (λ i. IsLeft writing i) (sym left) (whole_is_torn writing.synced writing.unsynced)

pub takes_nothing_new : {T E : Type 0} (call : Call) (old new : Memory) (result : Result T E) → Takes call old new result → IsCalm call → NothingNew (IsLeft (state_of old)) (IsLeft (state_of new))
takes_nothing_new call old new result takes calm =
    takes_cases (λ w. (image : Image) → IsLeft w image → IsLeft (state_of old) image) call old new result takes (λ image left. left) (λ fails. calm fails (state_of old))

pub takes_follows : {T E : Type 0} (file : File) (at : ℕ) (bytes : List ℕ) (old new : Memory) (result : Result T E) → Takes (Write file at bytes) old new result
    → Follows (TornIn file at (length bytes)) (IsLeft (state_of old)) (IsLeft (state_of new))
takes_follows file at bytes old new result takes =
    let was = state_of old in
    takes_cases (λ w. Follows (TornIn file at (length bytes)) (IsLeft was) (IsLeft w)) (Write file at bytes) old new result takes
    (λ image left. (image, left, same_in_is_torn file at (length bytes) image))
    (λ fails image left. torn_last was.synced image was.unsynced (record { file = file; at = at; bytes = bytes; done = not fails }) left)

pub written_reads : (fails : Bool) (writing : Writing) (file : File) (at : ℕ) (bytes : List ℕ)
    → reads (step fails (Write file at bytes) writing) ≡ and_write (reads writing) (record { file = file; at = at; bytes = bytes; done = not fails })
written_reads fails writing file at bytes = whole_append writing.synced writing.unsynced (record { file = file; at = at; bytes = bytes; done = not fails } ∷ [])

done_state : {T E : Type 0} (call : Call) (old new : Memory) (x : T) → Takes {T = T} {E = E} call old new (Ok x) → state_of new ≡ step false call (state_of old)
done_state call old new x takes = ap state_of takes.done.0 ∙ state_of_listed old call ∙ ap (λ (b : Bool). step b call (state_of old)) takes.done.1

pub takes_written : {T E : Type 0} (file : File) (at : ℕ) (bytes : List ℕ) (old new : Memory) (result : Result T E) → Takes (Write file at bytes) old new result
    → ForSome (Some (reads (state_of old))) (λ image. OnOk result (Some (reads (state_of new)) ≡ Some (with_bytes image file (put (bytes_of image file) at bytes))))
takes_written {T} {E} file at bytes old new (Ok x) takes image is =
    let same : reads (state_of old) ≡ image = cc in
    ap (λ (i : Image). Some i) (ap reads (done_state {T = T} {E = E} (Write file at bytes) old new x takes) ∙ written_reads false (state_of old) file at bytes ∙ ap (λ (i : Image). with_bytes i file (put (bytes_of i file) at bytes)) same)
takes_written file at bytes old new (Err e) takes image is = tt

pub takes_durable : {T E : Type 0} (old new : Memory) (result : Result T E) → Takes Sync old new result
    → ForSome (Some (reads (state_of old))) (λ image. OnOk result (Only image (IsLeft (state_of new))))
takes_durable {T} {E} old new (Ok x) takes image is =
    let same : reads (state_of old) ≡ image = cc in
    λ other left. subst (λ w. IsLeft w other) (done_state {T = T} {E = E} Sync old new x takes) left ∙ same
takes_durable old new (Err e) takes image is = tt
