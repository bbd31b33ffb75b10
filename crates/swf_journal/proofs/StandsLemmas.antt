-- An image stands for at most one list of frames, and damage stands for none.
use Rattle.std.proofs.Common.{◌≡◌, ◌≢◌, inl, inr, ⊎_elim, ℕ, ◌+◌, ◌<◌, List, [], ◌∷◌, ◌++◌, length, drop, refl, sym, ◌∙◌, ap, arith, length-append}
use Rattle.std.specs.List.{AllByRecursion}
use Rattle.std.proofs.lemmas.Bool.{cases_lt}
use Rattle.std.proofs.lemmas.List.{append_assoc, append_cancel_left, drop_at}
use Rattle.swf_journal.specs.Frames.{header, open_gate, length_bytes, frames_bytes, next_gate}
use Rattle.swf_journal.specs.Opening.{IsFrame, IsDamage}
use Rattle.swf_journal.specs.Place.{Place, HasRead}
use Rattle.swf_journal.specs.Stands.{Fits, IsShutAfter, StandsFor}
use Rattle.swf_journal.proofs.FrameLemmas.{length-header, length-length_bytes, same_length, parts_are, nested}

-- the first of two equal runs of frames, and what is left of both
pub record SameFirst (f g : List ℕ) (r s : List ℕ) : Type 0 where
  pub same : f ≡ g
  pub rest : r ≡ s

pub first_is : (f g r s : List ℕ) → Fits f → Fits g → length_bytes (length f) ++ (f ++ r) ≡ length_bytes (length g) ++ (g ++ s) → SameFirst f g r s
first_is f g r s fits fits' is =
    let lens = parts_are (length_bytes (length f)) (f ++ r) (length_bytes (length g)) (g ++ s) is (length-length_bytes (length f) ∙ sym (length-length_bytes (length g))) in
    let bodies = parts_are f r g s lens.1 (same_length (length f) (length g) fits fits' lens.0) in
    record { same = bodies.0; rest = bodies.1 }

-- without the open gate
pub peeled : (f : List ℕ) (fs : List (List ℕ)) (g : List ℕ) (gs : List (List ℕ)) (r s : List ℕ) → frames_bytes (f ∷ fs) ++ r ≡ frames_bytes (g ∷ gs) ++ s
    → length_bytes (length f) ++ (f ++ (frames_bytes fs ++ r)) ≡ length_bytes (length g) ++ (g ++ (frames_bytes gs ++ s))
peeled f fs g gs r s is =
    let lf = length_bytes (length f) in
    let lg = length_bytes (length g) in
    let inner : lf ++ (f ++ frames_bytes fs) ++ r ≡ lg ++ (g ++ frames_bytes gs) ++ s = cc in
    sym (nested lf f (frames_bytes fs) r) ∙ inner ∙ nested lg g (frames_bytes gs) s

one_run : (f g : List (List ℕ)) (x y : ℕ) (r s : List ℕ) → AllByRecursion Fits f → AllByRecursion Fits g → x ≢ open_gate → y ≢ open_gate → frames_bytes f ++ x ∷ r ≡ frames_bytes g ++ y ∷ s → f ≡ g
one_run [] [] x y r s fit fit' shut shut' is = refl
one_run [] (g ∷ gs) x y r s fit fit' shut shut' is = let opened : x ≡ open_gate = cc in absurd (shut opened)
one_run (f ∷ fs) [] x y r s fit fit' shut shut' is = let opened : y ≡ open_gate = cc in absurd (shut' opened)
one_run (f ∷ fs) (g ∷ gs) x y r s fit fit' shut shut' is =
    let both = first_is f g (frames_bytes fs ++ x ∷ r) (frames_bytes gs ++ y ∷ s) fit.0 fit'.0 (peeled f fs g gs (x ∷ r) (y ∷ s) is) in
    let rest = one_run fs gs x y r s fit.1 fit'.1 shut shut' both.rest in
    ap (λ (b : List ℕ). b ∷ fs) both.same ∙ ap (λ (bs : List (List ℕ)). g ∷ bs) rest

-- an image stands for at most one list of frames
pub stands_for_one : (journal : List ℕ) (f g : List (List ℕ)) → StandsFor journal f → StandsFor journal g → f ≡ g
stands_for_one journal f g (inl short) (inl short') = short.1 ∙ sym short'.1
stands_for_one journal f g (inl short) (inr long) = absurd (omega (arith, short.0, long.0))
stands_for_one journal f g (inr long) (inl short) = absurd (omega (arith, short.0, long.0))
stands_for_one journal f g (inr long) (inr long') =
    let a = long.1 in
    let b = long'.1 in
    one_run f g a.gate b.gate a.rest b.rest a.fit b.fit a.shut b.shut (append_cancel_left header _ _ (sym a.laid ∙ b.laid))

size_of : (front : List ℕ) (frames : List (List ℕ)) (gate : ℕ) (rest : List ℕ) → length (front ++ (frames_bytes frames ++ gate ∷ rest)) ≡ next_gate front frames + 1 + length rest
size_of front frames gate rest = omega (arith, length-append front (frames_bytes frames ++ gate ∷ rest), length-append (frames_bytes frames) (gate ∷ rest))

pub size_after : (bytes front : List ℕ) (frames : List (List ℕ)) (gate : ℕ) (rest : List ℕ) → bytes ≡ front ++ (frames_bytes frames ++ gate ∷ rest) → length bytes ≡ next_gate front frames + 1 + length rest
size_after bytes front frames gate rest is = ap (λ (l : List ℕ). length l) is ∙ size_of front frames gate rest

-- a journal of fewer than 25 bytes has no frame
none_if_short : (frames : List (List ℕ)) → next_gate header frames + 1 < 25 → frames ≡ []
none_if_short [] short = refl
none_if_short (f ∷ fs) short =
    let len = length_bytes (length f) in
    absurd (omega (arith, short, length-header, length-append len (f ++ frames_bytes fs), length-length_bytes (length f)))

-- frames behind the header, and then a gate that is not open
pub shut_stands : (journal : List ℕ) (frames : List (List ℕ)) → IsShutAfter header journal frames → StandsFor journal frames
shut_stands journal frames shut = ⊎_elim
    (λ short. inl (short, none_if_short frames (omega (arith, short, size_after journal header frames shut.gate shut.rest shut.laid))))
    (λ long. inr (long, shut))
    (cases_lt (length journal) 25)

-- what stands behind the frames that were read
pub behind_is : (bytes : List ℕ) (place : Place) (front : List ℕ) (frames : List (List ℕ)) → (read : HasRead bytes place front frames) → drop place.gate bytes ≡ read.gate ∷ read.rest
behind_is bytes place front frames read =
    let ahead = front ++ frames_bytes frames in
    let split : bytes ≡ ahead ++ read.gate ∷ read.rest = read.laid ∙ sym (append_assoc front (frames_bytes frames) (read.gate ∷ read.rest)) in
    let size : length ahead ≡ place.gate = omega (arith, read.here, length-append front (frames_bytes frames)) in
    ap (λ (l : List ℕ). drop place.gate l) split ∙ drop_at ahead (read.gate ∷ read.rest) place.gate size

-- where a journal stands for frames, an open gate among them stands before a whole one
walked : (fs h : List (List ℕ)) (g x : ℕ) (rest r : List ℕ) → AllByRecursion Fits fs → AllByRecursion Fits h → x ≢ open_gate → g ≡ open_gate → frames_bytes fs ++ g ∷ rest ≡ frames_bytes h ++ x ∷ r
    → (body : List ℕ) × (after : List ℕ) × IsFrame (g ∷ rest) body after
walked [] [] g x rest r fit fit' shut opened is = let same : g ≡ x = cc in absurd (shut (sym same ∙ opened))
walked [] (b ∷ h) g x rest r fit fit' shut opened is =
    let len = length_bytes (length b) in
    let after = frames_bytes h ++ x ∷ r in (
      b,
      after,
      record {
        bytes = is ∙ ap (λ (l : List ℕ). open_gate ∷ l) (nested len b (frames_bytes h) (x ∷ r));
        gate = omega (arith, length-append (frames_bytes h) (x ∷ r));
        fits = fit'.0;
      },
    )
walked (f ∷ fs) [] g x rest r fit fit' shut opened is = let same : x ≡ open_gate = cc in absurd (shut same)
walked (f ∷ fs) (b ∷ h) g x rest r fit fit' shut opened is =
    let both = first_is f b (frames_bytes fs ++ g ∷ rest) (frames_bytes h ++ x ∷ r) fit.0 fit'.0 (peeled f fs b h (g ∷ rest) (x ∷ r) is) in
    walked fs h g x rest r fit.1 fit'.1 shut opened both.rest

-- a reading meets no damage where the bytes hold frames behind what stands in front
pub no_damage : (bytes : List ℕ) (place : Place) (front : List ℕ) (frames h : List (List ℕ)) → HasRead bytes place front frames → IsShutAfter front bytes h → IsDamage (drop place.gate bytes) → ⊥
no_damage bytes place front frames h read shut damage =
    let behind = behind_is bytes place front frames read in
    let same : read.gate ∷ read.rest ≡ open_gate ∷ damage.rest = sym behind ∙ damage.opened in
    let opened : read.gate ≡ open_gate = cc in
    let found = walked frames h read.gate shut.gate read.rest shut.rest read.fit shut.fit shut.shut opened (append_cancel_left front _ _ (sym read.laid ∙ shut.laid)) in
    damage.no_frame found.0 found.1 (record { bytes = behind ∙ found.2.bytes; gate = found.2.gate; fits = found.2.fits })
