-- What stays true of a crew.
use Rattle.std.proofs.Common.{◌≡◌, ℕ, ◌+◌, ◌-◌, ◌<◌, List, [], ◌∷◌, ◌++◌, length, length-append, map, All, cond, count_by, sym, refl, ap, ◌∙◌, subst, arith}
use Rattle.std.proofs.lemmas.List.Elements.{All-push}
use Rattle.std.proofs.lemmas.List.Sums.{sum_by-append}
use Rattle.crossbeam_channel.specs.Claims.{view, IsSeatAt, Pass}
use Rattle.swf_scheduler.specs.declared.rule.Job.{Job}
use Rattle.swf_scheduler.specs.declared.rule.Hand.{Hand}
use Rattle.swf_scheduler.specs.declared.hired.Hired.{Hired}
use Rattle.swf_scheduler.specs.Rule.{hand, most_seats}
use Rattle.swf_scheduler.specs.Hired.{Ring, is_working, IsOn}
use Rattle.swf_scheduler.specs.Crew.{IsCrew}

pub map_length : {A B : Type 0} (f : A → B) (xs : List A) → length (map f xs) ≡ length xs
map_length f [] = refl
map_length f (x ∷ xs) = let e = map_length f xs in omega arith

pub map_append : {A B : Type 0} (f : A → B) (xs ys : List A) → map f (xs ++ ys) ≡ map f xs ++ map f ys
map_append f [] ys = refl
map_append f (x ∷ xs) ys = ap (λ l. f x ∷ l) (map_append f xs ys)

module _ {W O Tool Done : Type 0} (gives : W → Tool → Tool → Done → Type 0) (offered : O → ℕ) where
  pub has_parts : (to from : Ring W) (pass : Pass (Job W) (Hand W)) (hired : List (Hired W O Tool Done)) (next started : ℕ) → IsCrew gives offered to from pass hired next started → length hired < most_seats → 1 < (view pass).parts
  has_parts to from pass hired next started is few = let p = is.parts in omega arith

  pub hires : (to from : Ring W) (pass after : Pass (Job W) (Hand W)) (hired more : List (Hired W O Tool Done)) (next started : ℕ) (one : Hired W O Tool Done) → IsCrew gives offered to from pass hired next started → length hired < 8
      → IsSeatAt to after → view after ≡ hand ((view pass).parts - 1) (view pass).gives (view pass).given (view pass).taken → more ≡ hired ++ one ∷ [] → IsOn gives offered from one
      → IsCrew gives offered to from after more next (started + count_by is_working (one ∷ []))
  hires to from pass after hired more next started one is few seat step listed on =
      let p = is.parts in let l = ap length listed in let a : (view after).parts ≡ (view pass).parts - 1 = ap (λ (v : Hand W). v.parts) step in let longer = length-append hired (one ∷ []) in record {
        channel = seat;
        same = is.same;
        room = is.room;
        parts = omega arith;
        few = omega arith;
        gives_jobs = ap (λ (v : Hand W). v.gives) step ∙ is.gives_jobs;
        took = ap (λ (v : Hand W). v.taken) step ∙ is.took;
        numbered = is.numbered ∙ ap (λ (v : Hand W). length v.given) (sym step);
        each = subst (All (IsOn gives offered to)) (sym listed) (All-push (IsOn gives offered to) hired one is.each (subst (λ r. IsOn gives offered r one) is.same on));
        counted = ap (λ n. n + count_by is_working (one ∷ [])) is.counted ∙ sym (sum_by-append (λ h. cond (is_working h) 1 0) hired (one ∷ [])) ∙ ap (count_by is_working) (sym listed);
      }

pub no_items : {A : Type 0} (xs : List A) → length xs ≡ 0 → xs ≡ []
no_items [] e = refl
no_items (x ∷ xs) e = absurd (omega arith)
