-- Each step keeps the rule.
use Rattle.std.proofs.Common.{◌≡◌, ◌≢◌, ℕ, zero, suc, ◌+◌, ◌-◌, ◌<◌, true, false, true≢false, List, [], ◌∷◌, ◌++◌, length, length-append, set, slice_get, All, sym, refl, ap, ◌∙◌, subst, ⊎_elim, arith}
use mathlib.Core.Option.{some, some-injective, some-ne-none}
use lib.ListN.{get_elem?}
use Rattle.std.proofs.lemmas.List.Elements.{All-nil, All-head, All-tail, All-push, All-append, All-weaker}
use Rattle.atomic_table.proofs.Lists.{at_set, at_snoc}
use Rattle.crossbeam_channel.specs.Fifo.{Pushes, Pops, Forks, Merges, Learns}
use Rattle.swf_scheduler.specs.declared.rule.Job.{Job}
use Rattle.swf_scheduler.specs.declared.rule.Hand.{Hand}
use Rattle.swf_scheduler.specs.Rule.{all_parts, most_queued, hand, total, times, once_below, numbers, IsRight, Queued, Totals, Fits, Kept}
use Rattle.swf_scheduler.proofs.Lists.{total_set, total_set_two, total_snoc, total_least, times_numbers-append, once_more, once_none, slice_get_longer, slice_get_last}

module _ {W : Type 0} where
  more_right : (given : List W) (w : W) (jobs : List (Job W)) → All (IsRight given) jobs → All (IsRight (given ++ w ∷ [])) jobs
  more_right given w jobs h = All-weaker (IsRight given) (IsRight (given ++ w ∷ [])) (λ j e. slice_get_longer given (w ∷ []) j.number j.work e) jobs h

  abbrev Each : (ℕ → Hand W → Type 0) → List (Hand W) → Type 0
  Each F views = (port : ℕ) (v : Hand W) → get_elem? views port ≡ some v → F port v

  each_set : (F : ℕ → Hand W → Type 0) (views : List (Hand W)) (port : ℕ) (w : Hand W) → F port w → ((j : ℕ) (u : Hand W) → j ≢ port → get_elem? views j ≡ some u → F j u) → Each F (set views port w)
  each_set F views port w mine others j u e = ⊎_elim (λ (x : (j ≡ port) × (w ≡ u)). subst (λ (y : ℕ × Hand W). F y.0 y.1) (λ i. (sym x.0 i, x.1 i)) mine)
      (λ (x : (j ≢ port) × (get_elem? views j ≡ some u)). others j u x.0 x.1) (at_set views port j w u e)

  none_taken : (views : List (Hand W)) → total (λ v. v.parts) views ≡ 0 → (f : Hand W → ℕ) → Each (λ _ u. u.parts ≡ 0 → f u ≡ 0) views → total f views ≡ 0
  none_taken [] none f h = refl
  none_taken (x ∷ xs) none f h = let here : f x ≡ 0 = h 0 x refl (omega arith) in let rest = none_taken xs (omega arith) f (λ j u e. h (suc j) u e) in omega arith

  -- where one pass has all parts, the total is its own
  all_mine : (views : List (Hand W)) (port : ℕ) (v : Hand W) → get_elem? views port ≡ some v → total (λ u. u.parts) views ≡ v.parts → (f : Hand W → ℕ) → Each (λ _ u. u.parts ≡ 0 → f u ≡ 0) views → total f views ≡ f v
  all_mine [] port v at all f h = absurd (some-ne-none v (sym at))
  all_mine (x ∷ xs) zero v at all f h =
      let e = some-injective x v at in let p : x.parts ≡ v.parts = ap (λ (u : Hand W). u.parts) e in let q : f x ≡ f v = ap f e in
      let rest = none_taken xs (omega arith) f (λ j u e. h (suc j) u e) in omega arith
  all_mine (x ∷ xs) (suc port) v at all f h =
      let least = total_least (λ (u : Hand W). u.parts) xs port v at in let here : f x ≡ 0 = h 0 x refl (omega arith) in
      let rest = all_mine xs port v at (omega arith) f (λ j u e. h (suc j) u e) in omega arith

  pub begins : Kept {W = W} [] (hand all_parts true [] [] ∷ [])
  begins = record {
    giver = 0;
    given = [];
    parts = refl;
    once = λ x. omega (arith, once_none x);
    counted = refl;
    room = omega arith;
    right = All-nil (IsRight []);
    each = each_set (Fits 0 []) (hand all_parts true [] [] ∷ []) 0 (hand all_parts true [] []) (record { gives = λ _. (refl, refl); right = All-nil (IsRight []); empty = λ _. refl }) (λ j u other e. absurd (only j u other e));
  }
    where
      only : (j : ℕ) (u : Hand W) → j ≢ 0 → get_elem? (hand all_parts true [] [] ∷ []) j ≡ some u → ⊥
      only zero u other e = other refl
      only (suc j) u other e = some-ne-none u (sym e)

  pub puts : (n port : ℕ) (v : Hand W) (job : Job W) → n ≡ most_queued → v.gives ≡ true → job.number ≡ length v.given → Pushes Kept n port v job (λ w. w ≡ hand v.parts v.gives (v.given ++ job.work ∷ []) v.taken)
  puts n port v job is_cap may number items views room k at =
      let w : Hand W = hand v.parts v.gives (v.given ++ job.work ∷ []) v.taken in let mine = k.each port v at in let first = mine.gives may in let given = k.given ++ job.work ∷ [] in
      let here : job.number ≡ length k.given = number ∙ ap length first.1 in (
        w,
        record {
          giver = k.giver;
          given = given;
          parts = (let e = total_set (λ (u : Hand W). u.parts) views port v w at in let p = k.parts in omega arith);
          once = λ x.
              (let e = total_set (λ (u : Hand W). times x (numbers u.taken)) views port v w at in let p = k.once x in let a = times_numbers-append x items (job ∷ []) in
              let l : length given ≡ length k.given + 1 = omega (arith, length-append k.given (job.work ∷ [])) in let o = ap (once_below x) l in let m = once_more x job.number (length k.given) here in omega arith);
          counted = (let e = total_set (λ (u : Hand W). length u.taken) views port v w at in let p = k.counted in omega (arith, length-append items (job ∷ []), length-append k.given (job.work ∷ [])));
          room = omega (arith, length-append items (job ∷ []));
          right = All-push (IsRight given) items job (more_right k.given job.work items k.right) (ap (slice_get given) here ∙ slice_get_last k.given job.work);
          each = each_set (Fits k.giver given) views port w (record { gives = λ _. (first.0, ap (λ l. l ++ job.work ∷ []) first.1); right = more_right k.given job.work v.taken mine.right; empty = mine.empty })
              (λ j u other e. let f = k.each j u e in record { gives = λ g. absurd (other ((f.gives g).0 ∙ sym first.0)); right = more_right k.given job.work u.taken f.right; empty = f.empty });
        },
        refl,
      )

  pub totals : (port : ℕ) (v : Hand W) → v.parts ≡ all_parts → v.gives ≡ true → Learns Kept port v (Totals v)
  totals port v all may items views k at = let mine = k.each port v at in let first = mine.gives may in
      let alone = all_mine views port v at (k.parts ∙ sym all) in record {
        once = λ x. (let e = alone (λ u. times x (numbers u.taken)) (λ j u e none. ap (λ l. times x (numbers l)) ((k.each j u e).empty none)) in let p = k.once x in let l = ap (λ l. once_below x (length l)) first.1 in omega arith);
        right = subst (λ l. All (IsRight l) v.taken) (sym first.1) mine.right;
        queued = subst (λ l. All (IsRight l) items) (sym first.1) k.right;
        counted = (let e = alone (λ u. length u.taken) (λ j u e none. ap length ((k.each j u e).empty none)) in let p = k.counted in let l = ap length first.1 in omega arith);
        room = k.room;
      }

  pub queued : (port : ℕ) (v : Hand W) → v.gives ≡ true → Learns Kept port v (Queued v.given)
  queued port v may items views k at = let first = (k.each port v at).gives may in record {
    right = subst (λ l. All (IsRight l) items) (sym first.1) k.right;
    once = λ x. (let p = k.once x in let l = ap (λ l. once_below x (length l)) first.1 in omega arith);
  }

  pub takes : (port : ℕ) (v : Hand W) → 0 < v.parts → Pops Kept port v (λ x w. (w ≡ hand v.parts v.gives v.given (v.taken ++ x ∷ [])) × (v.parts ≡ all_parts → v.gives ≡ true → length v.taken < length v.given))
  takes port v some_part job items views k at =
      let w : Hand W = hand v.parts v.gives v.given (v.taken ++ job ∷ []) in let mine = k.each port v at in (
        w,
        record {
          giver = k.giver;
          given = k.given;
          parts = (let e = total_set (λ (u : Hand W). u.parts) views port v w at in let p = k.parts in omega arith);
          once = λ x. (let e = total_set (λ (u : Hand W). times x (numbers u.taken)) views port v w at in let p = k.once x in let a = times_numbers-append x v.taken (job ∷ []) in omega arith);
          counted = (let e = total_set (λ (u : Hand W). length u.taken) views port v w at in let p = k.counted in omega (arith, length-append v.taken (job ∷ [])));
          room = (let r = k.room in omega arith);
          right = All-tail (IsRight k.given) job items k.right;
          each = each_set (Fits k.giver k.given) views port w (record { gives = mine.gives; right = All-push (IsRight k.given) v.taken job mine.right (All-head (IsRight k.given) job items k.right); empty = λ none. absurd (omega arith) }) (λ j u other e. k.each j u e);
        },
        (refl, λ all may. (let t = (totals port v all may (job ∷ items) views k at).counted in omega arith)),
      )

  pub forks : (port : ℕ) (v : Hand W) → 1 < v.parts → Forks Kept port v (hand (v.parts - 1) v.gives v.given v.taken) (hand 1 false [] [])
  forks port v parts items views k at =
      let l : Hand W = hand (v.parts - 1) v.gives v.given v.taken in let r : Hand W = hand 1 false [] [] in let mine = k.each port v at in let vs = set views port l in record {
        giver = k.giver;
        given = k.given;
        parts = (let e = total_set (λ (u : Hand W). u.parts) views port v l at in let s = total_snoc (λ (u : Hand W). u.parts) vs r in let p = k.parts in omega arith);
        once = λ x. (let e = total_set (λ (u : Hand W). times x (numbers u.taken)) views port v l at in let s = total_snoc (λ (u : Hand W). times x (numbers u.taken)) vs r in let p = k.once x in omega arith);
        counted = (let e = total_set (λ (u : Hand W). length u.taken) views port v l at in let s = total_snoc (λ (u : Hand W). length u.taken) vs r in let p = k.counted in omega arith);
        room = k.room;
        right = k.right;
        each = λ j u e. ⊎_elim (λ x. each_set (Fits k.giver k.given) views port l (record { gives = mine.gives; right = mine.right; empty = λ none. absurd (omega arith) }) (λ i y other a. k.each i y a) j u x)
            (λ (is : r ≡ u). subst (Fits k.giver k.given j) is (record { gives = λ no. absurd (true≢false (sym no)); right = All-nil (IsRight k.given); empty = λ _. refl })) (at_snoc vs r u j e);
      }

  pub merges : (port : ℕ) (v : Hand W) (other : ℕ) (u : Hand W) → u.gives ≡ false → Merges Kept port v other u (hand (v.parts + u.parts) v.gives v.given (v.taken ++ u.taken)) (hand 0 false [] [])
  merges port v other u no_giver items views k at two at' =
      let both : Hand W = hand (v.parts + u.parts) v.gives v.given (v.taken ++ u.taken) in let spent : Hand W = hand 0 false [] [] in let mine = k.each port v at in let vs = set views port both in
      let was : get_elem? views other ≡ some u = ⊎_elim (λ x. absurd (two x.0)) (λ x. x.1) (at_set views port other both u at') in let theirs = k.each other u was in
      record {
        giver = k.giver;
        given = k.given;
        parts = (let e = total_set_two (λ (u : Hand W). u.parts) views port other v both u spent at at' in let p = k.parts in omega arith);
        once = λ x. (let e = total_set_two (λ (u : Hand W). times x (numbers u.taken)) views port other v both u spent at at' in let a = times_numbers-append x v.taken u.taken in let p = k.once x in omega arith);
        counted = (let e = total_set_two (λ (u : Hand W). length u.taken) views port other v both u spent at at' in let p = k.counted in omega (arith, length-append v.taken u.taken));
        room = k.room;
        right = k.right;
        each = each_set (Fits k.giver k.given) vs other spent (record { gives = λ yes. absurd (true≢false (sym yes)); right = All-nil (IsRight k.given); empty = λ _. refl })
            (λ j y apart e. each_set (Fits k.giver k.given) views port both (record {
              gives = mine.gives;
              right = All-append (IsRight k.given) v.taken u.taken mine.right theirs.right;
              empty = λ none. (let a = mine.empty (omega arith) in let b = theirs.empty (omega arith) in λ i. a i ++ b i);
            }) (λ i z _ a. k.each i z a) j y e);
      }
