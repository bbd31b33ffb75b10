-- How the passes of the workers and the rest of the queue add up.
use Rattle.std.proofs.Common.{◌≡◌, ℕ, ◌+◌, List, [], ◌∷◌, ◌++◌, length, length-append, map, All, slice_get, Some, sym, refl, ap, ◌∙◌, subst, true, append_assoc, append-nil, arith}
use Rattle.std.specs.declared.alloc.Global.{Global}
use Rattle.std.specs.declared.vec.Vec.{Vec}
use Rattle.std.proofs.lemmas.List.Elements.{All-nil, All-cons, All-head, All-tail, All-map}
use Rattle.crossbeam_channel.specs.Fifo.{Held}
use Rattle.swf_scheduler.specs.declared.rule.Job.{Job}
use Rattle.swf_scheduler.specs.declared.rule.Hand.{Hand}
use Rattle.swf_scheduler.specs.declared.work.Seat.{Seat}
use Rattle.swf_scheduler.specs.declared.hired.Hired.{Hired}
use Rattle.swf_scheduler.specs.Hired.{tool_of}
use Rattle.swf_scheduler.specs.Rule.{all_parts, hand, times, once_below, numbers, IsRight, Totals}
use Rattle.swf_scheduler.specs.Roster.{Roster}
use Rattle.swf_scheduler.specs.Worked.{Works, Leads, IsWorked}
use Rattle.swf_scheduler.specs.Closed.{all_taken, left_numbers, EachSeat, IsClosed}
use Rattle.swf_scheduler.specs.Gathering.{IsDrained, Hands, Gathered}
use Rattle.swf_scheduler.proofs.Lists.{times_numbers-append}
use Rattle.swf_scheduler.proofs.Working.{numbers-append, leads}
use Rattle.swf_scheduler.proofs.Crews.{map_append}

All-front : {X : Type 0} (P : X → Type 0) (xs ys : List X) → All P (xs ++ ys) → All P xs
All-front P [] ys h = All-nil P
All-front P (x ∷ xs) ys h = All-cons P x xs (All-head P x (xs ++ ys) h) (All-front P xs ys (All-tail P x (xs ++ ys) h))

All-back : {X : Type 0} (P : X → Type 0) (xs ys : List X) → All P (xs ++ ys) → All P ys
All-back P [] ys h = h
All-back P (x ∷ xs) ys h = All-back P xs ys (All-tail P x (xs ++ ys) h)

module _ {W : Type 0} where
  abbrev pair : Job W → ℕ × W
  pair job = (job.number, job.work)

  pub record Draining (before now : Hand W) (left : List (ℕ × W)) : Type 0 where
    pub late : List (Job W)
    pub step : now ≡ hand before.parts before.gives before.given (before.taken ++ late)
    pub listed : left ≡ map (λ j. (j.number, j.work)) late

  pub draining : (v : Hand W) (left : List (ℕ × W)) → left ≡ [] → Draining v v left
  draining v left none = record { late = []; step = ap (λ l. hand v.parts v.gives v.given l) (sym (append-nil v.taken)); listed = none }

  pub draining_more : (before v w : Hand W) (left more : List (ℕ × W)) (job : Job W) → Draining before v left → w ≡ hand v.parts v.gives v.given (v.taken ++ job ∷ []) → more ≡ left ++ (job.number, job.work) ∷ [] → Draining before w more
  draining_more before v w left more job is step listed = record {
    late = is.late ++ job ∷ [];
    step = step ∙ ap (λ (x : Hand W). hand x.parts x.gives x.given (x.taken ++ job ∷ [])) is.step ∙ ap (λ l. hand before.parts before.gives before.given l) (append_assoc before.taken is.late (job ∷ []));
    listed = listed ∙ ap (λ l. l ++ pair job ∷ []) is.listed ∙ sym (map_append pair is.late (job ∷ []));
  }

  left_is : (late : List (Job W)) → left_numbers (map pair late) ≡ numbers late
  left_is [] = refl
  left_is (j ∷ js) = ap (λ l. j.number ∷ l) (left_is js)

  nothing : (xs : List (Job W)) → length xs ≡ 0 → xs ≡ []
  nothing [] e = refl
  nothing (x ∷ xs) e = absurd (omega arith)

  pub drained : (before v : Hand W) (left : List (ℕ × W)) → Draining before v left → before.parts ≡ all_parts → before.gives ≡ true → Held 0 (λ items. v.parts ≡ all_parts → v.gives ≡ true → Totals v items) → IsDrained before left
  drained before v left is all may held =
      let t = held.2 (ap (λ (x : Hand W). x.parts) is.step ∙ all) (ap (λ (x : Hand W). x.gives) is.step ∙ may) in
      let none = nothing held.0 held.1 in
      let given : v.given ≡ before.given = ap (λ (x : Hand W). x.given) is.step in
      let took : v.taken ≡ before.taken ++ is.late = ap (λ (x : Hand W). x.taken) is.step in
      let right : All (IsRight before.given) (before.taken ++ is.late) = subst (λ (x : List W × List (Job W)). All (IsRight x.0) x.1) (λ i. (given i, took i)) t.right in record {
        once = λ x.
            (let a = t.once x in let b = times_numbers-append x before.taken is.late in let c = ap (λ l. times x (numbers l)) took in
            let d = ap (λ l. times x (numbers l)) none in let e = ap (λ l. times x (left_numbers l)) is.listed in let f = ap (times x) (left_is is.late) in
            let o = ap (λ l. once_below x (length l)) given in omega arith);
        took = All-front (IsRight before.given) before.taken is.late right;
        left_right = subst (All (λ l. slice_get before.given l.0 ≡ Some l.1)) (sym is.listed) (All-map (λ l. slice_get before.given l.0 ≡ Some l.1) pair is.late (All-back (IsRight before.given) before.taken is.late right));
      }

module _ {W O Tool Done : Type 0} (gives : W → Tool → Tool → Done → Type 0) (offered : O → ℕ) where
  hands_more : (ts : List Tool) (ss : List (Seat W O Tool Done)) (ns : List (Vec ℕ Global)) (jobs mine : List (Job W)) (t : Tool) (s : Seat W O Tool Done) (n : Vec ℕ Global) (results : List Done)
      → Hands gives offered ts ss ns jobs → numbers mine ≡ n.items → Works gives mine results t s.tool → offered s.outlet ≡ length n.items
      → Hands gives offered (ts ++ t ∷ []) (ss ++ s ∷ []) (ns ++ n ∷ []) (jobs ++ mine)
  hands_more [] [] [] jobs mine t s n results h listed works counted = (mine, [], results, ap (λ l. l ++ mine) h ∙ sym (append-nil mine), listed, works, counted, refl)
  hands_more [] [] (m ∷ ns) jobs mine t s n results h listed works counted = absurd h
  hands_more [] (z ∷ ss) ns jobs mine t s n results h listed works counted = absurd h
  hands_more (u ∷ ts) [] ns jobs mine t s n results h listed works counted = absurd h
  hands_more (u ∷ ts) (z ∷ ss) [] jobs mine t s n results h listed works counted = absurd h
  hands_more (u ∷ ts) (z ∷ ss) (m ∷ ns) jobs mine t s n results h listed works counted =
      (h.0, h.1 ++ mine, h.2, ap (λ l. l ++ mine) h.3 ∙ append_assoc h.0 h.1 mine, h.4, h.5, h.6, hands_more ts ss ns h.1 mine t s n results h.7 listed works counted)

  pub gathered : (v : Hand W) (ss : List (Seat W O Tool Done)) (ns : List (Vec ℕ Global)) → v.taken ≡ [] → ss ≡ [] → ns ≡ [] → Gathered gives offered [] ss ns v v
  gathered v ss ns none no_seats no_lists = record {
    parts = omega arith;
    gives_jobs = refl;
    given = refl;
    hands = subst (λ (x : List (Seat W O Tool Done) × List (Vec ℕ Global)). Hands gives offered [] x.0 x.1 v.taken) (λ i. (sym no_seats i, sym no_lists i)) none;
  }

  pub gathered_more : (ts : List Tool) (ss : List (Seat W O Tool Done)) (ns : List (Vec ℕ Global)) (before v u w : Hand W) (t : Tool) (s : Seat W O Tool Done) (n : Vec ℕ Global) → Gathered gives offered ts ss ns before v
      → IsWorked gives t s.tool (offered s.outlet) n.items u → w ≡ hand (v.parts + u.parts) v.gives v.given (v.taken ++ u.taken) → Gathered gives offered (ts ++ t ∷ []) (ss ++ s ∷ []) (ns ++ n ∷ []) before w
  gathered_more ts ss ns before v u w t s n is work step =
      let k = work.knows in let p : u.parts ≡ 1 = ap (λ (x : Hand W). x.parts) k in let q : w.parts ≡ v.parts + u.parts = ap (λ (x : Hand W). x.parts) step in let r = is.parts in record {
        parts = omega (arith, length-append ts (t ∷ []));
        gives_jobs = ap (λ (x : Hand W). x.gives) step ∙ is.gives_jobs;
        given = ap (λ (x : Hand W). x.given) step ∙ is.given;
        hands = subst (Hands gives offered (ts ++ t ∷ []) (ss ++ s ∷ []) (ns ++ n ∷ [])) (ap (λ l. v.taken ++ l) (ap (λ (x : Hand W). x.taken) (sym k)) ∙ ap (λ (x : Hand W). x.taken) (sym step))
            (hands_more ts ss ns v.taken work.jobs t s n work.results is.hands work.listed work.works work.counted);
      }

  pub gathered_next : (done : List (Hired W O Tool Done)) (one : Hired W O Tool Done) (ss more : List (Seat W O Tool Done)) (ns longer : List (Vec ℕ Global)) (before v u w : Hand W) (s : Seat W O Tool Done) (n : Vec ℕ Global)
      → Gathered gives offered (map tool_of done) ss ns before v → IsWorked gives (tool_of one) s.tool (offered s.outlet) n.items u → w ≡ hand (v.parts + u.parts) v.gives v.given (v.taken ++ u.taken)
      → more ≡ ss ++ s ∷ [] → longer ≡ ns ++ n ∷ [] → Gathered gives offered (map tool_of (done ++ one ∷ [])) more longer before w
  gathered_next done one ss more ns longer before v u w s n is work step pushed listed =
      let tools = map_append tool_of done (one ∷ []) in
      subst (λ (x : List Tool × List (Seat W O Tool Done) × List (Vec ℕ Global)). Gathered gives offered x.0 x.1 x.2 before w) (λ i. (sym tools i, sym pushed i, sym listed i))
      (gathered_more (map tool_of done) ss ns before v u w (tool_of one) s n is work step)

  taken_is : (ts : List Tool) (ss : List (Seat W O Tool Done)) (ns : List (Vec ℕ Global)) (jobs : List (Job W)) → Hands gives offered ts ss ns jobs → numbers jobs ≡ all_taken ns
  taken_is [] [] [] jobs h = ap numbers h
  taken_is [] [] (m ∷ ns) jobs h = absurd h
  taken_is [] (z ∷ ss) ns jobs h = absurd h
  taken_is (u ∷ ts) [] ns jobs h = absurd h
  taken_is (u ∷ ts) (z ∷ ss) [] jobs h = absurd h
  taken_is (u ∷ ts) (z ∷ ss) (m ∷ ns) jobs h = ap numbers h.3 ∙ numbers-append h.0 h.1 ∙ ap (λ l. l ++ numbers h.1) h.4 ∙ ap (λ l. m.items ++ l) (taken_is ts ss ns h.1 h.7)

  each_is : (given : List W) (ts : List Tool) (ss : List (Seat W O Tool Done)) (ns : List (Vec ℕ Global)) (jobs : List (Job W)) → Hands gives offered ts ss ns jobs → All (IsRight given) jobs → EachSeat gives offered given ts ss ns
  each_is given [] [] [] jobs h right = tt
  each_is given [] [] (m ∷ ns) jobs h right = h
  each_is given [] (z ∷ ss) ns jobs h right = h
  each_is given (u ∷ ts) [] ns jobs h right = h
  each_is given (u ∷ ts) (z ∷ ss) [] jobs h right = h
  each_is given (u ∷ ts) (z ∷ ss) (m ∷ ns) jobs h right =
      let all : All (IsRight given) (h.0 ++ h.1) = subst (All (IsRight given)) h.3 right in (
        (h.2, subst (λ l. Leads gives given l h.2 u z.tool) h.4 (leads gives given h.0 h.2 u z.tool h.5 (All-front (IsRight given) h.0 h.1 all))),
        h.6,
        each_is given ts ss ns h.1 h.7 (All-back (IsRight given) h.0 h.1 all),
      )

  pub closes : (crew : Roster W Tool) (ss : List (Seat W O Tool Done)) (ns : List (Vec ℕ Global)) (left : List (ℕ × W)) (before v : Hand W) → before.given ≡ crew.given → Gathered gives offered crew.tools ss ns before v → IsDrained v left → IsClosed gives offered crew ss ns left
  closes crew ss ns left before v same is rest = let given : v.given ≡ crew.given = is.given ∙ same in record {
    each_seat = each_is crew.given crew.tools ss ns v.taken is.hands (subst (λ l. All (IsRight l) v.taken) given rest.took);
    once = λ x. (let a = rest.once x in let b = ap (times x) (taken_is crew.tools ss ns v.taken is.hands) in let o = ap (λ l. once_below x (length l)) given in omega arith);
    left_right = subst (λ l. All (λ y. slice_get l y.0 ≡ Some y.1) left) given rest.left_right;
  }
