-- What a stop leaves of a host in memory through each call of it.
use Rattle.std.proofs.Common.{◌≡◌, ◌⊎◌, true, inl, inr, ⊎_elim, ℕ, ◌+◌, ◌/◌, ◌<◌, ◌≤◌, List, [], ◌∷◌, ◌++◌, Some, Result, Ok, Err, length, take, drop, get_or, refl, sym, ◌∙◌, ap, subst, arith, append-nil}
use Rattle.std.proofs.lemmas.Bool.{cases_lt}
use Rattle.std.proofs.lemmas.List.{take_all, take-append-drop, take-append-le, drop-append-le, get_or-drop, get_or_push, get_or_append_left, length_push, length-drop, map-append}
use Rattle.std.proofs.lemmas.List.Elements.{All-take, All-push}
use Rattle.swf_store.specs.declared.call.Call.{Call}
use Rattle.swf_store.specs.declared.image.Image.{Image}
use Rattle.swf_store.specs.declared.said.Piece.{Piece}
use Rattle.swf_store.specs.Memory.{Memory, Takes, state_of, state_after, and_listed, and_lack}
use Rattle.swf_store.specs.Replay.{IsLeft}
use Rattle.swf_store.specs.Said.{AfterSay, IsSaid, MayHaveSaid, and_piece}
use Rattle.swf_store.specs.Stops.{Elapses}
use Rattle.swf_store.proofs.Chain.{state_after_listed}
use Rattle.swf_host.specs.declared.host.Input.{Input}
use Rattle.swf_host.specs.declared.script.Said.{Said}
use Rattle.swf_host.specs.Hosted.{Hosted, StopsSince, SaidBy, SaidFrom, pieces_of, piece_of}
use Rattle.swf_host.specs.Script.{Play, AfterSaid, failed, half, is_among, lacked, piece_said, say_counted}

-- the same host: no moment more
pub stands : (memory : Memory) (old new : List Said) (Q : List Piece → Type 0) → new ≡ old
    → Elapses (length memory.calls + length old) (length memory.calls + length new) (StopsSince memory old) (StopsSince memory new) (IsLeft (state_of memory)) Q
stands memory old new Q is =
    subst (λ l. Elapses (length memory.calls + length old) (length memory.calls + length l) (StopsSince memory old) (StopsSince memory l) (IsLeft (state_of memory)) Q) (sym is)
    (record { later = omega arith; nothing_else = λ t image pieces le since. inl since; keeps = λ t image pieces le since. since })

-- what was said before some calls was said before more
pub said_by_more : (few many : ℕ) (said : List Said) → few ≤ many → SaidBy few said → SaidBy many said
said_by_more few many said le by = λ k d lt. omega (arith, le, by k d lt)

module _ (old : Memory) (said : List Said) (call : Call) (by : SaidBy (length old.calls) said) where
  abbrev Goes : Memory → Type 0
  Goes after = Elapses (length old.calls + length said) (length after.calls + length said) (StopsSince old said) (StopsSince after said) (IsLeft (state_of after)) (IsSaid (Some (pieces_of said)))

  goes_listed : Goes (and_listed call old)
  goes_listed = record {
    later = omega (arith, one_more);
    nothing_else = λ t image pieces le since. ⊎_elim
        (λ last. inr (now image pieces t since last))
        (λ was. inl (record {
          calls = since.calls;
          number = since.number;
          not_before = since.not_before;
          made = was;
          spoken = since.spoken;
          left = subst (λ w. IsLeft w image) (state_after_listed old call since.calls was) since.left;
          pieces_are = since.pieces_are;
          said_by = λ fewer. since.said_by (omega (arith, fewer, one_more));
          said_from = since.said_from;
        }))
        (cases_lt (length old.calls) since.calls);
    keeps = λ t image pieces le since. record {
      calls = since.calls;
      number = since.number;
      not_before = since.not_before;
      made = omega (arith, one_more, since.made);
      spoken = since.spoken;
      left = subst (λ w. IsLeft w image) (sym (state_after_listed old call since.calls since.made)) since.left;
      pieces_are = since.pieces_are;
      said_by = λ fewer. ⊎_elim
          (λ more. since.said_by more)
          (λ all. said_by_more (length old.calls) since.calls (take since.number said) all (All-take (λ s. s.calls ≤ length old.calls) since.number said by))
          (cases_lt since.calls (length old.calls));
      said_from = since.said_from;
    };
  }
    where
      one_more : length (old.calls ++ call ∷ []) ≡ length old.calls + 1
      one_more = length_push old.calls call

      -- behind the new call all pieces had been said
      all_said : (calls number : ℕ) → length old.calls < calls → SaidFrom calls (drop number said) → length said ≤ number
      all_said calls number above from = ⊎_elim
          (λ fewer. absurd (none fewer))
          (λ all. all)
          (cases_lt number (length said))
        where
          none : number < length said → ⊥
          none fewer =
              let first : (d : Said) → calls ≤ (get_or said number d).calls = λ d.
              let same : get_or (drop number said) 0 d ≡ get_or said number d = get_or-drop number said 0 d ∙ ap (λ n. get_or said n d) (omega arith) in
              subst (λ (s : Said). calls ≤ s.calls) same (from 0 d (omega (arith, fewer, length-drop number said))) in
              let any : Said = record { conn = 0; bytes = []; inputs = 0; calls = 0 } in
              omega (arith, above, first any, by number any fewer)

      now : (image : Image) (pieces : List Piece) (t : ℕ) (since : StopsSince (and_listed call old) said t image pieces) → length old.calls < since.calls
          → IsLeft (state_of (and_listed call old)) image × IsSaid (Some (pieces_of said)) pieces
      now image pieces t since above =
          let last : since.calls ≡ length (old.calls ++ call ∷ []) = omega (arith, one_more, above, since.made) in (
            subst (λ n. IsLeft (state_after (and_listed call old) n) image) last since.left,
            λ told is. let same : pieces_of said ≡ told = cc in since.pieces_are ∙ ap pieces_of (take_all since.number said (all_said since.calls since.number above since.said_from)) ∙ same,
          )

  goes_lack : Goes (and_lack old)
  goes_lack = record {
    later = omega arith;
    nothing_else = λ t image pieces le since. inl (record { calls = since.calls; number = since.number; not_before = since.not_before; made = since.made; spoken = since.spoken; left = since.left; pieces_are = since.pieces_are; said_by = since.said_by; said_from = since.said_from });
    keeps = λ t image pieces le since. record { calls = since.calls; number = since.number; not_before = since.not_before; made = since.made; spoken = since.spoken; left = since.left; pieces_are = since.pieces_are; said_by = since.said_by; said_from = since.said_from };
  }

-- a call of the store
pub call_elapses : {T E : Type 0} (call : Call) (old after : Memory) (said : List Said) (result : Result T E) → Takes call old after result → SaidBy (length old.calls) said
    → Elapses (length old.calls + length said) (length after.calls + length said) (StopsSince old said) (StopsSince after said) (IsLeft (state_of after)) (IsSaid (Some (pieces_of said)))
call_elapses call old after said (Ok x) takes by = subst (λ m. Goes old said call by m) (sym takes.done.0) (goes_listed old said call by)
call_elapses call old after said (Err e) takes by =
    ⊎_elim (λ f. subst (λ m. Goes old said call by m) (sym f.0) (goes_listed old said call by)) (λ lack. subst (λ m. Goes old said call by m) (sym lack) (goes_lack old said call by)) takes.failed

-- a piece is said, which is the first of some bytes
module _ (conn : ℕ) (bytes part rest : List ℕ) (begins : bytes ≡ part ++ rest) {G W : Type 0} (memory : Memory) (p : Play G W) where
  abbrev calls : ℕ
  calls = length memory.calls

  abbrev one : Said
  one = record { conn = conn; bytes = part; inputs = length p.taken; calls = calls }

  abbrev said : List Said
  said = p.said

  abbrev now : List Said
  now = p.said ++ one ∷ []

  now_are : pieces_of now ≡ and_piece conn part (length p.taken) (pieces_of said)
  now_are = map-append piece_of said (one ∷ [])

  abbrev May : List Piece → Type 0
  May = MayHaveSaid conn bytes (Some p.taken) (Some (pieces_of said))

  may_now : May (pieces_of now)
  may_now inputs is before was =
      let taken : p.taken ≡ inputs = cc in
      let told : pieces_of said ≡ before = cc in
      record {
        part = part;
        rest = rest;
        begins = begins;
        told = inr (now_are ∙ ap (λ (l : List (Input W)). and_piece conn part (length l) (pieces_of said)) taken ∙ ap (λ (l : List Piece). and_piece conn part (length inputs) l) told);
      }

  -- behind the new piece all calls had been made
  all_made : (n number : ℕ) → length said < number → number ≤ length now → SaidBy n (take number now) → calls ≤ n
  all_made n number above spoken by =
      let whole : take number now ≡ now = take_all number now (omega (arith, above, length_push said one)) in
      let last : get_or now (length said) one ≡ one = get_or_push said one one (length said) refl in
      let fewer : (get_or now (length said) one).calls ≤ n = subst (SaidBy n) whole by (length said) one (omega (arith, length_push said one)) in
      subst (λ (s : Said). s.calls ≤ n) last fewer

  one_more : length now ≡ length said + 1
  one_more = length_push said one

  here : (image : Image) (pieces : List Piece) (t : ℕ) (since : StopsSince memory now t image pieces) → length said < since.number → IsLeft (state_of memory) image × May pieces
  here image pieces t since above =
      let whole : take since.number now ≡ now = take_all since.number now (omega (arith, above, one_more)) in
      let last : since.calls ≡ calls = ⊎_elim
      (λ fewer. let all = all_made since.calls since.number above since.spoken (since.said_by fewer) in omega (arith, all, since.made))
      (λ all. omega (arith, all, since.made))
      (cases_lt since.calls calls) in
      (subst (λ n. IsLeft (state_after memory n) image) last since.left, subst May (sym (since.pieces_are ∙ ap pieces_of whole)) may_now)

  pub spoke_elapses : Elapses (calls + length said) (calls + length now) (StopsSince memory said) (StopsSince memory now) (IsLeft (state_of memory)) May
  spoke_elapses = record {
    later = omega (arith, one_more);
    nothing_else = λ t image pieces le since. ⊎_elim
        (λ last. inr (here image pieces t since last))
        (λ was. inl (record {
          calls = since.calls;
          number = since.number;
          not_before = since.not_before;
          made = since.made;
          spoken = was;
          left = since.left;
          pieces_are = since.pieces_are ∙ ap pieces_of (take-append-le since.number said (one ∷ []) was);
          said_by = λ fewer. subst (SaidBy since.calls) (take-append-le since.number said (one ∷ []) was) (since.said_by fewer);
          said_from = λ k d lt.
              let inside : k < length (drop since.number said ++ one ∷ []) = omega (arith, lt, length_push (drop since.number said) one) in
              let whole : SaidFrom since.calls (drop since.number said ++ one ∷ []) = subst (SaidFrom since.calls) (drop-append-le since.number said (one ∷ []) was) since.said_from in
              subst (λ (s : Said). since.calls ≤ s.calls) (get_or_append_left (drop since.number said) (one ∷ []) d k lt) (whole k d inside);
        }))
        (cases_lt (length said) since.number);
    keeps = λ t image pieces le since. record {
      calls = since.calls;
      number = since.number;
      not_before = since.not_before;
      made = since.made;
      spoken = omega (arith, one_more, since.spoken);
      left = since.left;
      pieces_are = since.pieces_are ∙ ap pieces_of (sym (take-append-le since.number said (one ∷ []) since.spoken));
      said_by = λ fewer. subst (SaidBy since.calls) (sym (take-append-le since.number said (one ∷ []) since.spoken)) (since.said_by fewer);
      said_from = subst (SaidFrom since.calls) (sym (drop-append-le since.number said (one ∷ []) since.spoken)) (All-push (λ s. since.calls ≤ s.calls) (drop since.number said) one since.said_from since.made);
    };
  }

module _ {G W : Type 0} where
  pub say_elapses : {T E : Type 0} (conn : ℕ) (bytes : List ℕ) (memory : Memory) (p q : Play G W) (result : Result T E) → AfterSaid conn bytes (length memory.calls) p result q
      → Elapses (length memory.calls + length p.said) (length memory.calls + length q.said) (StopsSince memory p.said) (StopsSince memory q.said) (IsLeft (state_of memory)) (MayHaveSaid conn bytes (Some p.taken) (Some (pieces_of p.said)))
  say_elapses conn bytes memory p q (Ok x) after =
      subst (λ l. Elapses (length memory.calls + length p.said) (length memory.calls + length l) (StopsSince memory p.said) (StopsSince memory l) (IsLeft (state_of memory)) (MayHaveSaid conn bytes (Some p.taken) (Some (pieces_of p.said))))
      (sym (ap (λ (r : Play G W). r.said) after.1)) (spoke_elapses conn bytes bytes [] (sym (append-nil bytes)) memory p)
  say_elapses conn bytes memory p q (Err e) (inl cut) =
      subst (λ l. Elapses (length memory.calls + length p.said) (length memory.calls + length l) (StopsSince memory p.said) (StopsSince memory l) (IsLeft (state_of memory)) (MayHaveSaid conn bytes (Some p.taken) (Some (pieces_of p.said))))
      (sym (ap (λ (r : Play G W). r.said) cut.1)) (spoke_elapses conn bytes (half bytes) (drop (length bytes / 2) bytes) (sym (take-append-drop (length bytes / 2) bytes)) memory p)
  say_elapses conn bytes memory p q (Err e) (inr lack) = stands memory p.said q.said _ (ap (λ (r : Play G W). r.said) lack)

  -- what was said is told
  pub say_told : {T E : Type 0} (conn : ℕ) (bytes : List ℕ) (number : ℕ) (p q : Play G W) (result : Result T E) → AfterSaid conn bytes number p result q → AfterSay conn bytes (length p.taken) result (pieces_of p.said) (Some (pieces_of q.said))
  say_told conn bytes number p q (Ok x) after = ap (λ (r : Play G W). Some (pieces_of r.said)) after.1 ∙ ap Some (map-append piece_of p.said ((record { conn = conn; bytes = bytes; inputs = length p.taken; calls = number }) ∷ []))
  say_told conn bytes number p q (Err e) (inl cut) = (
    pieces_of q.said,
    refl,
    record {
      part = half bytes;
      rest = drop (length bytes / 2) bytes;
      begins = sym (take-append-drop (length bytes / 2) bytes);
      told = inr (ap (λ (r : Play G W). pieces_of r.said) cut.1 ∙ map-append piece_of p.said ((record { conn = conn; bytes = half bytes; inputs = length p.taken; calls = number }) ∷ []));
    },
  )
  say_told conn bytes number p q (Err e) (inr lack) = (
    pieces_of q.said,
    refl,
    record { part = bytes; rest = []; begins = sym (append-nil bytes); told = inl (ap (λ (r : Play G W). pieces_of r.said) lack) },
  )

  -- a call of the store of a host
  pub host_takes : {T E : Type 0} (call : Call) (inside host : Hosted G W) (after : Memory) (result : Result T E) → inside ≡ host → Takes call inside.store after result → Takes call host.store after result
  host_takes call inside host after result is takes = subst (λ (h : Hosted G W). Takes call h.store after result) is takes

  pub host_elapses : {T E : Type 0} (call : Call) (inside host : Hosted G W) (after : Memory) (result : Result T E) → inside ≡ host → Takes call inside.store after result → SaidBy (length inside.store.calls) inside.play.said
      → Elapses (length host.store.calls + length host.play.said) (length after.calls + length inside.play.said) (StopsSince host.store host.play.said) (StopsSince after inside.play.said) (IsLeft (state_of after)) (IsSaid (Some (pieces_of host.play.said)))
  host_elapses call inside host after result is takes by =
      subst (λ (h : Hosted G W). Elapses (length h.store.calls + length h.play.said) (length after.calls + length inside.play.said) (StopsSince h.store h.play.said) (StopsSince after inside.play.said) (IsLeft (state_of after)) (IsSaid (Some (pieces_of h.play.said))))
      is (call_elapses call inside.store after inside.play.said result takes by)

  -- a call of a host that says the bytes
  pub host_says : {T E : Type 0} (conn : ℕ) (bytes : List ℕ) (inside host : Hosted G W) (number : ℕ) (made : List Call) (q : Play G W) (result : Result T E) → inside ≡ host → made ≡ inside.store.calls → number ≡ length made → AfterSaid conn bytes number inside.play result q
      → Elapses (length host.store.calls + length host.play.said) (length inside.store.calls + length q.said) (StopsSince host.store host.play.said) (StopsSince inside.store q.said) (IsLeft (state_of inside.store)) (MayHaveSaid conn bytes (Some host.play.taken) (Some (pieces_of host.play.said)))
  host_says conn bytes inside host number made q result is are counted after =
      subst (λ (h : Hosted G W). Elapses (length h.store.calls + length h.play.said) (length inside.store.calls + length q.said) (StopsSince h.store h.play.said) (StopsSince inside.store q.said) (IsLeft (state_of inside.store)) (MayHaveSaid conn bytes (Some h.play.taken) (Some (pieces_of h.play.said))))
      is (say_elapses conn bytes inside.store inside.play q result
      (subst (λ n. AfterSaid conn bytes n inside.play result q) (counted ∙ ap (λ (l : List Call). length l) are) after))

  -- what it said is told
  pub host_told : {T E : Type 0} (conn : ℕ) (bytes : List ℕ) (inside host : Hosted G W) (number : ℕ) (q : Play G W) (result : Result T E) → inside ≡ host → AfterSaid conn bytes number inside.play result q
      → (inputs : List (Input W)) → Some host.play.taken ≡ Some inputs → (before : List Piece) → Some (pieces_of host.play.said) ≡ Some before → AfterSay conn bytes (length inputs) result before (Some (pieces_of q.said))
  host_told conn bytes inside host number q result is after inputs taken before said =
      let all : inside.play.taken ≡ inputs = cc in
      let told : pieces_of inside.play.said ≡ before = cc in
      subst (λ (l : List (Input W)). AfterSay conn bytes (length l) result before (Some (pieces_of q.said))) all
      (subst (λ (l : List Piece). AfterSay conn bytes (length inside.play.taken) result l (Some (pieces_of q.said))) told (say_told conn bytes number inside.play q result after))

  -- a call of `say` whose number is listed
  pub say_cut : (conn : ℕ) (bytes : List ℕ) (number : ℕ) (p mid q : Play G W) → mid ≡ say_counted p → is_among p.says p.failing_say ≡ true → (q ≡ failed (piece_said conn (half bytes) number mid)) ⊎ (q ≡ lacked mid)
      → ((is_among p.says p.failing_say ≡ true) × (q ≡ failed (piece_said conn (half bytes) number (say_counted p)))) ⊎ (q ≡ lacked (say_counted p))
  say_cut conn bytes number p mid q is listed (inl cut) = inl (listed, cut ∙ ap (λ (r : Play G W). failed (piece_said conn (half bytes) number r)) is)
  say_cut conn bytes number p mid q is listed (inr lack) = inr (lack ∙ ap lacked is)
