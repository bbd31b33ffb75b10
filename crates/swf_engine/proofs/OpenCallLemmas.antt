-- What a reply leaves of the calls that are open: each of another activity, and its own activity is used.
use Rattle.std.proofs.Common.{◌≡◌, ◌∙◌, ap, sym, refl, subst, inl, inr, ⊎_elim, ℕ, zero, ◌+◌, List, [], ◌∷◌, ◌++◌, length, map, cond, if◌then◌else◌, Bool, true, false, not, ◌||◌, Option, Some, None, is_some, arith}
use Rattle.std.specs.List.{cons_option, filter}
use Rattle.std.specs.Prelude.{All, Contains, filter_map, flat_map, unwrap_or}
use Rattle.std.proofs.lemmas.List.Elements.{All-nil, All-cons, All-weaker, All-filter, All-contains, All-contains_itself, Contains-append_right, filter-append, filter_map-append}
use Rattle.std.proofs.lemmas.Option.{option_and_then_some, same_Some}
use Rattle.swf_text.specs.Same.{same}
use Rattle.swf_text.proofs.SameLemmas.{same_true}
use Rattle.swf_calls.specs.Request.{Request}
use Rattle.swf_calls.specs.declared.reply.CallReply.{CallReply}
use Rattle.swf_meaning.specs.Node.{Node, Fresh, Live, Done, Fault, Inside, At, Later, Sleep, Hear, Await, Forked, Nodes, no_nodes, branch, Running}
use Rattle.swf_meaning.specs.Pending.{open_call, open_calls}
use Rattle.swf_meaning.specs.Reply.{is_of, or_answer, with_reply, with_reply_inside, with_reply_among}
use Rattle.swf_meaning.specs.Strands.{in_branch, tops, tops_inside, tops_from}
use Rattle.swf_meaning.specs.Top.{Top, Awaits}
use Rattle.swf_meaning.specs.World.{Instance, World}
use Rattle.swf_meaning.specs.declared.key.Key.TheVariants.{Activity as OfActivity}
use Rattle.swf_meaning.specs.declared.label.Label.{Label}
use Rattle.swf_meaning.specs.declared.label.Label.TheVariants.{Load, Start, Event, Reply, Moment, Step}
use Rattle.swf_meaning.proofs.ReplyLemmas.{either_branch}
use Rattle.swf_runs.specs.After.{after, is_used, is_open, replied_one, with_answer}
use Rattle.swf_runs.specs.Runs.{run_from}
use Rattle.swf_runs.proofs.OnceLemmas.{Grown, replied_some, still_used, now_used}
use Rattle.swf_engine.specs.Settling.{Called, AreTaken, IsAwaited, calls_in, steps_in}

-- ---- filtered lists

module _ {X : Type 0} (p : X → Bool) where
  abbrev Stays : List X → X → Type 0
  Stays xs x = p x ≡ true → Contains (filter p xs) x

  stay_more : (x y : X) (xs : List X) → Stays xs y → Stays (x ∷ xs) y
  stay_more x y xs stays e = more (p x) (stays e)
    where
      more : (b : Bool) → Contains (filter p xs) y → Contains (cond b (x ∷ filter p xs) (filter p xs)) y
      more true h = Contains-append_right (x ∷ []) (filter p xs) y h
      more false h = h

  stay_each : (xs : List X) → All (Stays xs) xs
  stay_each [] = All-nil (Stays [])
  stay_each (x ∷ xs) = All-cons (Stays (x ∷ xs)) x xs
      (λ e. subst (λ b. Contains (cond b (x ∷ filter p xs) (filter p xs)) x) (sym e) (zero, omega arith, refl))
      (All-weaker (Stays xs) (Stays (x ∷ xs)) (λ y. stay_more x y xs) xs (stay_each xs))

  -- an element that passes stays
  pub stays_in : (xs : List X) (x : X) → Contains xs x → p x ≡ true → Contains (filter p xs) x
  stays_in xs x h = All-contains (Stays xs) xs x (stay_each xs) h

  -- what stays was there
  pub was_in : (xs : List X) (x : X) → Contains (filter p xs) x → Contains xs x
  was_in xs x h = All-contains (Contains xs) (filter p xs) x (All-filter p (Contains xs) xs (All-contains_itself xs)) h

-- ---- the calls of other activities

-- it is a call of another activity
abbrev is_other : List ℕ → List ℕ × Request → Bool
is_other a c = not (same a c.0)

abbrev others : List ℕ → List (List ℕ × Request) → List (List ℕ × Request)
others a cs = filter (is_other a) cs

-- the open calls of strands
abbrev calls_of : List (List ℕ × Top) → List (List ℕ × Request)
calls_of ss = filter_map (λ s. open_call s.1) ss

calls-numbered : (b : ℕ) (ss : List (List ℕ × Top)) → calls_of (map (in_branch b) ss) ≡ calls_of ss
calls-numbered b [] = refl
calls-numbered b (s ∷ ss) = ap (cons_option (open_call s.1)) (calls-numbered b ss)

-- of the first branch, and of those behind it
others-first : (a : List ℕ) (b : ℕ) (n : Node) (ns : Nodes) → others a (calls_of (tops_from b (branch n ns))) ≡ others a (calls_of (tops n)) ++ others a (calls_of (tops_from (b + 1) ns))
others-first a b n ns =
    ap (others a) (filter_map-append (λ (s : List ℕ × Top). open_call s.1) (map (in_branch b) (tops n)) (tops_from (b + 1) ns) ∙ ap (λ cs. cs ++ calls_of (tops_from (b + 1) ns)) (calls-numbered b (tops n)))
    ∙ filter-append (is_other a) (calls_of (tops n)) (calls_of (tops_from (b + 1) ns))

-- a call that is answered is one of that activity
others_here : (a : List ℕ) (p : CallReply) (r : Running) (b : List ℕ) (q : Request) (o : Option CallReply) → others a (calls_of (([], Awaits r b q (or_answer a p b o)) ∷ [])) ≡ others a (calls_of (([], Awaits r b q o) ∷ []))
others_here a p r b q (Some x) = refl
others_here a p r b q None = by (same a b) refl
  where
    by : (c : Bool) → same a b ≡ c → others a (calls_of (([], Awaits r b q (if c then Some p else None)) ∷ [])) ≡ others a ((b, q) ∷ [])
    by true e = sym (ap (λ x. cond (not x) ((b, q) ∷ []) []) e)
    by false e = refl

mutual
  others_node : (a : List ℕ) (p : CallReply) (n : Node) → others a (open_calls (with_reply a p n)) ≡ others a (open_calls n)
  others_node a p (Fresh t v) = refl
  others_node a p (Live r k) = others_inside a p r k
  others_node a p (Done w f) = refl
  others_node a p (Fault q) = refl

  others_inside : (a : List ℕ) (p : CallReply) (r : Running) (k : Inside) → others a (calls_of (tops_inside r (with_reply_inside a p k))) ≡ others a (calls_of (tops_inside r k))
  others_inside a p r (At round i (Fresh t v)) = refl
  others_inside a p r (At round i (Live q k)) = others_inside a p q k
  others_inside a p r (At round i (Done w f)) = refl
  others_inside a p r (At round i (Fault q)) = refl
  others_inside a p r (Later n until) = refl
  others_inside a p r (Sleep until) = refl
  others_inside a p r (Hear bound hs) = refl
  others_inside a p r (Await b q o) = others_here a p r b q o
  others_inside a p r (Forked ns) = others_among a p zero ns

  others_among : (a : List ℕ) (p : CallReply) (b : ℕ) (ns : Nodes) → others a (calls_of (tops_from b (with_reply_among a p ns))) ≡ others a (calls_of (tops_from b ns))
  others_among a p b no_nodes = refl
  others_among a p b (branch n ns) = either_branch (λ ms. others a (calls_of (tops_from b ms)) ≡ others a (calls_of (tops_from b (branch n ns)))) a p n ns
      (others-first a b (with_reply a p n) ns ∙ ap (λ cs. cs ++ others a (calls_of (tops_from (b + 1) ns))) (others_node a p n) ∙ sym (others-first a b n ns))
      (others-first a b n (with_reply_among a p ns) ∙ ap (λ cs. others a (calls_of (tops n)) ++ cs) (others_among a p (b + 1) ns) ∙ sym (others-first a b n ns))

others_instance : (a : List ℕ) (p : CallReply) (i : Instance) → others a (open_calls (replied_one a p i).node) ≡ others a (open_calls i.node)
others_instance a p i = by (is_of a i.id)
  where
    by : (b : Bool) → others a (open_calls (if b then record i { node = with_reply a p i.node } else i).node) ≡ others a (open_calls i.node)
    by true = others_node a p i.node
    by false = refl

abbrev calls_all : List Instance → List (List ℕ × Request)
calls_all is = flat_map (λ i. open_calls i.node) is

others_all : (a : List ℕ) (p : CallReply) (is : List Instance) → others a (calls_all (map (replied_one a p) is)) ≡ others a (calls_all is)
others_all a p [] = refl
others_all a p (i ∷ is) =
    filter-append (is_other a) (open_calls (replied_one a p i).node) (calls_all (map (replied_one a p) is))
    ∙ ap (λ cs. cs ++ others a (calls_all (map (replied_one a p) is))) (others_instance a p i)
    ∙ ap (λ cs. others a (open_calls i.node) ++ cs) (others_all a p is)
    ∙ sym (filter-append (is_other a) (open_calls i.node) (calls_all is))

-- ---- what is awaited

-- a call that is awaited is so after a reply
awaited_after : (w m : World) (a : List ℕ) (r : CallReply) (call : List ℕ × Request) → after w (Reply a r) ≡ Some m → IsAwaited w call → IsAwaited m call
awaited_after w m a r call e h =
    ⊎_elim (λ listed. by (same a call.0) refl listed) (λ used. inr (still_used (Some (OfActivity a)) w m (OfActivity call.0) grown used)) h
  where
    came : (is_used (OfActivity a) w ≡ false) × (with_answer w a r ≡ m)
    came = let s = replied_some w m a r e in (s.0, s.2)

    grown : Grown (Some (OfActivity a)) w m
    grown = (came.0, ap (λ u. u.keys) (sym came.1))

    by : (b : Bool) → same a call.0 ≡ b → Contains (calls_in w) call → IsAwaited m call
    by true is listed = inr (subst (λ x. is_used (OfActivity x) m ≡ true) (same_true a call.0 is) (now_used w m (OfActivity a) grown))
    by false is listed = inl (subst (λ v. Contains (calls_in v) call) came.1
        (was_in (is_other a) (calls_in (with_answer w a r)) call
        (subst (λ cs. Contains cs call) (sym (others_all a r w.instances)) (stays_in (is_other a) (calls_in w) call listed (ap not is)))))

-- and so after some replies
pub awaited_replies : (labels : List Label) (w m : World) (given : List Called) (call : List ℕ × Request) → AreTaken w labels given → length (steps_in labels) ≡ zero → run_from w labels ≡ Some m
    → IsAwaited w call → IsAwaited m call
awaited_replies [] w m given call t none e h = subst (λ v. IsAwaited v call) (same_Some w m e) h
awaited_replies (Reply a r ∷ ls) w m given call t none e h = option_and_then_some (λ n. run_from n ls) (after w (Reply a r)) m e
    (λ n p q. awaited_replies ls n m t.0 call (subst (λ v. AreTaken v ls t.0) (ap (λ o. unwrap_or o w) p) t.2) none q (awaited_after w n a r call p h))
awaited_replies (Step id strand ∷ ls) w m given call t none e h = absurd (omega (arith, none))
awaited_replies (Load v ∷ ls) w m given call t none e h = absurd t.1
awaited_replies (Start id key input ∷ ls) w m given call t none e h = absurd t.1
awaited_replies (Event x ∷ ls) w m given call t none e h = absurd t.1
awaited_replies (Moment moment ∷ ls) w m given call t none e h = absurd t.1

-- every call that is open is awaited
pub all_awaited : (w : World) → All (IsAwaited w) (calls_in w)
all_awaited w = All-weaker (Contains (calls_in w)) (IsAwaited w) (λ c h. inl h) (calls_in w) (All-contains_itself (calls_in w))

-- ---- what is open

-- a choice that gives a value fails its test
not_both : (b c : Bool) (v : World) → b ≡ true → is_some (if b || c then None else Some v) ≡ true → ⊥
not_both true c v e h = cc
not_both false c v e h = cc

-- an awaited call whose reply is taken is open
pub still_open : (w : World) (a : List ℕ) (q : Request) (r : CallReply) → IsAwaited w (a, q) → is_some (after w (Reply a r)) ≡ true → Contains (calls_in w) (a, q)
still_open w a q r h taken = ⊎_elim (λ listed. listed) (λ used. absurd (not_both (is_used (OfActivity a) w) (not (is_open a w)) (with_answer w a r) used taken)) h
