-- What an answer leaves of a strand and of those below it.
use Rattle.std.proofs.Common.{MutBor, ◌≡◌, ◌∙◌, refl, sym, ap, subst, ℕ, zero, suc, ◌+◌, ◌-◌, ◌<◌, Bool, true, false, List, [], ◌∷◌, length, Option, Some, None}
use Rattle.std.proofs.lemmas.Option.{same_Some}
use Rattle.std.specs.Option.{option_copied_mut, option_or}
use Rattle.std.specs.Prelude.{◌||◌, ◌==◌, is_some, option_and_then, option_map, slice_set, if◌then◌else◌}
use Rattle.swf_calls.specs.declared.reply.CallReply.{CallReply}
use Rattle.swf_frames.specs.Tree.{Tree, Strands, no_strands, strand, Branch, find, changed, top, top_frame, with_top}
use Rattle.swf_frames.specs.Paths.{Found, nth, edit_nth, has, AreDistinct}
use Rattle.swf_frames.proofs.PathLemmas.{edit-child, edit-same, changed-edit}
use Rattle.swf_meaning.specs.Reply.{is_open}
use Rattle.swf_stack.specs.Stands.{top_of}
use Rattle.swf_stack.specs.declared.made.Stand.{Stand}
use Rattle.swf_stack.specs.declared.made.Top.{Top}
use Rattle.swf_strands.specs.Strands.{strand_node, nodes_of, node_of, IsGrown, IsHeld}
use Rattle.swf_strands.proofs.AskLemmas.{below_held, fewer}
use Rattle.swf_strands.proofs.StrandLemmas.{held-some}
use Rattle.swf_strands.proofs.TreeLemmas.{nothing, held-is, IsChild}
use Rattle.swf_offers.specs.Answers.{is_open_in_top, answered_stand, answered_stands, answered_strands, answered_here, answered_held, answered_top, IsAnswerHere, IsAnswerIn}
use Rattle.swf_offers.proofs.OpenLemmas.{AreClosed, IsClosedTo, IsOwn, closed-first, closed-more, closed-all, open-node, open-here, open-child}

-- ---- other frames leave all numbers

some-or : {T : Type 0} (o p : Option T) → is_some (option_or o p) ≡ (is_some o || is_some p)
some-or None p = refl
some-or (Some x) p = refl

has-changed : (f : List Stand → List Stand) (ss : Strands Stand) (n k : ℕ) → has (changed f ss n) k ≡ has ss k
has-changed f no_strands n k = refl
has-changed f (strand m ls below after) n k = by (m == k) (has-changed f below n k) (has-changed f after n k)
  where
    by : (x : Bool) → has (changed f below n) k ≡ has below k → has (changed f after n) k ≡ has after k →
        is_some (if x then Some (record { frames = if m == n then f ls else ls; below = changed f below n }) else option_or (find (changed f below n) k) (find (changed f after n) k))
        ≡ is_some (if x then Some (record { frames = ls; below = below }) else option_or (find below k) (find after k))
    by true one two = refl
    by false one two =
        some-or (find (changed f below n) k) (find (changed f after n) k)
        ∙ (λ i. one i || two i) ∙ sym (some-or (find below k) (find after k))

distinct-changed : (f : List Stand → List Stand) (ss : Strands Stand) (n : ℕ) → AreDistinct ss → AreDistinct (changed f ss n)
distinct-changed f no_strands n d = tt
distinct-changed f (strand m ls below after) n d = (
  has-changed f below n m ∙ d.0,
  has-changed f after n m ∙ d.1,
  (λ k h. has-changed f after n k ∙ d.2 k (sym (has-changed f below n k) ∙ h)),
  distinct-changed f below n d.3,
  distinct-changed f after n d.4,
)

-- ---- to a strand alone

abbrev pub IsHere : List ℕ → CallReply → ℕ → Tree Stand → Tree Stand → Option CallReply → Type 0
IsHere a p n old new o = (b : Branch Stand) → find old.strands n ≡ Some b → IsAnswerHere a p n b old new o

pub here-none : (a : List ℕ) (p : CallReply) (t : Tree Stand) (n : ℕ) (x : Bool) → IsOwn a t n x → x ≡ false → IsHere a p n t t (Some p)
here-none a p t n x is isnt b f = (sym (is b f) ∙ isnt, (refl, refl))

here-put : (a : List ℕ) (p : CallReply) (t new : Tree Stand) (n : ℕ) (h : Stand) (x : Bool) → IsHeld t n → ((b : Branch Stand) → find t.strands n ≡ Some b → b.frames ≡ h ∷ []) → IsOwn a t n x → x ≡ true → new ≡ with_top t n (answered_stand p h) → IsHere a p n t new None
here-put a p t new n h x held on is so e b f =
    let s = answered_stand p h in
    let put : List Stand → List Stand = λ fs. slice_set fs (length fs - 1) s in
    let strands : new.strands ≡ changed put t.strands n = ap (λ (y : Tree Stand). y.strands) e in
    let frames : put b.frames ≡ answered_stands p b.frames = ap put (on b f) ∙ sym (ap (answered_stands p) (on b f)) in (
      sym (is b f) ∙ so,
      (
        strands ∙ changed-edit put t.strands n held.0 ∙ edit-same (λ (y : Branch Stand). record y { frames = put y.frames }) (answered_here p) t.strands n b held.0 f (λ i. record { frames = frames i; below = b.below }),
        subst AreDistinct (sym strands) (distinct-changed put t.strands n held.0),
      ),
    )

-- what is lent to be written stands at the top
lent-top : (t : Tree Stand) (n : ℕ) (b : Branch Stand) (h : Stand) → find t.strands n ≡ Some b → b.frames ≡ h ∷ [] → top t n ≡ Some h
lent-top t n b h f on = ap (λ o. option_and_then top_frame (option_map (λ (x : Branch Stand). x.frames) o)) f ∙ ap top_frame on

pub here-lent : (a : List ℕ) (p : CallReply) (t new : Tree Stand) (n : ℕ) (h : Stand) (x : Bool) → IsHeld t n → ((b : Branch Stand) → find t.strands n ≡ Some b → b.frames ≡ h ∷ []) → IsOwn a t n x → x ≡ true →
    (o : Option (MutBor Stand)) (m : MutBor Stand) (y : Top) → option_copied_mut o ≡ top t n → o ≡ Some m → y ≡ answered_top p m.now.top → new ≡ with_top t n (record m.now { top = y }) → IsHere a p n t new None
here-lent a p t new n h x held on own so o m y lent some is e b f =
    let same : m.now ≡ h = same_Some m.now h (sym (ap option_copied_mut some) ∙ lent ∙ lent-top t n b h f (on b f)) in
    here-put a p t new n h x held on own so (e ∙ ap (λ (z : Top). with_top t n (record m.now { top = z })) is ∙ ap (λ (k : Stand). with_top t n (answered_stand p k)) same) b f

-- a strand always holds something
pub lent-none : (t : Tree Stand) (n : ℕ) (o : Option (MutBor Stand)) → IsHeld t n → option_copied_mut o ≡ top t n → o ≡ None → ⊥
lent-none t n o held lent none =
    let s = held-some t n held in
    nothing s.0 (sym (ap option_copied_mut none) ∙ lent ∙ s.1)

-- ---- to those below it, one after another

or_none : (x y : Bool) → (x || y) ≡ false → x ≡ false
or_none true y e = e
or_none false y e = refl

-- whether the strand itself takes it; and whether a branch does, or one behind it
abbrev held-by : List ℕ → CallReply → Branch Stand → Bool → Branch Stand
held-by a p b x = if x then answered_here p b else record b { below = answered_strands a p b.below }

abbrev within-by : List ℕ → CallReply → ℕ → List Stand → Strands Stand → Strands Stand → Bool → Strands Stand
within-by a p m ls below after x = if x then strand m ls (answered_strands a p below) after else strand m ls below (answered_strands a p after)

abbrev first-by : ℕ → Strands Stand → Branch Stand → Strands Stand
first-by m after b = strand m b.frames b.below after

-- the first branch in which the call is open gets the answer
put-nth : (a : List ℕ) (p : CallReply) (i : ℕ) (ss : Strands Stand) (c : Found Stand) → IsGrown ss → AreClosed a i ss → nth ss i ≡ Some c → is_open a (node_of c.held) ≡ true → edit_nth (answered_held a p) ss i ≡ answered_strands a p ss
put-nth a p i no_strands c g k e so = absurd (nothing c e)
put-nth a p zero (strand m ls below after) c g k e so = by (is_open_in_top a (top_of ls)) (ap (λ (d : Found Stand). is_open a (node_of d.held)) (same_Some _ c e) ∙ so)
  where
    by : (x : Bool) → is_open a (strand_node ls (nodes_of below)) ≡ true →
        first-by m after (held-by a p (record { frames = ls; below = below }) x) ≡ (if x then strand m (answered_stands p ls) below after else within-by a p m ls below after (is_open a (strand_node ls (nodes_of below))))
    by true here = refl
    by false here = sym (ap (within-by a p m ls below after) here)
put-nth a p (suc i) (strand m ls below after) c g k e so =
    let own : is_open_in_top a (top_of ls) ≡ false = or_none _ _ (sym (open-node a (record { frames = ls; below = below }) (g.0, g.1)) ∙ k.0) in
    ap (strand m ls below) (put-nth a p i after c g.2 k.1 e so)
    ∙ sym (ap (λ x. if x then strand m (answered_stands p ls) below after else within-by a p m ls below after (is_open a (strand_node ls (nodes_of below)))) own ∙ ap (within-by a p m ls below after) k.0)

abbrev pub IsIn : List ℕ → CallReply → ℕ → Tree Stand → Tree Stand → Option CallReply → Type 0
IsIn a p n old new o = (b : Branch Stand) → find old.strands n ≡ Some b → IsAnswerIn a p n b old new o

pub in-here : (a : List ℕ) (p : CallReply) (n : ℕ) (old new : Tree Stand) → IsHeld old n → IsHere a p n old new None → IsIn a p n old new None
in-here a p n old new held here b f =
    let h = here b f in (
      sym (open-here a old n true held (λ b f. sym (here b f).0) refl b f),
      (h.1.0 ∙ edit-same (answered_here p) (answered_held a p) old.strands n b held.0 f (sym (ap (held-by a p b) h.0)), h.1.1),
    )

-- neither the strand nor the first of its branches took it
pub record IsUnanswered (a : List ℕ) (p : CallReply) (n : ℕ) (old : Tree Stand) (i : ℕ) (new : Tree Stand) (q : CallReply) : Type 0 where
  pub reply : q ≡ p
  pub forest : new ≡ old
  pub closed : IsClosedTo a old n i

pub un-first : (a : List ℕ) (p : CallReply) (n : ℕ) (old new : Tree Stand) (q : CallReply) → IsHeld old n → IsHere a p n old new (Some q) → IsUnanswered a p n old 0 new q
un-first a p n old new q held here =
    let h = here held.1.0 held.1.1.0 in
    record { reply = h.1.0; forest = h.1.1; closed = closed-first a old n false (λ b f. sym (here b f).0) refl }

pub un-held : (a : List ℕ) (p : CallReply) (n : ℕ) (old : Tree Stand) (i : ℕ) (new : Tree Stand) (q : CallReply) → IsHeld old n → IsUnanswered a p n old i new q → IsHeld new n
un-held a p n old i new q held u = subst (λ (t : Tree Stand). IsHeld t n) (sym u.forest) held

un-child : (a : List ℕ) (p : CallReply) (n : ℕ) (old : Tree Stand) (i : ℕ) (new : Tree Stand) (q : CallReply) (c : ℕ) → IsUnanswered a p n old i new q → IsChild new n i c → IsChild old n i c
un-child a p n old i new q c u child = subst (λ (t : Tree Stand). IsChild t n i c) u.forest child

pub un-fewer : (a : List ℕ) (p : CallReply) (n : ℕ) (old : Tree Stand) (i : ℕ) (new : Tree Stand) (q : CallReply) (c : ℕ) → IsHeld old n → IsUnanswered a p n old i new q → IsChild new n i c → below_held new c < below_held old n
un-fewer a p n old i new q c held u child =
    subst (λ (t : Tree Stand). below_held t c < below_held old n) (sym u.forest) (fewer old n i c held (un-child a p n old i new q c u child))

pub un-more : (a : List ℕ) (p : CallReply) (n : ℕ) (old : Tree Stand) (i : ℕ) (new more : Tree Stand) (q r : CallReply) (c : ℕ) → IsHeld old n → IsUnanswered a p n old i new q → IsChild new n i c → IsIn a q c new more (Some r) → IsUnanswered a p n old (i + 1) more r
un-more a p n old i new more q r c held u child is =
    let there = un-child a p n old i new q c u child in
    let of : IsIn a q c old more (Some r) = subst (λ (t : Tree Stand). IsIn a q c t more (Some r)) u.forest is in
    let h = there held.1.0 held.1.1.0 in
    let k = of h.0 h.1.1.0 in
    record { reply = k.1.0 ∙ u.reply; forest = k.1.1; closed = closed-more a old n i c false there u.closed (λ b f. sym (of b f).0) refl }

pub un-answered : (a : List ℕ) (p : CallReply) (n : ℕ) (old : Tree Stand) (i : ℕ) (new more : Tree Stand) (q : CallReply) (c : ℕ) → IsHeld old n → IsUnanswered a p n old i new q → IsChild new n i c → IsIn a q c new more None → IsIn a p n old more None
un-answered a p n old i new more q c held u child is b f =
    let there = un-child a p n old i new q c u child in
    let of : IsIn a p c old more None = subst (λ (t : Tree Stand). IsIn a p c t more None) u.forest (subst (λ (y : CallReply). IsIn a y c new more None) u.reply is) in
    let h = there b f in
    let k = of h.0 h.1.1.0 in
    let own = u.closed b f in
    let d : Found Stand = record { number = c; held = h.0 } in
    let below : edit_nth (answered_held a p) b.below i ≡ answered_strands a p b.below = put-nth a p i b.below d (held-is old n b held f).1 own.1 h.1.0 k.0 in (
      sym (open-child a old n i c true held there (λ b f. sym (of b f).0) refl b f),
      (
        k.1.0 ∙ edit-child (answered_held a p) old.strands n i b d held.0 f h.1.0
            ∙ edit-same (λ (y : Branch Stand). record y { below = edit_nth (answered_held a p) y.below i }) (answered_held a p) old.strands n b held.0 f ((λ j. record { frames = b.frames; below = below j }) ∙ sym (ap (held-by a p b) own.0)),
        k.1.1,
      ),
    )

pub un-all : (a : List ℕ) (p : CallReply) (n : ℕ) (old : Tree Stand) (i : ℕ) (new : Tree Stand) (q : CallReply) → IsHeld old n → IsUnanswered a p n old i new q → ((b : Branch Stand) → find new.strands n ≡ Some b → nth b.below i ≡ None) → IsIn a p n old new (Some q)
un-all a p n old i new q held u none b f =
    let end = subst (λ (t : Tree Stand). (b : Branch Stand) → find t.strands n ≡ Some b → nth b.below i ≡ None) u.forest none in
    (sym (closed-all a old n i held u.closed end b f), (u.reply, u.forest))
