-- The way to a strand that can take a step.
use Rattle.std.proofs.Common.{◌≡◌, ◌∙◌, refl, sym, ap, subst, ℕ, zero, suc, ◌+◌, ◌<◌, ◌≤◌, ◌⊎◌, inl, inr, ⊎_elim, Bool, true, false, List, [], ◌∷◌, ◌++◌, Some, None, Ok, Err, append_assoc, append-nil, arith}
use Rattle.std.proofs.lemmas.Bool.{cases_order}
use Rattle.std.proofs.lemmas.Option.{same_Some}
use Rattle.std.specs.Prelude.{◌||◌, Result, IfOk}
use Rattle.swf_frames.specs.Tree.{Tree, Strands, no_strands, strand, Branch, find}
use Rattle.swf_frames.specs.Paths.{Found, nth}
use Rattle.swf_meaning.specs.Local.{is_enabled}
use Rattle.swf_meaning.specs.Node.{Node}
use Rattle.swf_meaning.specs.Strands.{can_go, can_top}
use Rattle.swf_meaning.specs.Top.{top_is}
use Rattle.swf_meaning.proofs.TopsLemmas.{enabled_among, enabled_among-branch}
use Rattle.swf_stack.specs.declared.made.Stand.{Stand}
use Rattle.swf_strands.specs.Order.{Leads, LeadsOn, LeadsIn, LeadsFrom, IsStuckFrom}
use Rattle.swf_strands.specs.Strands.{strand_node, nodes_of, node_of, IsGrownAt, IsHeld}
use Rattle.swf_strands.proofs.AskLemmas.{enabled-node}
use Rattle.swf_strands.proofs.TopLemmas.{top-child}
use Rattle.swf_strands.proofs.TreeLemmas.{nothing, held-is, IsChild}

pub can_go-child : (now i : ℕ) (is : List ℕ) (b : Branch Stand) (c : Found Stand) → IsGrownAt b → nth b.below i ≡ Some c → can_go now (i ∷ is) (node_of b) ≡ can_go now is (node_of c.held)
can_go-child now i is b c g e = ap (top_is (can_top now)) (top-child b i is c g e)

-- ---- what was found

abbrev pub IsLed : ℕ → Tree Stand → ℕ → List ℕ → List ℕ → Type 0
IsLed now t n old new = (b : Branch Stand) → find t.strands n ≡ Some b → Leads now (node_of b) old new

pub led-here : (now : ℕ) (t : Tree Stand) (n : ℕ) (path : List ℕ) (here : Bool) → ((b : Branch Stand) → find t.strands n ≡ Some b → here ≡ can_go now [] (node_of b)) → here ≡ true → IsLed now t n path path
led-here now t n path here is so b f = ([], (sym (append-nil path), sym (is b f) ∙ so))

-- below a child
pub led-child : (now : ℕ) (t : Tree Stand) (n i c : ℕ) (old new : List ℕ) → IsHeld t n → IsChild t n i c → IsLed now t c (old ++ i ∷ []) new → IsLed now t n old new
led-child now t n i c old new held child led b f =
    let h = child b f in
    let l = led h.0 h.1.1.0 in (
      i ∷ l.0,
      (
        l.1.0 ∙ append_assoc old (i ∷ []) l.0,
        can_go-child now i l.0 b (record { number = c; held = h.0 }) (held-is t n b held f) h.1.0 ∙ l.1.1,
      ),
    )

-- the way to the child stands behind the numbers
pub led-inner : (now : ℕ) (t : Tree Stand) (n i c : ℕ) (old inner new : List ℕ) → IsHeld t n → IsChild t n i c → inner ≡ old ++ i ∷ [] → IsLed now t c inner new → IsLed now t n old new
led-inner now t n i c old inner new held child way led = led-child now t n i c old new held child (subst (λ p. IsLed now t c p new) way led)

-- ---- behind another

abbrev pub IsLedOn : ℕ → Tree Stand → ℕ → List ℕ → List ℕ → Bool → Type 0
IsLedOn now t n old new there = (b : Branch Stand) → find t.strands n ≡ Some b → LeadsOn now (node_of b) old new there

pub led_on-yes : (now : ℕ) (t : Tree Stand) (c : ℕ) (old new : List ℕ) (there : Bool) → there ≡ true → IsLedOn now t c old new there → IsLed now t c old new
led_on-yes now t c old new there so is h f = subst (λ x. LeadsOn now (node_of h) old new x) so (is h f)

pub led_on-no : (now : ℕ) (t : Tree Stand) (n : ℕ) (old new : List ℕ) (there : Bool) → there ≡ false → IsHeld t n → IsLedOn now t n old new there → new ≡ old
led_on-no now t n old new there isnt held is = subst (λ x. LeadsOn now (node_of held.1.0) old new x) isnt (is held.1.0 held.1.1.0)

-- ---- in all branches from a number on

-- of a strand and those below it it is known
abbrev pub IsLedIn : ℕ → Tree Stand → ℕ → List ℕ → List ℕ → Bool → Type 0
IsLedIn now t n old new there = (b : Branch Stand) → find t.strands n ≡ Some b → LeadsIn now (node_of b) old new there

abbrev pub IsLedFrom : ℕ → Tree Stand → ℕ → ℕ → List ℕ → List ℕ → Bool → Type 0
IsLedFrom now t n first old new there = (b : Branch Stand) → find t.strands n ≡ Some b → LeadsFrom now first b old new there

pub led_in-yes : (now : ℕ) (t : Tree Stand) (c : ℕ) (old new : List ℕ) (there : Bool) → there ≡ true → IsLedIn now t c old new there → IsLed now t c old new
led_in-yes now t c old new there so is h f = subst (λ x. LeadsIn now (node_of h) old new x) so (is h f)

pub led_in-no : (now : ℕ) (t : Tree Stand) (n i c : ℕ) (old new : List ℕ) (there : Bool) → there ≡ false → IsHeld t n → IsChild t n i c → IsLedIn now t c old new there → new ≡ old
led_in-no now t n i c old new there isnt held child is =
    let h = child held.1.0 held.1.1.0 in
    let none = subst (λ x. LeadsIn now (node_of h.0) old new x) isnt (is h.0 h.1.1.0) in none.0

pub led_in-none : (now : ℕ) (t : Tree Stand) (n : ℕ) (old new : List ℕ) (there : Bool) → there ≡ false → IsLedIn now t n old new there → (b : Branch Stand) → find t.strands n ≡ Some b → is_enabled now (node_of b) ≡ false
led_in-none now t n old new there isnt is b f = let none = subst (λ x. LeadsIn now (node_of b) old new x) isnt (is b f) in none.1

-- no strand can take a step in the branches from one number to another
abbrev pub IsStuckTo : ℕ → Tree Stand → ℕ → ℕ → ℕ → Type 0
IsStuckTo now t n first k = (b : Branch Stand) → find t.strands n ≡ Some b → (i : ℕ) (c : Found Stand) → first ≤ i → i < k → nth b.below i ≡ Some c → is_enabled now (node_of c.held) ≡ false

pub stuck-first : (now : ℕ) (t : Tree Stand) (n first : ℕ) → IsStuckTo now t n first first
stuck-first now t n first b f i c from to e = absurd (omega (arith, from, to))

pub stuck-more : (now : ℕ) (t : Tree Stand) (n first k c : ℕ) (old new : List ℕ) (there : Bool) → IsChild t n k c → IsStuckTo now t n first k → there ≡ false → IsLedIn now t c old new there → IsStuckTo now t n first (k + 1)
stuck-more now t n first k c old new there child stuck isnt is b f i d from to e = ⊎_elim here (λ away. ⊎_elim (λ before. stuck b f i d from before e) (λ past. absurd (omega (arith, past, to))) away) (cases_order i k)
  where
    here : i ≡ k → is_enabled now (node_of d.held) ≡ false
    here same =
        let h = child b f in
        let none = subst (λ x. LeadsIn now (node_of h.0) old new x) isnt (is h.0 h.1.1.0) in
        let one : record { number = c; held = h.0 } ≡ d = same_Some _ d (sym h.1.0 ∙ ap (nth b.below) (sym same) ∙ e) in
        sym (ap (λ (x : Found Stand). is_enabled now (node_of x.held)) one) ∙ none.1

-- behind the last is none
nth-past : (ss : Strands Stand) (k i : ℕ) → k ≤ i → nth ss k ≡ None → nth ss i ≡ None
nth-past no_strands k i past e = refl
nth-past (strand m ls below after) zero i past e = absurd (nothing _ (sym e))
nth-past (strand m ls below after) (suc k) zero past e = absurd (omega (arith, past))
nth-past (strand m ls below after) (suc k) (suc i) past e = nth-past after k i (omega (arith, past)) e

pub led_from-none : (now : ℕ) (t : Tree Stand) (n first k : ℕ) (old new : List ℕ) → IsStuckTo now t n first k → ((b : Branch Stand) → find t.strands n ≡ Some b → nth b.below k ≡ None) → new ≡ old → IsLedFrom now t n first old new false
led_from-none now t n first k old new stuck none same b f = (same, all)
  where
    past : (i : ℕ) (c : Found Stand) → k ≤ i → nth b.below i ≡ Some c → is_enabled now (node_of c.held) ≡ false
    past i c le e = absurd (nothing c (sym (nth-past b.below k i le (none b f)) ∙ e))

    all : IsStuckFrom now first b
    all i c from e = ⊎_elim (λ is. past i c (omega (arith, is)) e) (λ away. ⊎_elim (λ before. stuck b f i c from before e) (λ le. past i c (omega (arith, le)) e) away) (cases_order i k)

among-stuck : (now : ℕ) (ss : Strands Stand) → ((i : ℕ) (c : Found Stand) → nth ss i ≡ Some c → is_enabled now (node_of c.held) ≡ false) → enabled_among now (nodes_of ss) ≡ false
among-stuck now no_strands stuck = refl
among-stuck now (strand m ls below after) stuck =
    enabled_among-branch now (strand_node ls (nodes_of below)) (nodes_of after)
    ∙ ap (λ x. x || enabled_among now (nodes_of after)) (stuck zero _ refl)
    ∙ among-stuck now after (λ i c e. stuck (suc i) c e)

-- a strand that can take no step, and none of whose branches can
node-stuck : (now : ℕ) (b : Branch Stand) → IsGrownAt b → can_go now [] (node_of b) ≡ false → IsStuckFrom now 0 b → is_enabled now (node_of b) ≡ false
node-stuck now b g own stuck =
    enabled-node now b g ∙ ap (λ x. x || enabled_among now (nodes_of b.below)) own ∙ among-stuck now b.below (λ i c e. stuck i c (omega arith) e)

from-found : (now : ℕ) (b : Branch Stand) (old new : List ℕ) (there : Bool) → IsGrownAt b → can_go now [] (node_of b) ≡ false → LeadsFrom now 0 b old new there → LeadsIn now (node_of b) old new there
from-found now b old new true g own led = led
from-found now b old new false g own led = (led.0, node-stuck now b g own led.1)

-- where the strand itself cannot, its branches say
pub from-in : {E : Type 0} (now : ℕ) (t : Tree Stand) (n : ℕ) (here : Bool) (old new : List ℕ) (r : Result Bool E) → IsHeld t n → ((b : Branch Stand) → find t.strands n ≡ Some b → here ≡ can_go now [] (node_of b)) → here ≡ false →
    IfOk r (IsLedFrom now t n 0 old new) → IfOk r (IsLedIn now t n old new)
from-in now t n here old new (Ok x) held is isnt led = λ b f. from-found now b old new x (held-is t n b held f) (sym (is b f) ∙ isnt) (led b f)
from-in now t n here old new (Err x) held is isnt led = tt

from-part : (now first : ℕ) (b : Branch Stand) (old inner new : List ℕ) (there : Bool) → inner ≡ old → LeadsFrom now first b inner new there → LeadsOn now (node_of b) old new there
from-part now first b old inner new true same led = subst (λ p. Leads now (node_of b) p new) same led
from-part now first b old inner new false same led = led.0 ∙ same

pub from-on : {E : Type 0} (now : ℕ) (t : Tree Stand) (n first : ℕ) (old inner new : List ℕ) (r : Result Bool E) → inner ≡ old → IfOk r (IsLedFrom now t n first inner new) → IfOk r (IsLedOn now t n old new)
from-on now t n first old inner new (Ok x) same led = λ b f. from-part now first b old inner new x same (led b f)
from-on now t n first old inner new (Err x) same led = tt

-- ---- for who asks which is next

-- where no numbers stood before, the way is what was found
pub led-first : (now : ℕ) (n : Node) (path new bs : List ℕ) → path ≡ [] → bs ≡ new → Leads now n path new → can_go now bs n ≡ true
led-first now n path new bs e same l = subst (λ xs. can_go now xs n ≡ true) (sym (same ∙ l.1.0 ∙ ap (λ p. p ++ l.0) e)) l.1.1
