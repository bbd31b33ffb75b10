-- What a strand holds.
use Rattle.std.proofs.Common.{Bor, ◌≡◌, ◌∙◌, refl, sym, ap, subst, ℕ, suc, ◌+◌, ◌<◌, true, Bool, false, not, List, [], ◌∷◌, ◌++◌, length, Option, Some, None, Ok, Err, arith, length-append}
use Rattle.std.proofs.Math.Dec.{eqb-suc-zero}
use Rattle.std.proofs.lemmas.Option.{same_Some}
use Rattle.std.specs.Option.{option_copied, IsSome}
use Rattle.std.specs.Prelude.{Result, IfOk, ◌==◌, option_and_then, option_map}
use Rattle.swf_value.specs.Value.{Value}
use Rattle.swf_document.specs.declared.common.Flow.{Flow}
use Rattle.swf_document.specs.declared.error.Problem.{Problem}
use Rattle.swf_chain.specs.Ends.{is_empty}
use Rattle.swf_frames.specs.Tree.{Tree, Branch, find, frames, top, top_frame}
use Rattle.swf_meaning.specs.Node.{Running}
use Rattle.swf_meaning.specs.Strands.{can_go}
use Rattle.swf_stack.specs.Stands.{frames_of, inward}
use Rattle.swf_stack.specs.Stack.{plug, top_node}
use Rattle.swf_stack.specs.declared.made.Frame.{Frame}
use Rattle.swf_stack.specs.declared.made.Made.{Made}
use Rattle.swf_stack.specs.declared.made.Stand.{Stand}
use Rattle.swf_stack.specs.declared.made.Top.{Top}
use Rattle.swf_stack.specs.declared.made.Top.TheVariants as tops
use Rattle.swf_strands.specs.Strands.{IsOne, IsHeld, IsGrownAt}

-- the one stand of a strand is the frame at its top
one-top : (b : Branch Stand) (s : Stand) → IsOne b.frames → top_frame b.frames ≡ Some s → b.frames ≡ s ∷ []
one-top b s one e =
    let same : Some one.0 ≡ Some s = sym (ap top_frame one.1) ∙ e in
    one.1 ∙ ap (λ x. x ∷ []) (same_Some one.0 s same)

-- the strand of a number holds what stands at its top
pub held-top : (t : Tree Stand) (n : ℕ) (s : Stand) → IsHeld t n → Some s ≡ top t n → (b : Branch Stand) → find t.strands n ≡ Some b → b.frames ≡ s ∷ []
held-top t n s held e b f =
    let g : IsGrownAt b = subst IsGrownAt (same_Some held.1.0 b (sym held.1.1.0 ∙ f)) held.1.1.1 in
    one-top b s g.0.0 (sym (e ∙ ap (λ o. option_and_then top_frame (option_map (λ (x : Branch Stand). x.frames) o)) f))

-- and so something
pub held-some : (t : Tree Stand) (n : ℕ) → IsHeld t n → (s : Stand) × (top t n ≡ Some s)
held-some t n held =
    let one = held.1.1.1.0.0 in
    (one.0, ap (λ o. option_and_then top_frame (option_map (λ (x : Branch Stand). x.frames) o)) held.1.1.0 ∙ ap top_frame one.1)

-- what is lent is there where its copy is
pub copied-some : (o : Option (Bor Stand)) (s : Stand) → option_copied o ≡ Some s → IsSome o
copied-some None s e = cc
copied-some (Some x) s e = refl

-- as many, from the outside or from the inside
pub length-inward : (fs : List Frame) → length (inward fs) ≡ length fs
length-inward [] = refl
length-inward (f ∷ fs) = let a = length-append (inward fs) (f ∷ []) in let b = length-inward fs in omega (arith, a, b)

pub empty-inward : (fs : List Frame) → is_empty fs ≡ (length (inward fs) == 0)
empty-inward [] = refl
empty-inward (f ∷ fs) = sym (ap (λ n. n == 0) (length-inward (f ∷ fs)) ∙ eqb-suc-zero (length fs))

-- where what ended can take a step, a task runs around it
pub some-done : (now : ℕ) (h : Stand) (w : Value) (d : Flow) → h.top ≡ tops.Done w d → can_go now [] (plug (inward h.around) (top_node h.top)) ≡ true → h.around ≡ [] → ⊥
some-done now h w d e p none =
    let no : can_go now [] (top_node (tops.Done w d)) ≡ true = sym (λ i. can_go now [] (plug (inward (none i)) (top_node (e i)))) ∙ p in
    cc

pub some-failed : (now : ℕ) (h : Stand) (q : Problem) → h.top ≡ tops.Fault q → can_go now [] (plug (inward h.around) (top_node h.top)) ≡ true → h.around ≡ [] → ⊥
some-failed now h q e p none =
    let no : can_go now [] (top_node (tops.Fault q)) ≡ true = sym (λ i. can_go now [] (plug (inward (none i)) (top_node (e i)))) ∙ p in
    cc

-- a `fork` that runs takes no step itself
pub no-fork : (now : ℕ) (fs : List Frame) (r : Running) → can_go now [] (plug fs (top_node (tops.Forked r))) ≡ true → ⊥
no-fork now [] r p = cc
no-fork now (f ∷ []) r p = cc
no-fork now (f ∷ g ∷ fs) r p = no-fork now (g ∷ fs) r p
