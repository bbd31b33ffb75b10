-- Iterations of a `for`, and the variables of a round.
use Rattle.std.proofs.Common.{◌≡◌, ◌∙◌, ◌<◌, ◌≤◌, ◌^◌, pos, List, [], ◌∷◌, ◌++◌, length, get_or, refl, ap, sym, subst, append_assoc}
use Rattle.std.proofs.Math.Bridge.{le_prop}
use Rattle.std.proofs.lemmas.Option.{slice_get_past, slice_get_read}
use Rattle.swf_value.specs.Value.{Value, int}
use Rattle.swf_meaning.specs.Around.{iteration_variables}
use Rattle.swf_meaning.specs.Line.{variable}
use Rattle.swf_evaluation.specs.declared.vars.Variable.{Variable}
use Rattle.swf_document.specs.declared.tasks.ForSpec.{ForSpec}
use Rattle.swf_catalog.specs.TaskRef.{loop_of, loop_variables}
use Rattle.swf_catalog.specs.declared.round.Iteration.{Iteration}

-- an iteration whose items are those of another is that one
pub same-iteration : (t : Iteration) (items : List Value) (e : t.number < 2 ^ 53) → items ≡ t.items → ◌≡◌ {A = Iteration} (record { items = items; number = t.number; few = e }) t
same-iteration t items e p =
    let same : e ≡ t.few = le_prop e t.few in
    λ i. record { items = p i; number = t.number; few = same i }

-- the variables of an iteration
pub iteration_past : (s : ForSpec) (t : Iteration) → length t.items ≤ t.number → loop_variables s t ≡ []
iteration_past s t p = ap (iteration_variables (loop_of s) t.number) (slice_get_past t.items t.number p)

pub iteration_here : (s : ForSpec) (t : Iteration) (x : Value) → t.number < length t.items → x ≡ get_or t.items t.number x → loop_variables s t ≡ variable s.each x ∷ variable s.at (int (pos t.number)) ∷ []
iteration_here s t x p e = ap (iteration_variables (loop_of s) t.number) (slice_get_read t.items (length t.items) t.number x refl p e)

pub pushed_iteration : (s : ForSpec) (t : Iteration) (x : Value) (xs : List Value) (old p q : List Variable) (a b : Variable) → p ≡ old ++ a ∷ [] → q ≡ p ++ b ∷ [] → a ≡ variable s.each x → b ≡ variable s.at (int (pos t.number)) → xs ≡ t.items → t.number < length xs → x ≡ get_or xs t.number x → q ≡ old ++ loop_variables s t
pushed_iteration s t x xs old p q a b e f g h same lt is =
    f ∙ ap (λ ys. ys ++ b ∷ []) e ∙ append_assoc old (a ∷ []) (b ∷ []) ∙ (λ i. old ++ g i ∷ h i ∷ [])
    ∙ ap (λ ys. old ++ ys) (sym (iteration_here s t x (subst (λ ys. t.number < length ys) same lt) (is ∙ ap (λ ys. get_or ys t.number x) same)))
