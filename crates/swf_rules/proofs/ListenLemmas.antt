-- What a `listen` binds before any event, and which filters it passes over.
use Rattle.std.proofs.Common.{◌≡◌, ◌∙◌, ℕ, List, [], ◌∷◌, ◌++◌, Ok, Err, refl, ap, sym, ◌<◌, ◌+◌, length, get_or, drop}
use Rattle.std.proofs.lemmas.List.{at_drop_more}
use Rattle.std.specs.Prelude.{Result}
use Rattle.std.specs.Result.{IsErrAnd}
use Rattle.swf_value.specs.Value.{Value, Members}
use Rattle.swf_evaluation.specs.declared.vars.Variable.{Variable}
use Rattle.swf_document.specs.Task.{Task}
use Rattle.swf_document.specs.declared.error.Problem.{Problem}
use Rattle.swf_document.specs.declared.event.Correlation.{Correlation}
use Rattle.swf_document.specs.declared.event.Filter.{Filter}
use Rattle.swf_meaning.specs.Listen.{expecting, bound_by, correlations}
use Rattle.swf_meaning.specs.Rule.{◌>>=◌}
use Rattle.swf_scene.proofs.HaltLemmas.{Gives-same, Gives-passed}
use Rattle.swf_scene.specs.Halts.{Gives}
use Rattle.swf_scene.specs.declared.halt.Halt.{Halt}

-- a rule behind two others
bind-bind : {A B C : Type 0} (m : Result A Problem) (f : A → Result B Problem) (g : B → Result C Problem) → ((m >>= f) >>= g) ≡ (m >>= λ x. f x >>= g)
bind-bind (Ok x) f g = refl
bind-bind (Err p) f g = refl

-- correlations behind others
bound_by-append : (t : Task) (vars : List Variable) (u : Value) (cs ds : List Correlation) (bound : Members) → bound_by t vars u (cs ++ ds) bound ≡ (bound_by t vars u cs bound >>= bound_by t vars u ds)
bound_by-append t vars u [] ds bound = refl
bound_by-append t vars u (c ∷ cs) ds bound =
    (λ i. expecting t vars u c.name c.expect bound >>= (λ more. bound_by-append t vars u cs ds more i))
    ∙ sym (bind-bind (expecting t vars u c.name c.expect bound) (bound_by t vars u cs) (bound_by t vars u ds))

-- those of a filter, before those of the others
bound_by-filter : (t : Task) (vars : List Variable) (u : Value) (fs : List Filter) (i : ℕ) (f : Filter) (bound : Members) → i < length fs → f ≡ get_or fs i f
    → bound_by t vars u (correlations (drop i fs)) bound ≡ (bound_by t vars u f.correlate bound >>= bound_by t vars u (correlations (drop (i + 1) fs)))
bound_by-filter t vars u fs i f bound p e =
    at_drop_more (λ gs. bound_by t vars u (correlations gs) bound) fs i f p
    ∙ ap (λ (g : Filter). bound_by t vars u (correlations (g ∷ drop (i + 1) fs)) bound) (sym e)
    ∙ bound_by-append t vars u f.correlate (correlations (drop (i + 1) fs)) bound

-- a filter was bound
pub bound_by-more : (t : Task) (vars : List Variable) (u : Value) (fs : List Filter) (i : ℕ) (f : Filter) (bound more : Members) (all : Result Members Problem) → i < length fs → f ≡ get_or fs i f
    → bound_by t vars u (correlations (drop i fs)) bound ≡ all → bound_by t vars u f.correlate bound ≡ Ok more → bound_by t vars u (correlations (drop (i + 1) fs)) more ≡ all
bound_by-more t vars u fs i f bound more all p e before here =
    ap (λ (m : Result Members Problem). m >>= bound_by t vars u (correlations (drop (i + 1) fs))) (sym here) ∙ sym (bound_by-filter t vars u fs i f bound p e) ∙ before

-- or it ended in an error
pub bound_by-ended : (t : Task) (vars : List Variable) (u : Value) (fs : List Filter) (i : ℕ) (f : Filter) (bound : Members) (all : Result Members Problem) (h : Halt) (r : Result Members Halt) → i < length fs → f ≡ get_or fs i f
    → bound_by t vars u (correlations (drop i fs)) bound ≡ all → Gives (bound_by t vars u f.correlate bound) (Err h) → IsErrAnd r (λ y. y ≡ h) → Gives all r
bound_by-ended t vars u fs i f bound all h r p e before here same =
    Gives-same _ all r (sym (bound_by-filter t vars u fs i f bound p e) ∙ before)
    (Gives-passed (bound_by t vars u f.correlate bound) (bound_by t vars u (correlations (drop (i + 1) fs))) r h same here)
