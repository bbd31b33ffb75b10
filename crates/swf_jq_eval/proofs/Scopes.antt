-- Looking a name up, from the last on.
use Rattle.std.proofs.Common.{◌≡◌, ◌<◌, ◌+◌, ℕ, List, [], ◌∷◌, ◌++◌, length, get_or, take, map, sym, ap, ◌∙◌, add-one, take-suc, if◌then◌else◌}
use Rattle.std.proofs.lemmas.List.{reverse-append}
use Rattle.swf_text.specs.Same.{same}
use Rattle.swf_evaluation.specs.declared.vars.Variable.{Variable}
use Rattle.swf_evaluation.specs.Outputs.{named}
use Rattle.swf_evaluation.specs.Scopes.{scope_from}

scoped : (bs : List Variable) (b : Variable) → scope_from (bs ++ b ∷ []) ≡ (b.name, b.value) ∷ scope_from bs
scoped bs b = ap (map (λ (x : Variable). (x.name, x.value))) (reverse-append bs (b ∷ []))

pub named_at : (bs : List Variable) (k : ℕ) (b : Variable) (x : List ℕ) → k < length bs → b ≡ get_or bs k b
    → named x (scope_from (take (k + 1) bs)) ≡ (if same x b.name then b.value else named x (scope_from (take k bs)))
named_at bs k b x h q =
    ap (λ (cs : List Variable). named x (scope_from cs)) (ap (λ (n : ℕ). take n bs) (add-one k) ∙ take-suc bs k b h ∙ (λ i. take k bs ++ (sym q i) ∷ []))
    ∙ ap (named x) (scoped (take k bs) b)
