use Rattle.std.proofs.Common.{◌≡◌, ◌∙◌, ◌+◌, ◌++◌, ◌∷◌, [], ℕ, List, Option, Some, None, option_map, ap, sym, refl, drop, append_assoc, append-nil}
use Rattle.std.proofs.lemmas.List.{drop_all}
use Rattle.std.specs.Option.{option_and_then}
use Rattle.swf_value.proofs.Writing.{first_of_rest}
use Rattle.swf_value.specs.Value.{Value}
use Rattle.swf_evaluation.specs.Builtins.{piece_of, pieces_of}
use Rattle.swf_jq_builtins.proofs.pieces.pieces_of.Goals as goal

-- what is written of the items from here on, behind this
abbrev behind : List (List ℕ) → List Value → Option (List (List ℕ))
behind old vs = option_map (λ ts. old ++ ts) (pieces_of vs)

glue : (old : List (List ℕ)) (t : List ℕ) (o : Option (List (List ℕ))) → option_map (λ ts. (old ++ t ∷ []) ++ ts) o ≡ option_map (λ ts. old ++ ts) (option_map (λ ts. t ∷ ts) o)
glue old t None = refl
glue old t (Some ts) = ap Some (append_assoc old (t ∷ []) ts)

one : (old : List (List ℕ)) (vs : List Value) (v : Value) (o : Option (List ℕ)) → o ≡ piece_of v → option_map (λ ts. old ++ ts) (option_and_then (λ t. option_map (λ ts. t ∷ ts) (pieces_of vs)) o) ≡ behind old (v ∷ vs)
one old vs v o is = ap (λ x. option_map (λ ts. old ++ ts) (option_and_then (λ t. option_map (λ ts. t ∷ ts) (pieces_of vs)) x)) is

pub loop-item-preserved : goal.loop-item-preserved
loop-item-preserved c =
    let vs = c.args.items.now in
    let i = c.loop-item.item-index in
    let v = c.item-item.result in
    let old = c.loop-item.pieces.items in
    let t = c.in-Some.piece in
    let first : drop i vs ≡ v ∷ drop (i + 1) vs = first_of_rest vs i v c.loop-item-test.true c.item-item.is in
    ap (λ l. behind l (drop (i + 1) vs)) c.in_ok-push-in-Some.ensures.items ∙ glue old t (pieces_of (drop (i + 1) vs))
    ∙ one old (drop (i + 1) vs) v (Some t) (sym c.in-Some.is ∙ c.in_ok-piece.ensures) ∙ ap (behind old) (sym first) ∙ c.loop-item.invariant

pub returns : goal.returns
returns c =
    let old = c.loop-item.pieces.items in
    ap Some (sym (append-nil old)) ∙ ap (behind old) (sym (drop_all c.loop-item.item-index c.args.items.now c.loop-item-test.false)) ∙ c.loop-item.invariant

pub returns-in-None : goal.returns-in-None
returns-in-None c =
    let vs = c.args.items.now in
    let i = c.loop-item.item-index in
    let v = c.item-item.result in
    let old = c.loop-item.pieces.items in
    let first : drop i vs ≡ v ∷ drop (i + 1) vs = first_of_rest vs i v c.loop-item-test.true c.item-item.is in
    one old (drop (i + 1) vs) v None (sym c.in-None.is ∙ c.in_ok-piece.ensures) ∙ ap (behind old) (sym first) ∙ c.loop-item.invariant
