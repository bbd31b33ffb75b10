-- Objects whose keys and values are literals.
use Rattle.std.proofs.Common.{◌≡◌, ◌+◌, ◌<◌, ◌≤◌, ℕ, List, [], ◌∷◌, Some, Result, ap, ◌∙◌, subst, suc, length, arith}
use Rattle.swf_expr.specs.Expr.{Tree, lit, Pairs, pair}
use Rattle.swf_expr.specs.ExprNode.{pairs_of, value_or_here}
use Rattle.swf_expr.specs.Constant.{constant_from, constant_of}
use Rattle.swf_expr.specs.declared.expr.ExprMember.{ExprMember}
use Rattle.swf_value.specs.Members.{put}
use Rattle.swf_value.specs.Value.{Value, text, object, Members, no_members}
use Rattle.swf_jq_eval.specs.declared.outputs.Ending.{Ending as Ends}
use Rattle.swf_jq_eval.specs.declared.outputs.Stop.{Stop}
use Rattle.swf_jq_eval.specs.declared.outputs.Out.{Out}
use Rattle.swf_evaluation.specs.Turns.{limit}
use Rattle.swf_jq_eval.specs.Goes.{Goes}
use Rattle.swf_evaluation.specs.Outputs.{Scope, objects, with_member}
use Rattle.swf_evaluation.specs.Run.{Run, gives, spend, turn, made, over, onward}
use Rattle.swf_jq_eval.proofs.Runs.{over_one, goes_from, made_on}

-- so many turns, and as many once more
abbrev twice : ℕ → Run → Run
twice n s = spend n (spend n s)

no_turns : (s : Run) → twice 0 s ≡ s
no_turns s = let n : 0 + (0 + s.turns) ≡ s.turns = omega arith in λ i. record { values = s.values; end = s.end; turns = n i }

-- a member of literals takes two turns
one_more : (k v : Tree) (ps : Pairs) (n : ℕ) (ms : Members) (w : Value) (r : Scope) (i : Value)
    → ((ns : Members) → constant_from ps (object ns) ≡ Some w → twice n (made w) ≡ objects ps (object ns) r i)
    → constant_from (pair k v ps) (object ms) ≡ Some w → twice (suc n) (made w) ≡ objects (pair k v ps) (object ms) r i
one_more (lit (text k)) (lit x) ps n ms w r i rest h =
    let g : Value → Value → Run = λ y z. onward (with_member y z (object ms)) (λ p. objects ps p r i) in
    let s : Run = made w in
    let t : suc n + (suc n + s.turns) ≡ 1 + (1 + (n + (n + s.turns))) = omega arith in
    (λ j. record { values = s.values; end = s.end; turns = t j })
    ∙ ap (λ q. turn (turn q)) (rest (put k x ms) h)
    ∙ ap turn (over_one x (g (text k)))
    ∙ over_one (text k) (λ y. over (turn (gives x)) (g y))
one_more k v ps n ms w r i rest h = absurd cc

pub constant_made : (es : List ExprMember) (ms : Members) (w : Value) (r : Scope) (i : Value)
    → constant_from (pairs_of es) (object ms) ≡ Some w → twice (length es) (made w) ≡ objects (pairs_of es) (object ms) r i
constant_made [] ms w r i h = let q : w ≡ object ms = cc in no_turns (made w) ∙ ap made q
constant_made (e ∷ es) ms w r i h = one_more e.key (value_or_here e.key e.value) (pairs_of es) (length es) ms w r i (λ ns. constant_made es ns w r i) h

-- the object of literals goes on as it is made
pub constant_goes : (ps : Pairs) (es : List ExprMember) (w : Value) (r : Scope) (i : Value) (old mid new : Out) (a : Result Ends Stop)
    → pairs_of es ≡ ps → constant_of ps ≡ Some w → mid ≡ record { turns = old.turns + length es + length es; values = old.values }
    → Goes mid (made w) new a → Goes old (objects ps (object no_members) r i) new a
constant_goes ps es w r i old mid new a q h k g =
    let n : ℕ = length es in
    let m : Out = record { turns = old.turns + n; values = old.values } in
    subst (λ s. Goes old s new a) (constant_made es no_members w r i (ap constant_of q ∙ h) ∙ ap (λ p. objects p (object no_members) r i) q)
    (goes_from old m new (twice n (made w)) (spend n (made w)) a (made_on old m new n (spend n (made w)) (λ j. m))
    (goes_from m mid new (spend n (made w)) (made w) a (made_on m mid new n (made w) k) g))

no_fewer : (ps : Pairs) (es : List ExprMember) (w : Value) (r : Scope) (i : Value)
    → pairs_of es ≡ ps → constant_of ps ≡ Some w → length es + length es ≤ (objects ps (object no_members) r i).turns
no_fewer ps es w r i q h =
    let s : twice (length es) (made w) ≡ objects ps (object no_members) r i = constant_made es no_members w r i (ap constant_of q ∙ h) ∙ ap (λ p. objects p (object no_members) r i) q in
    let n : length es + (length es + (made w).turns) ≡ (objects ps (object no_members) r i).turns = ap (λ (s : Run). s.turns) s in
    omega (arith, n)

-- the turns of the keys, or of the values, are too many
pub keys_stop : (ps : Pairs) (es : List ExprMember) (w : Value) (r : Scope) (i : Value) (old : Out)
    → pairs_of es ≡ ps → constant_of ps ≡ Some w → limit < old.turns + length es → limit < old.turns + (objects ps (object no_members) r i).turns
keys_stop ps es w r i old q h l = omega (arith, l, no_fewer ps es w r i q h)

pub values_stop : (ps : Pairs) (es : List ExprMember) (w : Value) (r : Scope) (i : Value) (old : Out) (t : ℕ)
    → pairs_of es ≡ ps → constant_of ps ≡ Some w → t ≡ old.turns + length es → limit < t + length es → limit < old.turns + (objects ps (object no_members) r i).turns
values_stop ps es w r i old t q h k l = omega (arith, l, k, no_fewer ps es w r i q h)
