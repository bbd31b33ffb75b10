-- Built-ins by their number of arguments.
use mathlib.Core.Bool.{beq}
use Rattle.std.proofs.Common.{◌≡◌, ◌∙◌, ◌<◌, ◌≤◌, ◌+◌, ℕ, Bool, true, false, not, zero, if◌then◌else◌, List, [], ◌∷◌, length, get_or, drop, suc, refl, sym, ap, arith, Ok, Err, Some, None, Result, subst}
use Rattle.swf_expr.specs.declared.builtin.Builtin.{Builtin}
use Rattle.swf_expr.specs.declared.builtin.Builtin.TheVariants as builtins
use Rattle.swf_expr.specs.Expr.{Tree}
use Rattle.swf_expr.specs.ExprNode.{node_tree, trees_of, pairs_of, value_or_here}
use Rattle.swf_expr.specs.declared.expr.ExprNode.TheVariants as nodes
use Rattle.std.specs.Option.{option_map_or}
use Rattle.swf_expr.specs.declared.expr.ExprMember.{ExprMember}
use Rattle.swf_value.specs.Node.{items_of}
use Rattle.swf_value.specs.Value.{Value, boolean, list}
use Rattle.swf_expr.specs.Expr.{pair}
use Rattle.swf_jq_builtins.proofs.Lists.{values_of_items_of}
use Rattle.swf_evaluation.specs.Builtins.{plain, with_one}
use Rattle.swf_evaluation.specs.Run.{Ending, Run, gives, made, made_of, over, across, each, clean, gave, same_truth, until, decided, decides, ended}
use Rattle.swf_jq_eval.specs.Goes.{ahead, Comes, Goes, ending_of}
use Rattle.swf_jq_eval.specs.declared.outputs.Ending.{Ending as Ends}
use Rattle.swf_jq_eval.specs.declared.outputs.Ending.TheVariants as ends
use Rattle.swf_jq_eval.specs.declared.outputs.Stop.{Stop}
use Rattle.swf_expr.specs.declared.expr.ExprNode.{ExprNode}
use Rattle.swf_jq_eval.specs.declared.outputs.Out.{Out}
use Rattle.swf_jq_eval.specs.declared.outputs.Outputs.{Outputs}
use Rattle.swf_jq_eval.proofs.Runs.{made_from, made_stop}
use Rattle.swf_evaluation.specs.Operations.{is_true}
use Rattle.std.specs.List.{list_any}
use Rattle.swf_evaluation.specs.Outputs.{Scope, run, node, runs, objects, alone, with_argument, applied, ranged, array_of}

pub alone_other : (b : Builtin) (v : Value) → (b ≡ builtins.Empty → ⊥) → (b ≡ builtins.Error → ⊥) → made_of (plain b v) ≡ alone b v
alone_other builtins.Empty v h k = absurd (h refl)
alone_other builtins.Error v h k = absurd (k refl)
alone_other b v h k = refl

pub with_other : (b : Builtin) (f : Value → Run) (v : Value)
    → (b ≡ builtins.AnyOf → ⊥) → (b ≡ builtins.AllOf → ⊥) → (b ≡ builtins.Map → ⊥) → (b ≡ builtins.WithEntries → ⊥) → (b ≡ builtins.SortBy → ⊥)
    → (b ≡ builtins.Select → ⊥) → (b ≡ builtins.ErrorWith → ⊥) → (b ≡ builtins.RangeTo → ⊥) → (b ≡ builtins.FirstOf → ⊥)
    → over (f v) (λ y. made_of (with_one b v y)) ≡ with_argument b f v
with_other builtins.AnyOf f v h1 h2 h3 h4 h5 h6 h7 h8 h9 = absurd (h1 refl)
with_other builtins.AllOf f v h1 h2 h3 h4 h5 h6 h7 h8 h9 = absurd (h2 refl)
with_other builtins.Map f v h1 h2 h3 h4 h5 h6 h7 h8 h9 = absurd (h3 refl)
with_other builtins.WithEntries f v h1 h2 h3 h4 h5 h6 h7 h8 h9 = absurd (h4 refl)
with_other builtins.SortBy f v h1 h2 h3 h4 h5 h6 h7 h8 h9 = absurd (h5 refl)
with_other builtins.Select f v h1 h2 h3 h4 h5 h6 h7 h8 h9 = absurd (h6 refl)
with_other builtins.ErrorWith f v h1 h2 h3 h4 h5 h6 h7 h8 h9 = absurd (h7 refl)
with_other builtins.RangeTo f v h1 h2 h3 h4 h5 h6 h7 h8 h9 = absurd (h8 refl)
with_other builtins.FirstOf f v h1 h2 h3 h4 h5 h6 h7 h8 h9 = absurd (h9 refl)
with_other b f v h1 h2 h3 h4 h5 h6 h7 h8 h9 = refl

pub call_two : (b : Builtin) (es : List Tree) (d e : Tree) (v : Value) (r : Scope) → 1 < length es → d ≡ get_or es 0 d → e ≡ get_or es 1 e
    → over (run d r v) (λ x. over (run e r v) (λ y. ranged x y)) ≡ applied b (runs (trees_of es) r) v
call_two b [] d e v r h p q = absurd (omega arith)
call_two b (c ∷ []) d e v r h p q = absurd (omega arith)
call_two b (a ∷ c ∷ es) d e v r h p q = λ i. over (run (p i) r v) (λ x. over (run (q i) r v) (λ y. ranged x y))

-- the items of a list, to which something is done
pub across_list : (name : List ℕ) (v : Value) (items xs : List Value) (f : List Value → Run) → list (items_of items) ≡ v → xs ≡ items → f xs ≡ across (array_of name v) f
across_list name v items xs f p q = ap f (q ∙ sym (values_of_items_of items)) ∙ ap (λ w. across (array_of name w) f) p

-- a run for each of some values
pub each_is_over : (vs : List Value) (g : Value → Run) → each g vs clean ≡ over (gave vs clean) g
each_is_over vs g = let s = each g vs clean in let n : s.turns ≡ 0 + s.turns = omega arith in λ i. record { values = s.values; end = s.end; turns = n i }

-- the first member of an expression and those behind it
pub objects_first : (ms : List ExprMember) (m : ExprMember) (o : Value) (r : Scope) (v : Value) → 0 < length ms → m ≡ get_or ms 0 m
    → objects (pair m.key (value_or_here m.key m.value) (pairs_of (drop 1 ms))) o r v ≡ objects (pairs_of ms) o r v
objects_first [] m o r v h e = absurd (omega arith)
objects_first (n ∷ ms) m o r v h e = λ i. objects (pair (e i).key (value_or_here (e i).key (e i).value) (pairs_of ms)) o r v

-- a value with an output of the truth that is looked for
pub until_found : (want : Bool) (f : Value → Run) (xs : List Value) (i : ℕ) (x : Value) (mid new : Out) (o : Outputs) → i < length xs → x ≡ get_or xs i x
    → Comes mid (f x) new (Ok o) → list_any (λ v. same_truth (is_true v) want) o.values.items ≡ true → ahead new (made (boolean want)) ≡ ahead mid (until want f (drop i xs))
until_found want f [] i x mid new o l q h b = absurd (omega (arith, l))
until_found want f (y ∷ xs) zero x mid new o l q h b =
    let F = λ (vs : List Value) (e : Ending). if list_any (λ v. same_truth (is_true v) want) vs then made (boolean want) else ended e (until want f xs) in
    ap (λ (c : Bool). ahead new (if c then made (boolean want) else ended (ending_of o.end) (until want f xs))) (sym b)
    ∙ made_from F mid new (f x) o h ∙ ap (λ z. ahead mid (decided want (f z) (until want f xs))) q
until_found want f (y ∷ xs) (suc i) x mid new o l q h b = until_found want f xs i x mid new o (omega (arith, l)) q h b

pub until_on : (want : Bool) (f : Value → Run) (xs : List Value) (i : ℕ) (x : Value) (mid new : Out) (o : Outputs) → i < length xs → x ≡ get_or xs i x
    → Comes mid (f x) new (Ok o) → list_any (λ v. same_truth (is_true v) want) o.values.items ≡ false → o.end ≡ ends.Clean → ahead new (until want f (drop (suc i) xs)) ≡ ahead mid (until want f (drop i xs))
until_on want f [] i x mid new o l q h b e = absurd (omega (arith, l))
until_on want f (y ∷ xs) zero x mid new o l q h b e =
    let F = λ (vs : List Value) (e : Ending). if list_any (λ v. same_truth (is_true v) want) vs then made (boolean want) else ended e (until want f xs) in
    ap (λ (e : Ends). ahead new (ended (ending_of e) (until want f xs))) (sym e)
    ∙ ap (λ (c : Bool). ahead new (if c then made (boolean want) else ended (ending_of o.end) (until want f xs))) (sym b)
    ∙ made_from F mid new (f x) o h ∙ ap (λ z. ahead mid (decided want (f z) (until want f xs))) q
until_on want f (y ∷ xs) (suc i) x mid new o l q h b e = until_on want f xs i x mid new o (omega (arith, l)) q h b e

pub until_out : (want : Bool) (f : Value → Run) (xs : List Value) (i : ℕ) (x m : Value) (mid new : Out) (o : Outputs) → i < length xs → x ≡ get_or xs i x
    → Comes mid (f x) new (Ok o) → list_any (λ v. same_truth (is_true v) want) o.values.items ≡ false → o.end ≡ ends.Raised m → Goes mid (until want f (drop i xs)) new (Ok (ends.Raised m))
until_out want f [] i x m mid new o l q h b e = absurd (omega (arith, l))
until_out want f (y ∷ xs) zero x m mid new o l q h b e =
    let F = λ (vs : List Value) (e : Ending). if list_any (λ v. same_truth (is_true v) want) vs then made (boolean want) else ended e (until want f xs) in
    ap (λ (e : Ends). ahead new (ended (ending_of e) (until want f xs))) (sym e)
    ∙ ap (λ (c : Bool). ahead new (if c then made (boolean want) else ended (ending_of o.end) (until want f xs))) (sym b)
    ∙ made_from F mid new (f x) o h ∙ ap (λ z. ahead mid (decided want (f z) (until want f xs))) q
until_out want f (y ∷ xs) (suc i) x m mid new o l q h b e = until_out want f xs i x m mid new o (omega (arith, l)) q h b e

pub until_stop : (want : Bool) (f : Value → Run) (xs : List Value) (i : ℕ) (e : Stop) (x : Value) (mid new : Out) → i < length xs → x ≡ get_or xs i x
    → Comes mid (f x) new (Err e) → Goes mid (until want f (drop i xs)) new (Err e)
until_stop want f [] i e x mid new l q h = absurd (omega (arith, l))
until_stop want f (y ∷ xs) zero e x mid new l q h =
    let F = λ (vs : List Value) (e : Ending). if list_any (λ v. same_truth (is_true v) want) vs then made (boolean want) else ended e (until want f xs) in
    subst (λ z. Goes mid (decided want (f z) (until want f xs)) new (Err e)) q (made_stop F mid new new (f x) e h)
until_stop want f (y ∷ xs) (suc i) e x mid new l q h = until_stop want f xs i e x mid new (omega (arith, l)) q h

pub until_end : (want : Bool) (f : Value → Run) (xs : List Value) (i : ℕ) → length xs ≤ i → made (boolean (not want)) ≡ until want f (drop i xs)
until_end want f [] zero l = refl
until_end want f [] (suc i) l = refl
until_end want f (y ∷ xs) zero l = absurd (omega (arith, l))
until_end want f (y ∷ xs) (suc i) l = until_end want f xs i (omega (arith, l))

-- a second expression, or the input where there is none
pub choose_is : (c a : _) (o : _) (r : Scope) (v : Value)
    → over (run c r v) (λ x. if is_true x then run a r v else option_map_or (λ e. run e r v) o (gives v)) ≡ node (node_tree (nodes.If c a o)) r v
choose_is c a None r v = refl
choose_is c a (Some b) r v = refl

-- where a Boolean is not as wanted, it is what the second gives
pub other_truth : (b : Bool) (y : Value) (t : Bool) (s : Run) → is_true y ≡ t → beq t b ≡ false → decides b y s ≡ s
other_truth true y true s i h = absurd (cc)
other_truth true y false s i h = ap (λ t. if t then made (boolean true) else s) i
other_truth false y true s i h = ap (λ t. if t then s else made (boolean false)) i
other_truth false y false s i h = absurd (cc)

pub choose_goes : (old new : Out) (g : Result Ends Stop) (n : ExprNode) (c a : _) (o : _) (d e : Tree) (r : Scope) (v : Value) → n ≡ nodes.If c a o → d ≡ c → e ≡ a
    → Goes old (over (run d r v) (λ x. if is_true x then run e r v else option_map_or (λ e. run e r v) o (gives v))) new g → Goes old (node (node_tree n) r v) new g
choose_goes old new g n c a o d e r v is p q h =
    subst (λ s. Goes old s new g)
    ((λ i. over (run (p i) r v) (λ x. if is_true x then run (q i) r v else option_map_or (λ e. run e r v) o (gives v))) ∙ choose_is c a o r v ∙ sym (ap (λ m. node (node_tree m) r v) is)) h

pub objects_goes : (old new : Out) (g : Result Ends Stop) (ms : List ExprMember) (m : ExprMember) (o : Value) (r : Scope) (v : Value) → 0 < length ms → m ≡ get_or ms 0 m
    → Goes old (objects (pair m.key (value_or_here m.key m.value) (pairs_of (drop 1 ms))) o r v) new g → Goes old (objects (pairs_of ms) o r v) new g
objects_goes old new g ms m o r v l e h = subst (λ s. Goes old s new g) (objects_first ms m o r v l e) h
