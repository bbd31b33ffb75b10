-- Members by their names, as the tasks in them are found.
use Rattle.std.proofs.Common.{◌≡◌, ◌∙◌, ◌+◌, ◌≤◌, ap, sym, subst, refl, Result, IfOk, ℕ, List, [], ◌∷◌, ◌++◌, length, Bool, true, false, Option, Some, None, cond, get_or, option_map, drop, arith}
use Rattle.std.specs.Prelude.{decimal}
use Rattle.swf_text.specs.Same.{same}
use Rattle.swf_value.specs.Value.{Value, null, boolean, int, text, list, object, Members, no_members, member}
use Rattle.swf_value.specs.Members.{at, member_at}
use Rattle.swf_value.specs.Node.{items_of, members_of, weight, weight_members}
use Rattle.swf_value.specs.declared.value.Member.{Member}
use Rattle.swf_document.specs.Task.{Tasks, no_tasks, named}
use Rattle.swf_document.specs.TaskNode.{task_of, tasks_of}
use Rattle.swf_document.specs.declared.tasks.Named.{Named}
use Rattle.swf_reader.specs.Reads.{with_task, named_of, added, functions_in, items_in, item_in, task_in, tasks_in, tasks_at, tasks_under, tasks_inside}

heavier : (k : List ℕ) (b : Bool) (d v : Value) (ms : Members) → (at k ms ≡ Some v → weight v ≤ weight_members ms) → cond b (Some d) (at k ms) ≡ Some v → weight v ≤ weight d + weight_members ms
heavier k true d v ms h e = let p : d ≡ v = cc in omega (arith, ap weight p)
heavier k false d v ms h e = omega (arith, h e)

-- a member weighs no more than all
pub weight_at : (k : List ℕ) (ms : Members) (v : Value) → at k ms ≡ Some v → weight v ≤ weight_members ms
weight_at k no_members v e = cc
weight_at k (member l d ms) v e = heavier k (same k l) d v ms (weight_at k ms v) e

-- a member weighs less than the object
pub member_weighs : (k : List ℕ) (v w : Value) → Some w ≡ member_at k v → weight w + 4 ≤ weight v
member_weighs k null w e = cc
member_weighs k (boolean b) w e = cc
member_weighs k (int z) w e = cc
member_weighs k (text t) w e = cc
member_weighs k (list ds) w e = cc
member_weighs k (object ms) w e = omega (arith, weight_at k ms w (sym e))

found_at : (p : List (List ℕ)) (k : List ℕ) (b : Bool) (d v : Value) (ms : Members) → (at k ms ≡ Some v → tasks_at p k ms ≡ tasks_in (p ++ k ∷ []) v) → cond b (Some d) (at k ms) ≡ Some v →
    cond b (tasks_in (p ++ k ∷ []) d) (tasks_at p k ms) ≡ tasks_in (p ++ k ∷ []) v
found_at p k true d v ms h e = let q : d ≡ v = cc in ap (tasks_in (p ++ k ∷ [])) q
found_at p k false d v ms h e = h e

-- the tasks in a member that is there
pub tasks_at_some : (p : List (List ℕ)) (k : List ℕ) (ms : Members) (v : Value) → at k ms ≡ Some v → tasks_at p k ms ≡ tasks_in (p ++ k ∷ []) v
tasks_at_some p k no_members v e = cc
tasks_at_some p k (member l d ms) v e = found_at p k (same k l) d v ms (tasks_at_some p k ms v) e

absent_at : (p : List (List ℕ)) (k : List ℕ) (b : Bool) (d : Value) (ms : Members) → (at k ms ≡ None → tasks_at p k ms ≡ no_tasks) → cond b (Some d) (at k ms) ≡ None →
    cond b (tasks_in (p ++ k ∷ []) d) (tasks_at p k ms) ≡ no_tasks
absent_at p k true d ms h e = cc
absent_at p k false d ms h e = h e

pub tasks_at_none : (p : List (List ℕ)) (k : List ℕ) (ms : Members) → at k ms ≡ None → tasks_at p k ms ≡ no_tasks
tasks_at_none p k no_members e = refl
tasks_at_none p k (member l d ms) e = absent_at p k (same k l) d ms (tasks_at_none p k ms) e

found_under : (p : List (List ℕ)) (k j : List ℕ) (b : Bool) (d v : Value) (ms : Members) → (at k ms ≡ Some v → tasks_under p k j ms ≡ tasks_inside (p ++ k ∷ []) j v) → cond b (Some d) (at k ms) ≡ Some v →
    cond b (tasks_inside (p ++ k ∷ []) j d) (tasks_under p k j ms) ≡ tasks_inside (p ++ k ∷ []) j v
found_under p k j true d v ms h e = let q : d ≡ v = cc in ap (tasks_inside (p ++ k ∷ []) j) q
found_under p k j false d v ms h e = h e

-- the tasks in a member of a member that is there
pub tasks_under_some : (p : List (List ℕ)) (k j : List ℕ) (ms : Members) (v : Value) → at k ms ≡ Some v → tasks_under p k j ms ≡ tasks_inside (p ++ k ∷ []) j v
tasks_under_some p k j no_members v e = cc
tasks_under_some p k j (member l d ms) v e = found_under p k j (same k l) d v ms (tasks_under_some p k j ms v) e

absent_under : (p : List (List ℕ)) (k j : List ℕ) (b : Bool) (d : Value) (ms : Members) → (at k ms ≡ None → tasks_under p k j ms ≡ no_tasks) → cond b (Some d) (at k ms) ≡ None →
    cond b (tasks_inside (p ++ k ∷ []) j d) (tasks_under p k j ms) ≡ no_tasks
absent_under p k j true d ms h e = cc
absent_under p k j false d ms h e = h e

pub tasks_under_none : (p : List (List ℕ)) (k j : List ℕ) (ms : Members) → at k ms ≡ None → tasks_under p k j ms ≡ no_tasks
tasks_under_none p k j no_members e = refl
tasks_under_none p k j (member l d ms) e = absent_under p k j (same k l) d ms (tasks_under_none p k j ms) e

-- no member of a name
pub absent : (k : List ℕ) (v : Value) (ms : Members) → v ≡ object ms → None ≡ member_at k v → at k ms ≡ None
absent k v ms e h = sym (h ∙ ap (member_at k) e)

-- the tasks in a member of a member that is there, at its place
pub under_there : (p q : List (List ℕ)) (k j : List ℕ) (v w : Value) (ms : Members) → v ≡ object ms → Some w ≡ member_at k v → q ≡ p ++ k ∷ [] → tasks_inside q j w ≡ tasks_under p k j ms
under_there p q k j v w ms e h s =
    ap (λ (x : List (List ℕ)). tasks_inside x j w) s ∙ sym (tasks_under_some p k j ms w (sym (h ∙ ap (member_at k) e)))

-- tasks that are known under another name
pub told : {E : Type 0} (r : Result Tasks E) (a b : Tasks) → a ≡ b → IfOk r (λ ts. ts ≡ a) → IfOk r (λ ts. ts ≡ b)
told r a b e h = subst (λ (x : Tasks). IfOk r (λ ts. ts ≡ x)) e h

-- tasks before others
abbrev pub before_tasks : List Named → Tasks → Tasks
before_tasks [] ts = ts
before_tasks (n ∷ ns) ts = named n.name (task_of n.task) (before_tasks ns ts)

pub tasks_push : (ns : List Named) (n : Named) (ts : Tasks) → before_tasks (ns ++ n ∷ []) ts ≡ before_tasks ns (named n.name (task_of n.task) ts)
tasks_push [] n ts = refl
tasks_push (m ∷ ns) n ts = ap (named m.name (task_of m.task)) (tasks_push ns n ts)

pub tasks_all : (ns : List Named) → before_tasks ns no_tasks ≡ tasks_of ns
tasks_all [] = refl
tasks_all (n ∷ ns) = ap (named n.name (task_of n.task)) (tasks_all ns)

-- the functions so far with one more, and those of what is left, are all
pub functions_step : (p : List (List ℕ)) (ms : List Member) (i : ℕ) (m : Member) (old new : List Named) (n : Named) (whole : Tasks)
    → drop i ms ≡ m ∷ drop (i + 1) ms → named_of n ≡ (m.name, task_in (p ++ m.name ∷ []) m.value) → new ≡ old ++ n ∷ []
    → whole ≡ before_tasks old (functions_in p (members_of (drop i ms))) → whole ≡ before_tasks new (functions_in p (members_of (drop (i + 1) ms)))
functions_step p ms i m old new n whole first is more e =
    let rest = functions_in p (members_of (drop (i + 1) ms)) in
    e ∙ ap (λ (l : List Member). before_tasks old (functions_in p (members_of l))) first
    ∙ ap (λ x. before_tasks old (named x.0 x.1 rest)) (sym is)
    ∙ sym (tasks_push old n rest)
    ∙ ap (λ (l : List Named). before_tasks l rest) (sym more)

pub tasks_added : (ns : List Named) (o : Option Named) (ts : Tasks) → before_tasks (added ns o) ts ≡ before_tasks ns (with_task (option_map named_of o) ts)
tasks_added ns (Some n) ts = tasks_push ns n ts
tasks_added ns None ts = refl

-- the tasks so far with that of one item more, and those of what is left, are all
pub items_step : (p q : List (List ℕ)) (ds : List Value) (i : ℕ) (d : Value) (ts new : List Named) (o : Option Named) (whole : Tasks)
    → drop i ds ≡ d ∷ drop (i + 1) ds → q ≡ p ++ decimal i ∷ [] → option_map named_of o ≡ item_in q d → new ≡ added ts o
    → whole ≡ before_tasks ts (items_in p i (items_of (drop i ds))) → whole ≡ before_tasks new (items_in p (i + 1) (items_of (drop (i + 1) ds)))
items_step p q ds i d ts new o whole first place is more e =
    let rest = items_in p (i + 1) (items_of (drop (i + 1) ds)) in
    e ∙ ap (λ (l : List Value). before_tasks ts (items_in p i (items_of l))) first
    ∙ ap (λ (x : List (List ℕ)). before_tasks ts (with_task (item_in x d) rest)) (sym place)
    ∙ ap (λ x. before_tasks ts (with_task x rest)) (sym is)
    ∙ sym (tasks_added ts o rest)
    ∙ ap (λ (l : List Named). before_tasks l rest) (sym more)

-- an object of one member is a named task
pub one_item : (p : List (List ℕ)) (ms : List Member) (m : Member) → length ms ≡ 1 → m ≡ get_or ms 0 m → item_in p (object (members_of ms)) ≡ Some (m.name, task_in (p ++ m.name ∷ []) m.value)
one_item p [] m h e = absurd (omega arith)
one_item p (n ∷ []) m h e = ap (λ x. Some (x.name, task_in (p ++ x.name ∷ []) x.value)) (sym e)
one_item p (n ∷ o ∷ ms) m h e = absurd (omega arith)

pub not_one_item : (p : List (List ℕ)) (ms : List Member) → (length ms ≡ 1 → ⊥) → item_in p (object (members_of ms)) ≡ None
not_one_item p [] h = refl
not_one_item p (m ∷ []) h = absurd (h refl)
not_one_item p (m ∷ n ∷ ms) h = refl
