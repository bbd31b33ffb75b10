-- The lists of a task stand at the numbers at which they begin.
use Rattle.std.proofs.Common.{◌≡◌, ◌∙◌, ℕ, zero, suc, ◌+◌, ◌-◌, ◌<◌, ◌≤◌, true, List, [], ◌∷◌, ◌++◌, length, Option, Some, None, refl, ap, sym, subst, arith, length-append}
use Rattle.std.specs.Prelude.{is_some, option_map, slice_get}
use Rattle.std.specs.List.{AllByRecursion}
use Rattle.std.proofs.lemmas.Option.{slice_get-map}
use Rattle.swf_document.specs.Task.{Task, task, Tasks, no_tasks, named, Kind, call, do_all, emit, for, fork, listen, raise, run, set, switch, try, wait, Handler, no_handler, handler, Catch as Caught}
use Rattle.swf_document.specs.declared.common.Common.{Common}
use Rattle.swf_document.specs.declared.document.Document.{Document}
use Rattle.swf_meaning.specs.Fork.{branches_of}
use Rattle.swf_meaning.specs.Lists.{list_of, tasks_of_handler}
use Rattle.swf_meaning.specs.Next.{task_at}
use Rattle.swf_meaning.specs.Node.{Round, Seq, Each, Try, Catch, Fun, Sub}
use Rattle.swf_meaning.specs.Parts.{workflow}
use Rattle.swf_catalog.specs.Numbers.{Entry, all, begin, begin_of, begins, begins_of, behind, both, count, entries, functions_begin, handler_begin, inner_task, inside, inside_task, inside_kind, inside_handler, listed_entries, numbered, or_nothing, own, with_own}
use Rattle.swf_catalog.specs.Rows.{entries_of, entry_of}
use Rattle.swf_catalog.specs.declared.row.Begins.{Begins}
use Rattle.swf_catalog.specs.declared.row.Row.{Row}
use Rattle.swf_catalog.proofs.NumberLemmas.{count-some, length-all, length-begins_of, length-entries, length-inside, length-inside_task, length-own}
use Rattle.swf_catalog.proofs.TaskLemmas.{or_nothing-some}

-- the entries stand among all from a number on
abbrev pub Stand : List Entry → ℕ → List Entry → Type 0
Stand es n xs = (k : ℕ) → k < length xs → slice_get es (n + k) ≡ slice_get xs k

-- among all, the tasks of a list stand from a number on
abbrev pub Holds : List Entry → ℕ → Tasks → Type 0
Holds es n ts = (i : ℕ) → i < count ts → option_map (λ e. e.task) (slice_get es (n + i)) ≡ task_at ts i

-- the lists of an entry's task stand where they begin
pub record IsPlaced (es : List Entry) (e : Entry) : Type 0 where
  pub lists : (r : Round) → Holds es (begin_of r e.begins) (list_of e.task r)
  pub branches : Holds es e.begins.tasks (branches_of e.task)

get-left : (xs ys : List Entry) (k : ℕ) → k < length xs → slice_get (xs ++ ys) k ≡ slice_get xs k
get-left [] ys k p = let no : ⊥ = omega (arith, p) in absurd no
get-left (x ∷ xs) ys zero p = refl
get-left (x ∷ xs) ys (suc k) p = get-left xs ys k (omega arith)

get-right : (xs ys : List Entry) (k : ℕ) → slice_get (xs ++ ys) (length xs + k) ≡ slice_get ys k
get-right [] ys k = ap (slice_get ys) (omega arith)
get-right (x ∷ xs) ys k = ap (slice_get (x ∷ xs ++ ys)) {y = suc (length xs + k)} (omega arith) ∙ get-right xs ys k

stand-left : (es : List Entry) (n : ℕ) (xs ys : List Entry) → Stand es n (xs ++ ys) → Stand es n xs
stand-left es n xs ys s k p = s k (omega (arith, p, length-append xs ys)) ∙ get-left xs ys k p

stand-right : (es : List Entry) (n m : ℕ) (xs ys : List Entry) → n + length xs ≡ m → Stand es n (xs ++ ys) → Stand es m ys
stand-right es n m xs ys e s k p =
    ap (slice_get es) (omega (arith, e)) ∙ s (length xs + k) (omega (arith, p, length-append xs ys)) ∙ get-right xs ys k

-- the tasks of a list
own-task : (ts : Tasks) (i : ℕ) (bs : List Begins) (k : ℕ) → i + length bs ≡ count ts → k < length bs → option_map (λ e. e.task) (slice_get (own ts i bs) k) ≡ task_at ts (i + k)
own-task ts i [] k e p = let no : ⊥ = omega (arith, p) in absurd no
own-task ts i (b ∷ bs) zero e p = or_nothing-some (task_at ts i) (count-some ts i (omega (arith, e))) ∙ ap (task_at ts) (omega arith)
own-task ts i (b ∷ bs) (suc k) e p = own-task ts (i + 1) bs k (omega (arith, e)) (omega (arith, p)) ∙ ap (task_at ts) (omega arith)

holds-own : (es : List Entry) (n : ℕ) (ts : Tasks) (bs : List Begins) → length bs ≡ count ts → Stand es n (own ts 0 bs) → Holds es n ts
holds-own es n ts bs e s i p =
    ap (option_map (λ x. x.task)) (s i (omega (arith, p, e, length-own ts 0 bs)))
    ∙ own-task ts 0 bs i (omega (arith, e)) (omega (arith, p, e)) ∙ ap (task_at ts) (omega arith)

holds-list : (es : List Entry) (n : ℕ) (ts : Tasks) → Stand es n (with_own n ts (inside n ts)) → Holds es (begin n ts) ts
holds-list es n ts s =
    holds-own es (begin n ts) ts (begins_of n ts) (length-begins_of n ts) (stand-right es n (begin n ts) (inside n ts) (own ts 0 (begins_of n ts)) (ap (λ m. n + m) (length-inside n ts)) s)

holds-none : (es : List Entry) (n : ℕ) → Holds es n no_tasks
holds-none es n i p = let no : ⊥ = omega (arith, p) in absurd no

holds-handler : (es : List Entry) (n : ℕ) (h : Handler) → Stand es n (inside_handler n h) → Holds es (handler_begin n h) (tasks_of_handler h)
holds-handler es n no_handler s = holds-none es n
holds-handler es n (handler ts) s = holds-list es n ts s

-- of a task with one list
holds-both : (es : List Entry) (n : ℕ) (ts : Tasks) → Holds es n ts → (r : Round) → Holds es (begin_of r (both n)) ts
holds-both es n ts h Seq = h
holds-both es n ts h (Each items j) = h
holds-both es n ts h (Try m) = h
holds-both es n ts h (Catch p) = h
holds-both es n ts h Fun = h
holds-both es n ts h (Sub d v c) = h

-- of a `try`
placed-try : (es : List Entry) (n : ℕ) (c : Common) (x : Caught) (ts : Tasks) (h : Handler) → Holds es (begin n ts) ts → Holds es (handler_begin (behind n ts) h) (tasks_of_handler h)
    → (r : Round) → Holds es (begin_of r (begins n (task c (try x ts h)))) (list_of (task c (try x ts h)) r)
placed-try es n c x ts h tried handled Seq = tried
placed-try es n c x ts h tried handled (Each items j) = tried
placed-try es n c x ts h tried handled (Try m) = tried
placed-try es n c x ts h tried handled (Catch p) = handled
placed-try es n c x ts h tried handled Fun = tried
placed-try es n c x ts h tried handled (Sub d v u) = tried

placed-task : (es : List Entry) (n : ℕ) (t : Task) → Stand es n (inside_task n t) → IsPlaced es (record { task = t; begins = begins n t })
placed-task es n (task c (call x)) s = record { lists = λ r. holds-none es _; branches = holds-none es _ }
placed-task es n (task c (do_all ts)) s = record { lists = holds-both es (begin n ts) ts (holds-list es n ts s); branches = holds-none es _ }
placed-task es n (task c (emit x)) s = record { lists = λ r. holds-none es _; branches = holds-none es _ }
placed-task es n (task c (for l ts)) s = record { lists = holds-both es (begin n ts) ts (holds-list es n ts s); branches = holds-none es _ }
placed-task es n (task c (fork x ts)) s = record { lists = λ r. holds-none es _; branches = holds-list es n ts s }
placed-task es n (task c (listen x)) s = record { lists = λ r. holds-none es _; branches = holds-none es _ }
placed-task es n (task c (raise x)) s = record { lists = λ r. holds-none es _; branches = holds-none es _ }
placed-task es n (task c (run x)) s = record { lists = λ r. holds-none es _; branches = holds-none es _ }
placed-task es n (task c (set x)) s = record { lists = λ r. holds-none es _; branches = holds-none es _ }
placed-task es n (task c (switch x)) s = record { lists = λ r. holds-none es _; branches = holds-none es _ }
placed-task es n (task c (try x ts h)) s =
    let a = with_own n ts (inside n ts) in
    let b = inside_handler (behind n ts) h in
    let tried : Holds es (begin n ts) ts = holds-list es n ts (stand-left es n a b s) in
    let handled : Holds es (handler_begin (behind n ts) h) (tasks_of_handler h) =
    holds-handler es (behind n ts) h (stand-right es n (behind n ts) a b (omega (arith, length-all n ts)) s) in
    record { lists = placed-try es n c x ts h tried handled; branches = holds-none es _ }
placed-task es n (task c (wait x)) s = record { lists = λ r. holds-none es _; branches = holds-none es _ }

all-append : (es xs ys : List Entry) → AllByRecursion (IsPlaced es) xs → AllByRecursion (IsPlaced es) ys → AllByRecursion (IsPlaced es) (xs ++ ys)
all-append es [] ys a b = b
all-append es (x ∷ xs) ys a b = (a.0, all-append es xs ys a.1 b)

-- the tasks of a list, from a place on
placed-own : (es : List Entry) (n : ℕ) (ts : Tasks) (i : ℕ) (us : Tasks) → ((k : ℕ) → task_at ts (i + k) ≡ task_at us k) → Stand es n (inside n us) → AllByRecursion (IsPlaced es) (own ts i (begins_of n us))
placed-own es n ts i no_tasks same s = tt
placed-own es n ts i (named k t us) same s =
    let here : task_at ts i ≡ Some t = ap (task_at ts) (omega arith) ∙ same zero in
    let m = n + inner_task t in
    let rest = stand-right es n m (inside_task n t) (inside m us) (ap (λ l. n + l) (length-inside_task n t)) s in (
      subst (λ (o : Option Task). IsPlaced es (record { task = or_nothing o; begins = begins n t })) (sym here) (placed-task es n t (stand-left es n (inside_task n t) (inside m us) s)),
      placed-own es m ts (i + 1) us (λ j. ap (task_at ts) (omega arith) ∙ same (suc j)) rest,
    )

placed-with : (es : List Entry) (n : ℕ) (ts : Tasks) → Stand es n (with_own n ts (inside n ts)) → AllByRecursion (IsPlaced es) (inside n ts) → AllByRecursion (IsPlaced es) (with_own n ts (inside n ts))
placed-with es n ts s a =
    all-append es (inside n ts) (own ts 0 (begins_of n ts)) a (placed-own es n ts 0 ts (λ k. ap (task_at ts) (omega arith)) (stand-left es n (inside n ts) (own ts 0 (begins_of n ts)) s))

mutual
  placed-inside : (es : List Entry) (n : ℕ) (ts : Tasks) → Stand es n (inside n ts) → AllByRecursion (IsPlaced es) (inside n ts)
  placed-inside es n no_tasks s = tt
  placed-inside es n (named k t ts) s =
      let m = n + inner_task t in
      let rest = stand-right es n m (inside_task n t) (inside m ts) (ap (λ l. n + l) (length-inside_task n t)) s in
      all-append es (inside_task n t) (inside m ts) (placed-inside_task es n t (stand-left es n (inside_task n t) (inside m ts) s)) (placed-inside es m ts rest)

  placed-inside_task : (es : List Entry) (n : ℕ) (t : Task) → Stand es n (inside_task n t) → AllByRecursion (IsPlaced es) (inside_task n t)
  placed-inside_task es n (task c k) s = placed-inside_kind es n k s

  pub placed-inside_kind : (es : List Entry) (n : ℕ) (k : Kind) → Stand es n (inside_kind n k) → AllByRecursion (IsPlaced es) (inside_kind n k)
  placed-inside_kind es n (call c) s = tt
  placed-inside_kind es n (do_all ts) s = placed-with es n ts s (placed-inside es n ts (stand-left es n (inside n ts) (own ts 0 (begins_of n ts)) s))
  placed-inside_kind es n (emit e) s = tt
  placed-inside_kind es n (for l ts) s = placed-with es n ts s (placed-inside es n ts (stand-left es n (inside n ts) (own ts 0 (begins_of n ts)) s))
  placed-inside_kind es n (fork c ts) s = placed-with es n ts s (placed-inside es n ts (stand-left es n (inside n ts) (own ts 0 (begins_of n ts)) s))
  placed-inside_kind es n (listen l) s = tt
  placed-inside_kind es n (raise e) s = tt
  placed-inside_kind es n (run x) s = tt
  placed-inside_kind es n (set e) s = tt
  placed-inside_kind es n (switch cs) s = tt
  placed-inside_kind es n (try c ts h) s =
      let a = with_own n ts (inside n ts) in
      let b = inside_handler (behind n ts) h in
      let left = stand-left es n a b s in
      all-append es a b (placed-with es n ts left (placed-inside es n ts (stand-left es n (inside n ts) (own ts 0 (begins_of n ts)) left)))
      (placed-inside_handler es (behind n ts) h (stand-right es n (behind n ts) a b (omega (arith, length-all n ts)) s))
  placed-inside_kind es n (wait d) s = tt

  placed-inside_handler : (es : List Entry) (n : ℕ) (h : Handler) → Stand es n (inside_handler n h) → AllByRecursion (IsPlaced es) (inside_handler n h)
  placed-inside_handler es n no_handler s = tt
  placed-inside_handler es n (handler ts) s = placed-with es n ts s (placed-inside es n ts (stand-left es n (inside n ts) (own ts 0 (begins_of n ts)) s))

abbrev entry_or : Entry → Option Entry → Entry
entry_or x None = x
entry_or x (Some e) = e

all-get : (es xs : List Entry) (k : ℕ) (e : Entry) → AllByRecursion (IsPlaced es) xs → slice_get xs k ≡ Some e → IsPlaced es e
all-get es [] k e a p = cc
all-get es (x ∷ xs) zero e a p = subst (λ (o : Option Entry). IsPlaced es (entry_or x o)) p a.0
all-get es (x ∷ xs) (suc k) e a p = all-get es xs k e a.1 p

-- the tasks of lists stand behind the workflow, and the functions behind the others
stand-listed : (d : Document) → Stand (entries d) 1 (listed_entries d)
stand-listed d k _ = ap (slice_get (entries d)) {y = suc k} (omega arith)

stand-functions : (d : Document) → Stand (entries d) (behind 1 d.tasks) (all (behind 1 d.tasks) d.functions)
stand-functions d =
    stand-right (entries d) 1 (behind 1 d.tasks) (all 1 d.tasks) (all (behind 1 d.tasks) d.functions) (omega (arith, length-all 1 d.tasks)) (stand-listed d)

-- the function of a place
pub function-at : (d : Document) (i : ℕ) → i < count d.functions → numbered d (functions_begin d + i) ≡ task_at d.functions i
function-at d i lt = holds-list (entries d) (behind 1 d.tasks) d.functions (stand-functions d) i lt

-- of every task of a document
pub placed : (d : Document) (n : ℕ) (e : Entry) → slice_get (entries d) n ≡ Some e → IsPlaced (entries d) e
placed d n e p =
    let es = entries d in
    let m = behind 1 d.tasks in
    let own = stand-left es 1 (all 1 d.tasks) (all m d.functions) (stand-listed d) in
    all-get es es n e
    (placed-task es 1 (workflow d) own, all-append es (all 1 d.tasks) (all m d.functions) (placed-inside_kind es 1 (do_all d.tasks) own) (placed-inside_kind es m (do_all d.functions) (stand-functions d))) p

-- where an entry is found
pub row-entry : (d : Document) (rs : List Row) (n : ℕ) (r : Row) → entries_of rs ≡ listed_entries d → (n ≡ 0 → ⊥) → slice_get rs (n - 1) ≡ Some r → slice_get (entries d) n ≡ Some (entry_of r)
row-entry d rs zero r p above q = absurd (above refl)
row-entry d rs (suc k) r p above q =
    ap (λ es. slice_get es k) (sym p) ∙ slice_get-map entry_of rs k ∙ ap (option_map entry_of) (ap (slice_get rs) (omega arith) ∙ q)

abbrev begins_or : Begins → Option Begins → Begins
begins_or b None = b
begins_or b (Some c) = c

whole-entry : (o : Option Entry) (t : Task) (b : Begins) → option_map (λ e. e.task) o ≡ Some t → option_map (λ e. e.begins) o ≡ Some b → o ≡ Some (record { task = t; begins = b })
whole-entry None t b p q = cc
whole-entry (Some e) t b p q = λ i. Some (record { task = ap or_nothing p i; begins = ap (begins_or b) q i })

-- the task of a place of a list
pub child-at : (d : Document) (n : ℕ) (t : Task) (b : Begins) (r : Round) (i : ℕ) → numbered d n ≡ Some t → option_map (λ e. e.begins) (slice_get (entries d) n) ≡ Some b → i < count (list_of t r)
    → numbered d (begin_of r b + i) ≡ task_at (list_of t r) i
child-at d n t b r i p q lt = (placed d n (record { task = t; begins = b }) (whole-entry (slice_get (entries d) n) t b p q)).lists r i lt

pub branch-at : (d : Document) (n : ℕ) (t : Task) (b : Begins) (i : ℕ) → numbered d n ≡ Some t → option_map (λ e. e.begins) (slice_get (entries d) n) ≡ Some b → i < count (branches_of t)
    → numbered d (b.tasks + i) ≡ task_at (branches_of t) i
branch-at d n t b i p q lt = (placed d n (record { task = t; begins = b }) (whole-entry (slice_get (entries d) n) t b p q)).branches i lt

some-within : (es : List Entry) (k n : ℕ) → n ≡ length es → is_some (option_map (λ e. e.task) (slice_get es k)) ≡ true → k < n
some-within [] k n e q = cc
some-within (x ∷ es) zero n e q = omega (arith, e)
some-within (x ∷ es) (suc k) n e q = omega (arith, e, some-within es k (length es) refl q)

-- a number is below that of all tasks
pub numbered-within : (d : Document) (rs : List Row) (n : ℕ) → entries_of rs ≡ listed_entries d → is_some (numbered d n) ≡ true → n ≤ length rs
numbered-within d rs zero p q = omega arith
numbered-within d rs (suc k) p q = some-within (listed_entries d) k (length rs) (sym (length-entries rs) ∙ ap length p) q

-- that task is there
pub child-there : (d : Document) (n : ℕ) (t : Task) (b : Begins) (r : Round) (i : ℕ) → numbered d n ≡ Some t → option_map (λ e. e.begins) (slice_get (entries d) n) ≡ Some b → i < count (list_of t r)
    → is_some (numbered d (begin_of r b + i)) ≡ true
child-there d n t b r i p q lt = ap is_some (child-at d n t b r i p q lt) ∙ count-some (list_of t r) i lt

pub branch-there : (d : Document) (n : ℕ) (t : Task) (b : Begins) (i : ℕ) → numbered d n ≡ Some t → option_map (λ e. e.begins) (slice_get (entries d) n) ≡ Some b → i < count (branches_of t)
    → is_some (numbered d (b.tasks + i)) ≡ true
branch-there d n t b i p q lt = ap is_some (branch-at d n t b i p q lt) ∙ count-some (branches_of t) i lt
