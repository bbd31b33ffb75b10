-- How many rows there are, and where they stand.
use Rattle.std.proofs.Common.{◌≡◌, ◌∙◌, ℕ, zero, suc, ◌+◌, ◌<◌, true, List, [], ◌∷◌, ◌++◌, length, drop, refl, ap, sym, arith, append_assoc, length-append}
use Rattle.std.specs.Prelude.{is_some}
use Rattle.swf_document.specs.Task.{Task, task, Tasks, no_tasks, named, Kind, call, do_all, emit, for, fork, listen, raise, run, set, switch, try, wait, Handler, no_handler, handler}
use Rattle.swf_document.specs.TaskNode.{task_of, tasks_of}
use Rattle.swf_document.specs.declared.tasks.Named.{Named}
use Rattle.swf_meaning.specs.Next.{task_at}
use Rattle.swf_catalog.specs.Numbers.{Entry, all, begin, begins, begins_of, behind, count, inner, inner_task, inner_kind, inner_handler, inside, inside_task, inside_kind, inside_handler, own, with_own}
use Rattle.swf_catalog.specs.Rows.{entries_of}
use Rattle.swf_catalog.specs.declared.row.Begins.{Begins}
use Rattle.swf_catalog.specs.declared.row.Row.{Row}

-- a list has a task at each of its places
pub count-some : (ts : Tasks) (i : ℕ) → i < count ts → is_some (task_at ts i) ≡ true
count-some no_tasks i p = let no : ⊥ = omega (arith, p) in absurd no
count-some (named k t ts) zero p = refl
count-some (named k t ts) (suc i) p = count-some ts i (omega arith)

pub count-tasks_of : (ns : List Named) → count (tasks_of ns) ≡ length ns
count-tasks_of [] = refl
count-tasks_of (n ∷ ns) = omega (arith, count-tasks_of ns)

pub length-own : (ts : Tasks) (i : ℕ) (bs : List Begins) → length (own ts i bs) ≡ length bs
length-own ts i [] = refl
length-own ts i (b ∷ bs) = omega (arith, length-own ts (i + 1) bs)

pub length-begins_of : (n : ℕ) (ts : Tasks) → length (begins_of n ts) ≡ count ts
length-begins_of n no_tasks = refl
length-begins_of n (named k t ts) = omega (arith, length-begins_of (n + inner_task t) ts)

pub length-with_own : (n m : ℕ) (ts : Tasks) (es : List Entry) → length es ≡ m → length (with_own n ts es) ≡ m + count ts
length-with_own n m ts es p = omega (arith, length-append es (own ts 0 (begins_of n ts)), length-own ts 0 (begins_of n ts), length-begins_of n ts, p)

mutual
  pub length-inside : (n : ℕ) (ts : Tasks) → length (inside n ts) ≡ inner ts
  length-inside n no_tasks = refl
  length-inside n (named k t ts) =
      omega (arith, length-append (inside_task n t) (inside (n + inner_task t) ts), length-inside_task n t, length-inside (n + inner_task t) ts)

  pub length-inside_task : (n : ℕ) (t : Task) → length (inside_task n t) ≡ inner_task t
  length-inside_task n (task c k) = length-inside_kind n k

  pub length-inside_kind : (n : ℕ) (k : Kind) → length (inside_kind n k) ≡ inner_kind k
  length-inside_kind n (call c) = refl
  length-inside_kind n (do_all ts) = length-with_own n (inner ts) ts (inside n ts) (length-inside n ts)
  length-inside_kind n (emit e) = refl
  length-inside_kind n (for l ts) = length-with_own n (inner ts) ts (inside n ts) (length-inside n ts)
  length-inside_kind n (fork c ts) = length-with_own n (inner ts) ts (inside n ts) (length-inside n ts)
  length-inside_kind n (listen l) = refl
  length-inside_kind n (raise e) = refl
  length-inside_kind n (run s) = refl
  length-inside_kind n (set e) = refl
  length-inside_kind n (switch cs) = refl
  length-inside_kind n (try c ts h) =
      let m = begin n ts + count ts in
      omega (arith, length-append (with_own n ts (inside n ts)) (inside_handler m h), length-with_own n (inner ts) ts (inside n ts) (length-inside n ts), length-inside_handler m h)
  length-inside_kind n (wait d) = refl

  length-inside_handler : (n : ℕ) (h : Handler) → length (inside_handler n h) ≡ inner_handler h
  length-inside_handler n no_handler = refl
  length-inside_handler n (handler ts) = length-with_own n (inner ts) ts (inside n ts) (length-inside n ts)

pub length-all : (n : ℕ) (ts : Tasks) → length (all n ts) ≡ inner ts + count ts
length-all n ts = length-with_own n (inner ts) ts (inside n ts) (length-inside n ts)

pub length-entries : (rs : List Row) → length (entries_of rs) ≡ length rs
length-entries [] = refl
length-entries (r ∷ rs) = omega (arith, length-entries rs)

-- how many rows there are once these are added
pub length-added : (rs ss : List Row) (es : List Entry) → entries_of ss ≡ entries_of rs ++ es → length ss ≡ length rs + length es
length-added rs ss es p = omega (arith, length-entries rs, length-entries ss, ap length p, length-append (entries_of rs) es)

-- the number of the next row
next-inside : (rs ss : List Row) (t : Task) → entries_of ss ≡ entries_of rs ++ inside_task (length rs + 1) t → length ss + 1 ≡ length rs + 1 + inner_task t
next-inside rs ss t p = omega (arith, length-added rs ss (inside_task (length rs + 1) t) p, length-inside_task (length rs + 1) t)

pub next-all : (rs ss : List Row) (ts : Tasks) → entries_of ss ≡ entries_of rs ++ all (length rs + 1) ts → length ss + 1 ≡ behind (length rs + 1) ts
next-all rs ss ts p = omega (arith, length-added rs ss (all (length rs + 1) ts) p, length-all (length rs + 1) ts)

pub next-own : (rs ss : List Row) (ts : Tasks) → entries_of ss ≡ entries_of rs ++ inside (length rs + 1) ts → length ss + 1 ≡ begin (length rs + 1) ts
next-own rs ss ts p = omega (arith, length-added rs ss (inside (length rs + 1) ts) p, length-inside (length rs + 1) ts)

-- one task more, with the tasks inside it
pub more-inside : (ns : List Named) (i : ℕ) (n : Named) (rs ss : List Row) (whole : List Entry) → drop i ns ≡ n ∷ drop (i + 1) ns → entries_of ss ≡ entries_of rs ++ inside_task (length rs + 1) (task_of n.task)
    → entries_of rs ++ inside (length rs + 1) (tasks_of (drop i ns)) ≡ whole → entries_of ss ++ inside (length ss + 1) (tasks_of (drop (i + 1) ns)) ≡ whole
more-inside ns i n rs ss whole first added e =
    let m = length rs + 1 in
    let rest = tasks_of (drop (i + 1) ns) in
    let next = next-inside rs ss (task_of n.task) added in
    (λ j. added j ++ inside (next j) rest) ∙ append_assoc (entries_of rs) (inside_task m (task_of n.task)) (inside (m + inner_task (task_of n.task)) rest)
    ∙ ap (λ (l : List Named). entries_of rs ++ inside m (tasks_of l)) (sym first) ∙ e

pub more-begins : (ns : List Named) (i : ℕ) (n : Named) (rs ss : List Row) (bs cs whole : List Begins) → drop i ns ≡ n ∷ drop (i + 1) ns → entries_of ss ≡ entries_of rs ++ inside_task (length rs + 1) (task_of n.task)
    → cs ≡ bs ++ begins (length rs + 1) (task_of n.task) ∷ [] → bs ++ begins_of (length rs + 1) (tasks_of (drop i ns)) ≡ whole → cs ++ begins_of (length ss + 1) (tasks_of (drop (i + 1) ns)) ≡ whole
more-begins ns i n rs ss bs cs whole first added pushed e =
    let m = length rs + 1 in
    let rest = tasks_of (drop (i + 1) ns) in
    let next = next-inside rs ss (task_of n.task) added in
    (λ j. pushed j ++ begins_of (next j) rest) ∙ append_assoc bs (begins m (task_of n.task) ∷ []) (begins_of (m + inner_task (task_of n.task)) rest)
    ∙ ap (λ (l : List Named). bs ++ begins_of m (tasks_of l)) (sym first) ∙ e

-- a place of a slice is one of its list
pub within-list : (ns : List Named) (i : ℕ) (ts : Tasks) → tasks_of ns ≡ ts → i < length ns → i < count ts
within-list ns i ts e p = omega (arith, p, count-tasks_of ns, ap count e)
