-- The functions of a document stand behind its tasks, and that of a name at the place that the name has.
use Rattle.std.proofs.Common.{◌≡◌, ◌∙◌, ◌++◌, ◌+◌, ◌<◌, ℕ, zero, suc, List, [], length, Bool, true, false, Some, ap, arith, refl, sym}
use Rattle.std.specs.Prelude.{is_some, if◌then◌else◌, option_and_then}
use Rattle.std.proofs.lemmas.Option.{same_Some}
use Rattle.swf_text.specs.Same.{same}
use Rattle.swf_document.specs.Task.{Tasks, no_tasks, named}
use Rattle.swf_document.specs.declared.document.Document.{Document}
use Rattle.swf_meaning.specs.Function.{function_in}
use Rattle.swf_meaning.specs.Next.{place_from, task_at}
use Rattle.swf_catalog.specs.Numbers.{all, begin, count, functions_begin, listed_entries, numbered}
use Rattle.swf_catalog.specs.Rows.{entries_of}
use Rattle.swf_catalog.specs.declared.row.Row.{Row}
use Rattle.swf_catalog.proofs.NumberLemmas.{count-some, next-all}
use Rattle.swf_catalog.proofs.ChildLemmas.{function-at}

found-from : (n : List ℕ) (us ts : Tasks) (k : ℕ) → ((j : ℕ) → task_at us (k + j) ≡ task_at ts j) → function_in n ts ≡ option_and_then (task_at us) (place_from k n ts)
found-from n us no_tasks k h = refl
found-from n us (named x t ts) k h = by (same x n) (found-from n us ts (k + 1) (λ j. ap (task_at us) (omega arith) ∙ h (suc j)))
  where
    by : (b : Bool) → function_in n ts ≡ option_and_then (task_at us) (place_from (k + 1) n ts) → (if b then Some t else function_in n ts) ≡ option_and_then (task_at us) (if b then Some k else place_from (k + 1) n ts)
    by true rest = sym (ap (task_at us) (omega arith) ∙ h zero)
    by false rest = rest

pub function-found : (n : List ℕ) (ts : Tasks) → function_in n ts ≡ option_and_then (task_at ts) (place_from zero n ts)
function-found n ts = found-from n ts ts zero (λ j. ap (task_at ts) (omega arith))

-- a place that is found is one of the list
place-from : (n : List ℕ) (ts : Tasks) (k i : ℕ) → place_from k n ts ≡ Some i → i < k + count ts
place-from n no_tasks k i e = cc
place-from n (named x t ts) k i e = by (same x n) (place-from n ts (k + 1) i) e
  where
    by : (b : Bool) → (place_from (k + 1) n ts ≡ Some i → i < k + 1 + count ts) → (if b then Some k else place_from (k + 1) n ts) ≡ Some i → i < k + suc (count ts)
    by true rest p = omega (arith, same_Some k i p)
    by false rest p = omega (arith, rest p)

place-within : (n : List ℕ) (ts : Tasks) (i : ℕ) → place_from zero n ts ≡ Some i → i < count ts
place-within n ts i e = omega (arith, place-from n ts zero i e)

-- the function of a name has the number of its place
pub function-numbered : (d : Document) (n : List ℕ) (b i : ℕ) → b ≡ functions_begin d → place_from zero n d.functions ≡ Some i → numbered d (b + i) ≡ function_in n d.functions
function-numbered d n b i e p =
    ap (λ m. numbered d (m + i)) e ∙ function-at d i (place-within n d.functions i p) ∙ sym (function-found n d.functions ∙ ap (option_and_then (task_at d.functions)) p)

-- and is there
pub function-there : (d : Document) (n : List ℕ) (b i : ℕ) → b ≡ functions_begin d → place_from zero n d.functions ≡ Some i → is_some (numbered d (b + i)) ≡ true
function-there d n b i e p =
    let within : i < count d.functions = place-within n d.functions i p in
    ap (λ m. is_some (numbered d (m + i))) e ∙ ap is_some (function-at d i within) ∙ count-some d.functions i within

-- the rows of the functions come behind those of the tasks
pub functions-next : (d : Document) (rs : List Row) → entries_of rs ≡ all 1 d.tasks → begin (length rs + 1) d.functions ≡ functions_begin d
functions-next d rs p = ap (λ m. begin m d.functions) (next-all [] rs d.tasks p)

pub listed-rows : (d : Document) (rs ss : List Row) → entries_of rs ≡ all 1 d.tasks → entries_of ss ≡ entries_of rs ++ all (length rs + 1) d.functions → entries_of ss ≡ listed_entries d
listed-rows d rs ss p q = let next = next-all [] rs d.tasks p in q ∙ (λ j. p j ++ all (next j) d.functions)
