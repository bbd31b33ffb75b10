-- The lines of a job of so many loop turns: one document, and for each hundred turns that begin one instance that adds their numbers.
use Rattle.std.specs.Prelude.{◌==◌, ◌+◌, ◌-◌, ◌*◌, ◌/◌, ◌++◌, ◌∷◌, ℕ, zero, suc, List, [], codes, min, if◌then◌else◌}
use Rattle.std.specs.Fmt.{decimal}

-- a document that adds the numbers of `items` to `n`, in a race that a wait of two days loses, in one that a wait of a day loses
abbrev pub document_text : List ℕ
document_text = codes "{\"document\":{\"dsl\":\"1.0.0\",\"namespace\":\"make\",\"name\":\"gen\",\"version\":\"1.0.0\"},\"do\":[{\"outer\":{\"fork\":{\"compete\":true,\"branches\":[{\"slow\":{\"wait\":{\"days\":1}}},{\"work\":{\"do\":[{\"inner\":{\"fork\":{\"compete\":true,\"branches\":[{\"rest\":{\"wait\":{\"days\":2}}},{\"loop\":{\"for\":{\"in\":\".items\"},\"do\":[{\"add\":{\"set\":{\"n\":\"${ .n + $item }\"}}}]}}]}}}]}}]}}}]}"

abbrev pub load_line : List ℕ
load_line = codes "load " ++ document_text

-- a comma, where so many stand before
abbrev pub comma : ℕ → List ℕ
comma zero = []
comma (suc n) = codes ","

-- so many numbers from the first on, with commas between
abbrev pub numbers : ℕ → ℕ → List ℕ
numbers first zero = []
numbers first (suc n) = numbers first n ++ (comma n ++ decimal (first + n))

-- how many turns are of the instance of a number, from 0
abbrev pub turns_of : ℕ → ℕ → ℕ
turns_of turns k = min (100 * k + 100) turns - 100 * k

abbrev pub start_line : ℕ → ℕ → List ℕ
start_line turns k = codes "start g" ++ (decimal k ++ (codes " make gen 1.0.0 {\"items\":[" ++ (numbers (100 * k + 1) (turns_of turns k) ++ codes "],\"n\":0}")))

abbrev pub settle_line : List ℕ
settle_line = codes "settle 1000"

abbrev pub status_line : ℕ → List ℕ
status_line k = codes "status g" ++ decimal k

-- the lines of so many instances from one on
abbrev pub lines_from : ℕ → ℕ → ℕ → List (List ℕ)
lines_from turns k zero = []
lines_from turns k (suc n) = start_line turns k ∷ settle_line ∷ status_line k ∷ lines_from turns (k + 1) n

-- how many instances there are
abbrev pub instances : ℕ → ℕ
instances turns = (turns + 99) / 100

-- all lines of so many turns
abbrev pub generated : ℕ → List (List ℕ)
generated turns = load_line ∷ lines_from turns 0 (instances turns)

-- the first line of three of an instance, the second or the third
abbrev pub part : ℕ → ℕ → ℕ → List ℕ
part turns k place = if place == 0 then start_line turns k else (if place == 1 then settle_line else status_line k)
