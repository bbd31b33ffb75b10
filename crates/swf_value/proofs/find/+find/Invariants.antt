use Rattle.std.proofs.Common.{◌≡◌, ℕ, ◌+◌, ◌-◌, ◌*◌, ◌≤◌, length}
use Rattle.json.specs.Json.{items, members, value}
use Rattle.serde_json.specs.Data.{Members, no_members}
use Rattle.serde_json.specs.Read.{of_items, of_members, converted}
use Rattle.swf_value.specs.Found.{MembersFound}
use Rattle.swf_value.proofs.Finds.{ItemsLeft}
use Rattle.swf_value.proofs.find.+find.Given as goal

abbrev pub decreases-find_next : goal.decreases-find_next
decreases-find_next l = 2 * l.depth + 1

abbrev pub decreases-find_list : goal.decreases-find_list
decreases-find_list l = 2 * l.depth

abbrev pub decreases-find_object : goal.decreases-find_object
decreases-find_object l = 2 * l.depth

abbrev pub invariant-find_list-items : goal.invariant-find_list-items
invariant-find_list-items l =
    (n : ℕ) × (length l.reader ≤ n)
    × ItemsLeft (converted of_items (items (value (l.depth - 1)) (length l.initial.reader) l.initial.reader)) (converted of_items (items (value (l.depth - 1)) n l.reader)) l.found.items
    × (length l.reader ≤ length l.initial.reader)

abbrev pub decreases-find_list-items : goal.decreases-find_list-items
decreases-find_list-items l = length l.reader

abbrev pub invariant-find_object-members : goal.invariant-find_object-members
invariant-find_object-members l =
    (n : ℕ) × (length l.reader ≤ n)
    × ((ms : Members) × MembersFound ms l.found.entries
    × (converted (λ xs. of_members xs no_members) (members (value (l.depth - 1)) (length l.initial.reader) l.initial.reader) ≡ converted (λ xs. of_members xs ms) (members (value (l.depth - 1)) n l.reader)))
    × (length l.reader ≤ length l.initial.reader)

abbrev pub decreases-find_object-members : goal.decreases-find_object-members
decreases-find_object-members l = length l.reader
