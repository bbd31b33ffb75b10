-- What a query is answered in a world.
use Rattle.std.specs.Prelude.{ℕ, List, [], ◌∷◌, Bool, codes, Option, Some, None, option_map, if◌then◌else◌}
use Rattle.swf_value.specs.Value.{Value, text, object, Members, no_members, member}
use Rattle.swf_text.specs.Same.{same}
use Rattle.swf_document.specs.Errors.{problem_value}
use Rattle.swf_meaning.specs.Node.{Node, Done, Fault}
use Rattle.swf_meaning.specs.Local.{is_enabled}
use Rattle.swf_meaning.specs.World.{Instance, World}

abbrev pub instance_at : List ℕ → List Instance → Option Instance
instance_at id [] = None
instance_at id (i ∷ is) = if same id i.id then Some i else instance_at id is

abbrev running : Bool → List ℕ
running b = if b then codes "running" else codes "waiting"

-- completed where the tree is done, faulted where it ended in an error, running where it can take a step at that moment, else
-- waiting
abbrev pub status_of : ℕ → Node → List ℕ
status_of now (Done w f) = codes "completed"
status_of now (Fault p) = codes "faulted"
status_of now n = running (is_enabled now n)

abbrev pub with_error : Node → Members → Members
with_error (Fault p) ms = member (codes "error") (problem_value p) ms
with_error n ms = ms

abbrev pub with_output : Node → Members → Members
with_output (Done w f) ms = member (codes "output") w ms
with_output n ms = ms

-- what is reported of an instance at a moment
abbrev pub report : ℕ → Instance → Value
report now i =
    object (member (codes "context") i.context (with_error i.node (member (codes "id") (text i.id)
    (with_output i.node (member (codes "status") (text (status_of now i.node)) no_members)))))

-- the report of the instance of that id; none where there is none
abbrev pub status : World → List ℕ → Option Value
status w id = option_map (report w.now) (instance_at id w.instances)
