-- Why a value is no event: its first fault in order (CloudEvents 1.0.2, "Context Attributes", "Naming Conventions" and "Type
-- System"; JSON Event Format 1.0.2, sections 2 and 3).
use Rattle.std.specs.Prelude.{◌&&◌, ◌||◌, ◌-◌, ◌^◌, ℕ, ℤ, pos, neg_ℤ, int_le, List, [], ◌∷◌, ◌++◌, Bool, true, false, codes, length, nat_lt, Option, Some, None, is_some, if◌then◌else◌}
use Rattle.std.specs.List.{list_all, list_any}
use Rattle.swf_text.specs.Ascii.{is_digit, is_lower}
use Rattle.swf_text.specs.Same.{same}
use Rattle.swf_value.specs.Members.{at}
use Rattle.swf_value.specs.Value.{Value, null, boolean, int, text, Members, no_members, member}
use Rattle.swf_cloudevents.specs.Base64.{is_base64}
use Rattle.swf_cloudevents.specs.Time.{is_time}
use Rattle.swf_cloudevents.specs.declared.fault.FaultKind.{FaultKind}
use Rattle.swf_cloudevents.specs.declared.fault.FaultKind.TheVariants.{Missing, WrongKind, Empty, BadValue, Conflict, BadName}

-- an attribute and what is wrong with it
abbrev pub Fault : Type 0
Fault = List ℕ × FaultKind

abbrev one : List ℕ → FaultKind → List Fault
one k f = (k, f) ∷ []

-- null stands for an attribute that is not there
abbrev pub unless_null : Option Value → Option Value
unless_null (Some null) = None
unless_null v = v

-- the value of an attribute
abbrev pub attribute : List ℕ → Members → Option Value
attribute k ms = unless_null (at k ms)

-- a text of at least one character
abbrev pub text_faults : List ℕ → Value → List Fault
text_faults k (text []) = one k Empty
text_faults k (text (c ∷ t)) = []
text_faults k v = one k WrongKind

abbrev pub required : List ℕ → Option Value → List Fault
required k None = one k Missing
required k (Some v) = text_faults k v

abbrev pub optional : List ℕ → Option Value → List Fault
optional k None = []
optional k (Some v) = text_faults k v

-- a version other than 1.0
abbrev pub other_version : Option Value → List Fault
other_version (Some (text t)) = if same t (codes "1.0") then [] else one (codes "specversion") BadValue
other_version v = []

-- an instant
abbrev pub time_faults : Option Value → List Fault
time_faults None = []
time_faults (Some (text t)) = if is_time t then [] else one (codes "time") BadValue
time_faults (Some v) = one (codes "time") WrongKind

-- data as base64, which stands in place of `data`; a null is data too
abbrev pub base64_faults : Option Value → Option Value → List Fault
base64_faults given None = []
base64_faults given (Some (text t)) = if is_base64 t then (if is_some given then one (codes "data_base64") Conflict else []) else one (codes "data_base64") BadValue
base64_faults given (Some v) = one (codes "data_base64") WrongKind

-- the attributes that this version of the standard names, and data
abbrev pub known : List (List ℕ)
known =
    codes "data" ∷ codes "data_base64" ∷ codes "datacontenttype" ∷ codes "dataschema" ∷ codes "id" ∷ codes "source" ∷ codes "specversion"
    ∷ codes "subject" ∷ codes "time" ∷ codes "type" ∷ []

abbrev pub is_known : List ℕ → Bool
is_known k = list_any (same k) known

-- a name is of lower-case letters and digits
abbrev pub is_name : List ℕ → Bool
is_name k = nat_lt 0 (length k) && list_all (λ c. is_lower c || is_digit c) k

-- an integer of 32 bits
abbrev pub is_int32 : ℤ → Bool
is_int32 z = int_le (neg_ℤ (pos (2 ^ 31))) z && int_le z (pos (2 ^ 31 - 1))

-- the value of an extension is a text, a Boolean or an integer of 32 bits
abbrev pub is_simple : Value → Bool
is_simple (text t) = true
is_simple (boolean b) = true
is_simple (int z) = is_int32 z
is_simple v = false

-- an extension by its name and its value
abbrev pub extension_faults : List ℕ → Option Value → List Fault
extension_faults k None = []
extension_faults k (Some v) = if is_name k then (if is_simple v then [] else one k WrongKind) else one k BadName

-- those of all other members, ascending
abbrev pub other_faults : Members → List Fault
other_faults no_members = []
other_faults (member k v ms) = (if is_known k then [] else extension_faults k (unless_null (Some v))) ++ other_faults ms

-- what is wrong with the members of an event, in order
abbrev pub faults : Members → List Fault
faults ms =
    required (codes "id") (attribute (codes "id") ms)
    ++ (required (codes "source") (attribute (codes "source") ms)
    ++ (required (codes "specversion") (attribute (codes "specversion") ms)
    ++ (other_version (attribute (codes "specversion") ms)
    ++ (required (codes "type") (attribute (codes "type") ms)
    ++ (optional (codes "datacontenttype") (attribute (codes "datacontenttype") ms)
    ++ (optional (codes "dataschema") (attribute (codes "dataschema") ms)
    ++ (optional (codes "subject") (attribute (codes "subject") ms)
    ++ (time_faults (attribute (codes "time") ms)
    ++ (base64_faults (at (codes "data") ms) (attribute (codes "data_base64") ms)
    ++ other_faults ms)))))))))
