-- Headers as the members of an object: a name and its value (RFC 9110, section 5).
use Rattle.std.specs.Prelude.{ℕ, suc, List, [], ◌∷◌, ◌++◌, codes, Option, Some, None, option_map, Result, Ok, Err}
use Rattle.std.specs.Ordering.{nat_cmp}
use Rattle.std.specs.declared.cmp.Ordering.{Ordering}
use Rattle.std.specs.declared.cmp.Ordering.TheVariants.{Less, Equal, Greater}
use Rattle.std.specs.Cmp.Lexicographic.{slice_cmp}
use Rattle.swf_value.specs.Value.{Value, text, object, Members, no_members, member}
use Rattle.swf_calls.specs.declared.headers.Header.{Header}

abbrev pub header_members : List Header → Members
header_members [] = no_members
header_members (h ∷ hs) = member h.name (text h.value) (header_members hs)

-- headers are texts
abbrev pub headers_in : Members → Option (List Header)
headers_in no_members = Some []
headers_in (member k (text t) ms) = option_map (λ hs. (record { name = k; value = t }) ∷ hs) (headers_in ms)
headers_in (member k v ms) = None

abbrev pub headers_of : Value → Option (List Header)
headers_of (object ms) = headers_in ms
headers_of v = None

-- a field before a header, with it as `both` says, or behind it
abbrev pub placed : (Header → Header → Header) → Ordering → Header → Header → List Header → List Header → List Header
placed both Less field h hs more = field ∷ h ∷ hs
placed both Equal field h hs more = both h field ∷ hs
placed both Greater field h hs more = h ∷ more

-- ascending headers with one more field; where its name is there already, `both` says what stands there
abbrev pub set_field : (Header → Header → Header) → Header → List Header → List Header
set_field both field [] = field ∷ []
set_field both field (h ∷ hs) = placed both (slice_cmp nat_cmp field.name h.name) field h hs (set_field both field hs)

-- the value of a field behind that of a header (RFC 9110, section 5.2)
abbrev pub joined : Header → Header → Header
joined h field = record { name = field.name; value = h.value ++ codes ", " ++ field.value }

-- the field alone
abbrev pub later_field : Header → Header → Header
later_field h field = field

-- one more field, whose value is joined to that of its name
abbrev pub with_field : Header → List Header → List Header
with_field field hs = set_field joined field hs

-- one more field, in the stead of that of its name
abbrev pub put_field : Header → List Header → List Header
put_field field hs = set_field later_field field hs

-- one place further where a name stands behind a header
abbrev pub stepped : Ordering → Result ℕ ℕ → Result ℕ ℕ
stepped Less place = Err 0
stepped Equal place = Ok 0
stepped Greater (Ok n) = Ok (suc n)
stepped Greater (Err n) = Err (suc n)

-- where a name stands among headers, or would stand
abbrev pub place_in : List ℕ → List Header → Result ℕ ℕ
place_in name [] = Err 0
place_in name (h ∷ hs) = stepped (slice_cmp nat_cmp name h.name) (place_in name hs)
