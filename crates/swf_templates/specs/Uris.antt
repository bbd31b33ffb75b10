-- Where a request goes: a pattern whose names are filled in, and a query behind it (DSL reference, "HTTP Call" and "Endpoint";
-- RFC 6570, section 3.2.2; RFC 3986, sections 2.1 and 2.3).
use Rattle.std.specs.Prelude.{◌==◌, ◌||◌, ◌+◌, ◌/◌, ◌%◌, ℕ, List, [], ◌∷◌, ◌++◌, Bool, true, codes, flat_map, nat_lt, Option, Some, None, Result, Ok, Err, if◌then◌else◌}
use Rattle.std.specs.Char.{is_ascii_alphanumeric}
use Rattle.std.specs.Fmt.{signed_decimal}
use Rattle.std.specs.List.{list_any}
use Rattle.std.specs.Str.{encode_utf8_all}
use Rattle.swf_value.specs.Value.{Value, null, boolean, int, text, list, object, Members, no_members, member}
use Rattle.swf_evaluation.specs.Operations.{index_of}
use Rattle.swf_templates.specs.Fill.{and_then, is_within}
use Rattle.swf_templates.specs.declared.got.Got.{Got}
use Rattle.swf_templates.specs.declared.got.Got.TheVariants as gots

-- a byte that stands for itself: a letter, a digit, `-`, `.`, `_` or `~`
abbrev pub is_unreserved : ℕ → Bool
is_unreserved b = is_ascii_alphanumeric b || list_any (λ c. c == b) (codes "-._~")

-- a digit to base 16, from ten on an upper-case letter
abbrev pub upper_digit : ℕ → ℕ
upper_digit n = if nat_lt n 10 then 48 + n else 55 + n

-- any other is `%` and two digits to base 16
abbrev pub escaped_byte : ℕ → List ℕ
escaped_byte b = if is_unreserved b then b ∷ [] else 37 ∷ upper_digit (b / 16) ∷ upper_digit (b % 16) ∷ []

-- a text with its escapes
abbrev pub escaped : List ℕ → List ℕ
escaped t = flat_map escaped_byte (encode_utf8_all t)

-- the error of a value that nothing stands for
abbrev pub cannot_expand : {A : Type 0} → Got A
cannot_expand = gots.Raised (text (codes "cannot expand"))

-- what stands for a name that has this value
abbrev pub name_text : Value → Got (List ℕ)
name_text null = gots.Value []
name_text (boolean b) = cannot_expand
name_text (int z) = gots.Value (signed_decimal z)
name_text (text t) = gots.Value (escaped t)
name_text (list ds) = cannot_expand
name_text (object ms) = cannot_expand

-- a value, or what is raised
abbrev pub answer_got : Result Value Value → Got Value
answer_got (Ok v) = gots.Value v
answer_got (Err m) = gots.Raised m

-- what stands for a name on an input
abbrev pub named : List ℕ → Value → Got (List ℕ)
named n v = and_then name_text (answer_got (index_of v (text n)))

-- a pattern on an input, where so much of a name was read whose `{` is behind; a `{` without its `}` is left out with what follows
abbrev pub pattern_text : Option (List ℕ) → List ℕ → Value → Got (List ℕ)
pattern_text o [] v = gots.Value []
pattern_text None (c ∷ cs) v = if c == 123 then pattern_text (Some []) cs v else and_then (λ t. gots.Value (c ∷ t)) (pattern_text None cs v)
pattern_text (Some n) (c ∷ cs) v = if c == 125 then and_then (λ w. and_then (λ t. gots.Value (w ++ t)) (pattern_text None cs v)) (named n v) else pattern_text (Some (n ++ c ∷ [])) cs v

-- a value of the query
abbrev pub query_value : Value → Got (List ℕ)
query_value null = cannot_expand
query_value (boolean b) = gots.Value (if b then codes "true" else codes "false")
query_value (int z) = gots.Value (signed_decimal z)
query_value (text t) = gots.Value (escaped t)
query_value (list ds) = cannot_expand
query_value (object ms) = cannot_expand

-- its members by ascending name, behind `?`, or behind `&` where something stands before
abbrev pub query_text : Bool → Members → Got (List ℕ)
query_text later no_members = gots.Value []
query_text later (member k v ms) = and_then (λ w. and_then (λ t. gots.Value ((if later then 38 else 63) ∷ (escaped k ++ 61 ∷ (w ++ t)))) (query_text true ms)) (query_value v)

-- a text within the limits of a value
abbrev pub limited_text : List ℕ → Got (List ℕ)
limited_text t = if is_within (text t) then gots.Value t else gots.TooLarge

-- a URI with a query; it may have a `?` already
abbrev pub with_query : List ℕ → Members → Got (List ℕ)
with_query uri query = and_then (λ t. limited_text (uri ++ t)) (query_text (list_any (λ c. c == 63) uri) query)

-- the URI that a pattern and a query give on an input: first the names of the pattern, then the query
abbrev pub uri_of : List ℕ → Members → Value → Got (List ℕ)
uri_of pattern query v = and_then (λ uri. with_query uri query) (pattern_text None pattern v)
