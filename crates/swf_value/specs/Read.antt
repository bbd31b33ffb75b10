-- What reading bytes as a value answers, over the JSON that `serde_json` reads (RFC 8259).
use Rattle.std.specs.Prelude.{ℕ, ◌&&◌, ℤ, List, Bool, Option, Some, None, Result, Ok, Err, option_map, option_and_then, chars, int_le, neg_ℤ, nat_lt, if◌then◌else◌}
use Rattle.std.specs.Str.{is_utf8}
use Rattle.serde_json.specs.Data as json
use Rattle.serde_json.specs.Read.{read}
use Rattle.serde_json.specs.Find.{as_integer}
use Rattle.swf_value.specs.Value.{Value, null, boolean, int, text, list, object, Items, no_items, item, Members, no_members, member, greatest}
use Rattle.swf_value.specs.declared.fault.ValueFault.{ValueFault}
use Rattle.swf_value.specs.declared.fault.ValueFault.TheVariants.{NotJson, TooDeep, NotWhole}

abbrev pub in_range : ℤ → Bool
in_range z = int_le (neg_ℤ greatest) z && int_le z greatest

-- a whole number in range
abbrev pub whole_number : json.Num → Option Value
whole_number n = option_and_then (λ z. if in_range z then Some (int z) else None) (as_integer n)

-- the value that the data are; none where a number is a float or out of range
abbrev mutual
  pub whole : json.Data → Option Value
  whole json.null = Some null
  whole (json.boolean b) = Some (boolean b)
  whole (json.number n) = whole_number n
  whole (json.string s) = Some (text (chars s))
  whole (json.array ds) = option_map list (whole_items ds)
  whole (json.object ms) = option_map object (whole_members ms)

  pub whole_items : json.Items → Option Items
  whole_items json.no_items = Some no_items
  whole_items (json.item d ds) = option_and_then (λ v. option_map (item v) (whole_items ds)) (whole d)

  pub whole_members : json.Members → Option Members
  whole_members json.no_members = Some no_members
  whole_members (json.member k d ms) = option_and_then (λ v. option_map (member (chars k) v) (whole_members ms)) (whole d)

abbrev pub whole_or_fault : Option Value → Result Value ValueFault
whole_or_fault None = Err NotWhole
whole_or_fault (Some v) = Ok v

abbrev pub value_or_fault : ℕ → Option json.Data → Result Value ValueFault
value_or_fault most None = Err NotJson
value_or_fault most (Some d) = if nat_lt most (json.depth d) then Err TooDeep else whole_or_fault (whole d)

-- the value that the bytes are, or the first of the three faults, where nesting deeper than `most` is too deep
abbrev pub read_within : ℕ → List ℕ → Result Value ValueFault
read_within most bytes = if is_utf8 bytes then value_or_fault most (read bytes) else Err NotJson
