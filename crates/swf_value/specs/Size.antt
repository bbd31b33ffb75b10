-- How large a value is.
use Rattle.std.specs.Prelude.{ℕ, suc, ◌+◌}
use Rattle.swf_text.specs.Size.{bytes_in}
use Rattle.swf_value.specs.Value.{Value, null, boolean, int, text, list, object, Items, no_items, item, Members, no_members, member}

-- one for each value inside and for itself, and one for each byte of the texts and names
abbrev mutual
  pub size : Value → ℕ
  size null = 1
  size (boolean b) = 1
  size (int z) = 1
  size (text t) = suc (bytes_in t)
  size (list ds) = suc (size_items ds)
  size (object ms) = suc (size_members ms)

  pub size_items : Items → ℕ
  size_items no_items = 0
  size_items (item d ds) = size d + size_items ds

  pub size_members : Members → ℕ
  size_members no_members = 0
  size_members (member k d ms) = bytes_in k + size d + size_members ms
