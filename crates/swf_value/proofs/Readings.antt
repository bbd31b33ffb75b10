-- What reading answers, in each case.
use Rattle.std.proofs.Common.{◌≡◌, ◌∙◌, refl, ℕ, ◌≤◌, List, Bool, true, false, Some, None, Option, Err, IsUtf8, le-ltb}
use Rattle.std.proofs.lemmas.Str.{IsUtf8-from_is_utf8, is_utf8-from_IsUtf8}
use Rattle.std.specs.Str.{is_utf8}
use Rattle.serde_json.specs.Data.{Data, depth}
use Rattle.serde_json.specs.Read.{read}
use Rattle.swf_value.specs.Value.{Value}
use Rattle.swf_value.specs.Read.{whole, whole_or_fault, value_or_fault, read_within}
use Rattle.swf_value.specs.declared.fault.ValueFault.TheVariants.{NotJson}

not_json_by : (most : ℕ) (bytes : List ℕ) (b : Bool) → is_utf8 bytes ≡ b → (IsUtf8 bytes → read bytes ≡ None) → read_within most bytes ≡ Err NotJson
not_json_by most bytes true e refused = rw (e, refused (IsUtf8-from_is_utf8 bytes e)) refl
not_json_by most bytes false e refused = rw e refl

pub not_json : (most : ℕ) (bytes : List ℕ) → (IsUtf8 bytes → read bytes ≡ None) → read_within most bytes ≡ Err NotJson
not_json most bytes refused = not_json_by most bytes _ refl refused

pub read_is : (most : ℕ) (bytes : List ℕ) (d : Data) → IsUtf8 bytes × (read bytes ≡ Some d) → read_within most bytes ≡ value_or_fault most (Some d)
read_is most bytes d h = rw (is_utf8-from_IsUtf8 bytes h.0, h.1) refl

pub shallow : (most : ℕ) (bytes : List ℕ) (d : Data) (o : Option Value) → IsUtf8 bytes × (read bytes ≡ Some d) → depth d ≤ most → o ≡ whole d → read_within most bytes ≡ whole_or_fault o
shallow most bytes d o h within e = read_is most bytes d h ∙ rw (le-ltb most (depth d) within, e) refl
