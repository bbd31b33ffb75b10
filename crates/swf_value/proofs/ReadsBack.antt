-- The text of a value is read as that value.
use Rattle.std.proofs.Common.{◌≡◌, ◌∙◌, ap, ap₂, sym, refl, ℕ, suc, max, ◌≤◌, pos, negsuc, ℤ, List, [], ◌∷◌, ◌++◌, Bool, true, false, Option, Some, option_map, option_and_then, Greater, nat_cmp, IsUtf8, append-nil, arith}
use Rattle.std.proofs.lemmas.Cmp.{nat_list_cmp_total}
use Rattle.std.proofs.lemmas.Fmt.{IsAscii-signed}
use Rattle.std.proofs.lemmas.Str.{IsUtf8-append, IsUtf8-nil, IsUtf8-from_ascii}
use Rattle.std.specs.Cmp.Lexicographic.{slice_cmp}
use Rattle.std.specs.Ordering.{ordering_reverse}
use Rattle.std.specs.Str.{encode_utf8_all, all_scalars}
use Rattle.json.specs.Json as grammar
use Rattle.json.specs.Lex.{tokens}
use Rattle.json.specs.Print as print
use Rattle.json.specs.Token.{Token}
use Rattle.json.specs.Tree as tree
use Rattle.json.proofs.Printed.Decimals.{IsNumber-decimal, IsNumber-signed_decimal}
use Rattle.json.proofs.Printed.Tokens.{tokens-print}
use Rattle.json.proofs.Printed.Trees.{value-json_tokens, ArePrintable-json_tokens}
use Rattle.json.proofs.Printed.Utf8.{IsUtf8-quoted, IsUtf8-are_ascii}
use Rattle.serde_json.specs.Data as json
use Rattle.serde_json.specs.Find.{of_integer}
use Rattle.serde_json.specs.Read.{number_of, of_json, of_items, of_members, read}
use Rattle.serde_json.specs.Written.{number_text, outline, items_outline, members_outline}
use Rattle.serde_json.proofs.Numbers.{number_of-decimal, number_of-negative}
use Rattle.serde_json.proofs.Texts.{print-outline}
use Rattle.swf_value.specs.Value.{Value, null, boolean, int, text, list, object, Items, no_items, item, Members, no_members, member, InRange, IsBefore, LeadsMembers, Ascending, IsValue, AreItems, AreMembers, depth, depth_items, depth_members}
use Rattle.swf_value.specs.Written.{quoted, comma, written, written_items, written_members}
use Rattle.swf_value.proofs.Compact.{quoted_is, written_is}
use Rattle.swf_value.proofs.Data.{data_of, items_data, members_data, mag-in_range}
use Rattle.swf_text.proofs.Utf8Order.{order-encode_utf8_all}

-- ---- numbers

number_read : (z : ℤ) → InRange z → number_of (number_text (of_integer z)) ≡ Some (of_integer z)
number_read (pos n) h = number_of-decimal n (omega (arith, mag-in_range (pos n) h))
number_read (negsuc n) h = number_of-negative n (omega (arith, mag-in_range (negsuc n) h))

is_number : (z : ℤ) → InRange z → print.IsNumber (number_text (of_integer z))
is_number (pos n) h = IsNumber-decimal n (omega (arith, mag-in_range (pos n) h))
is_number (negsuc n) h = IsNumber-signed_decimal (negsuc n) (omega (arith, mag-in_range (negsuc n) h))

-- ---- members go in at the end

-- each name stands before this one
abbrev AllBefore : json.Members → List ℕ → Type 0
AllBefore json.no_members k = Unit {0}
AllBefore (json.member l d ms) k = IsBefore l k × AllBefore ms k

-- these members, and then those
abbrev joined : json.Members → json.Members → json.Members
joined json.no_members more = more
joined (json.member l d ms) more = json.member l d (joined ms more)

put_at_end : (k : List ℕ) (d : json.Data) (ms : json.Members) → AllBefore ms k → json.put k d ms ≡ joined ms (json.member k d json.no_members)
put_at_end k d json.no_members h = refl
put_at_end k d (json.member l e ms) h =
    let after : slice_cmp nat_cmp k l ≡ Greater = nat_list_cmp_total.antisymm k l ∙ ap ordering_reverse h.0 in
    rw after (ap (json.member l e) (put_at_end k d ms h.1))

joined_later : (ms : json.Members) (k : List ℕ) (d : json.Data) (more : json.Members) → joined (joined ms (json.member k d json.no_members)) more ≡ joined ms (json.member k d more)
joined_later json.no_members k d more = refl
joined_later (json.member l e ms) k d more = ap (json.member l e) (joined_later ms k d more)

all_before_later : (ms : json.Members) (k l : List ℕ) (d : json.Data) → AllBefore ms k → IsBefore k l → AllBefore (joined ms (json.member k d json.no_members)) l
all_before_later json.no_members k l d h before = (before, tt)
all_before_later (json.member n e ms) k l d h before = (nat_list_cmp_total.trans n k l h.0 before, all_before_later ms k l d h.1 before)

-- each name stands before the members
abbrev BeforeMembers : json.Members → Members → Type 0
BeforeMembers found no_members = Unit {0}
BeforeMembers found (member k d ms) = AllBefore found (encode_utf8_all k)

before_rest : (found : json.Members) (k : List ℕ) (d : json.Data) (ms : Members) → AllBefore found (encode_utf8_all k) → LeadsMembers k ms → BeforeMembers (joined found (json.member (encode_utf8_all k) d json.no_members)) ms
before_rest found k d no_members h leads = tt
before_rest found k d (member l e ms) h leads = all_before_later found (encode_utf8_all k) (encode_utf8_all l) d h (order-encode_utf8_all k l ∙ leads)

-- ---- the data are read from their outline

joined-no_members : (ms : json.Members) → joined ms json.no_members ≡ ms
joined-no_members json.no_members = refl
joined-no_members (json.member l e ms) = ap (json.member l e) (joined-no_members ms)

mutual
  data_read : (v : Value) → IsValue v → of_json (outline (data_of v)) ≡ Some (data_of v)
  data_read null h = refl
  data_read (boolean b) h = refl
  data_read (int z) h = ap (option_map json.number) (number_read z h)
  data_read (text t) h = refl
  data_read (list ds) h = ap (option_map json.array) (items_read ds h)
  data_read (object ms) h = ap (option_map json.object) (members_read ms json.no_members h.1 h.0 (first_before ms))

  items_read : (ds : Items) → AreItems ds → of_items (items_outline (items_data ds)) ≡ Some (items_data ds)
  items_read no_items h = refl
  items_read (item d ds) h = rw (data_read d h.0, items_read ds h.1) refl

  members_read : (ms : Members) (found : json.Members) → AreMembers ms → Ascending ms → BeforeMembers found ms → of_members (members_outline (members_data ms)) found ≡ Some (joined found (members_data ms))
  members_read no_members found h up before = ap Some (sym (joined-no_members found))
  members_read (member k d ms) found h up before =
      let name = encode_utf8_all k in
      let one = json.member name (data_of d) json.no_members in
      ap (option_and_then (λ e. of_members (members_outline (members_data ms)) (json.put name e found))) (data_read d h.1)
      ∙ ap (of_members (members_outline (members_data ms))) (put_at_end name (data_of d) found before)
      ∙ members_read ms (joined found one) h.2 up.1 (before_rest found k (data_of d) ms before up.0)
      ∙ ap Some (joined_later found name (data_of d) (members_data ms))

  first_before : (ms : Members) → BeforeMembers json.no_members ms
  first_before no_members = tt
  first_before (member k d ms) = tt

mutual
  has_numbers : (v : Value) → IsValue v → tree.HasNumbers (outline (data_of v))
  has_numbers null h = tt
  has_numbers (boolean b) h = tt
  has_numbers (int z) h = is_number z h
  has_numbers (text t) h = tt
  has_numbers (list ds) h = items_have_numbers ds h
  has_numbers (object ms) h = members_have_numbers ms h.1

  items_have_numbers : (ds : Items) → AreItems ds → tree.ItemsHaveNumbers (items_outline (items_data ds))
  items_have_numbers no_items h = tt
  items_have_numbers (item d ds) h = (has_numbers d h.0, items_have_numbers ds h.1)

  members_have_numbers : (ms : Members) → AreMembers ms → tree.MembersHaveNumbers (members_outline (members_data ms))
  members_have_numbers no_members h = tt
  members_have_numbers (member k d ms) h = (has_numbers d h.1, members_have_numbers ms h.2)

mutual
  depth-outline : (v : Value) → tree.depth (outline (data_of v)) ≡ depth v
  depth-outline null = refl
  depth-outline (boolean b) = refl
  depth-outline (int z) = refl
  depth-outline (text t) = refl
  depth-outline (list ds) = ap suc (depth-items_outline ds)
  depth-outline (object ms) = ap suc (depth-members_outline ms)

  depth-items_outline : (ds : Items) → tree.items_depth (items_outline (items_data ds)) ≡ depth_items ds
  depth-items_outline no_items = refl
  depth-items_outline (item d ds) = ap₂ max (depth-outline d) (depth-items_outline ds)

  depth-members_outline : (ms : Members) → tree.members_depth (members_outline (members_data ms)) ≡ depth_members ms
  depth-members_outline no_members = refl
  depth-members_outline (member k d ms) = ap₂ max (depth-outline d) (depth-members_outline ms)

abbrev whole_text : Option (grammar.Json × List Token) → Option json.Data
whole_text o = option_and_then of_json (option_and_then (λ p. grammar.if_last p.0 p.1) o)

-- the text is read as the data
pub read-written : (v : Value) → IsValue v → depth v ≤ 127 → read (written v) ≡ Some (data_of v)
read-written v h shallow =
    let j = outline (data_of v) in
    let printed : tokens (written v) ≡ tree.json_tokens j =
    ap tokens (written_is v ∙ sym (print-outline (data_of v))) ∙ tokens-print (tree.json_tokens j) (ArePrintable-json_tokens j (has_numbers v h)) in
    ap whole_text (ap (grammar.value 127) (printed ∙ sym (append-nil (tree.json_tokens j))) ∙ value-json_tokens j 127 [] (omega (arith, depth-outline v))) ∙ data_read v h

-- ---- the text is UTF-8

IsUtf8-quoted_text : (t : List ℕ) → all_scalars t ≡ true → IsUtf8 (quoted t)
IsUtf8-quoted_text t h = rw (quoted_is t) (IsUtf8-quoted (encode_utf8_all t) (t, (h, refl)))

IsUtf8-comma : (later : Bool) → IsUtf8 (comma later)
IsUtf8-comma true = IsUtf8-are_ascii (44 ∷ []) refl
IsUtf8-comma false = IsUtf8-nil

bracketed : (a b : ℕ) (xs : List ℕ) → IsUtf8 (a ∷ []) → IsUtf8 (b ∷ []) → IsUtf8 xs → IsUtf8 (a ∷ (xs ++ b ∷ []))
bracketed a b xs u v w = IsUtf8-append (a ∷ []) (xs ++ b ∷ []) u (IsUtf8-append xs (b ∷ []) w v)

mutual
  pub IsUtf8-written : (v : Value) → IsValue v → IsUtf8 (written v)
  IsUtf8-written null h = IsUtf8-are_ascii _ refl
  IsUtf8-written (boolean true) h = IsUtf8-are_ascii _ refl
  IsUtf8-written (boolean false) h = IsUtf8-are_ascii _ refl
  IsUtf8-written (int z) h = IsUtf8-from_ascii _ (IsAscii-signed z (omega (arith, mag-in_range z h)))
  IsUtf8-written (text t) h = IsUtf8-quoted_text t h
  IsUtf8-written (list ds) h = bracketed 91 93 _ (IsUtf8-are_ascii _ refl) (IsUtf8-are_ascii _ refl) (IsUtf8-written_items false ds h)
  IsUtf8-written (object ms) h = bracketed 123 125 _ (IsUtf8-are_ascii _ refl) (IsUtf8-are_ascii _ refl) (IsUtf8-written_members false ms h.1)

  IsUtf8-written_items : (later : Bool) (ds : Items) → AreItems ds → IsUtf8 (written_items later ds)
  IsUtf8-written_items later no_items h = IsUtf8-nil
  IsUtf8-written_items later (item d ds) h =
      IsUtf8-append (comma later) _ (IsUtf8-comma later) (IsUtf8-append (written d) _ (IsUtf8-written d h.0) (IsUtf8-written_items true ds h.1))

  IsUtf8-written_members : (later : Bool) (ms : Members) → AreMembers ms → IsUtf8 (written_members later ms)
  IsUtf8-written_members later no_members h = IsUtf8-nil
  IsUtf8-written_members later (member k d ms) h =
      IsUtf8-append (comma later) _ (IsUtf8-comma later) (
      IsUtf8-append (quoted k) _ (IsUtf8-quoted_text k h.0) (
      IsUtf8-append (58 ∷ []) _ (IsUtf8-are_ascii _ refl) (IsUtf8-append (written d) _ (IsUtf8-written d h.1) (IsUtf8-written_members true ms h.2))
      )
      )
