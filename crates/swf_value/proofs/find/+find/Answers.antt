use Rattle.std.proofs.Common.{◌≡◌, ◌∙◌, ◌-◌, ap, sym, refl, subst, length, [], ◌∷◌, Some, None, option_map, arith, rules}
use Rattle.json.specs.Token.{Token}
use Rattle.json.specs.Json.{parse_map, after_end_array, read_key, items, value}
use Rattle.json.specs.Reads.{token_of}
use Rattle.json.proofs.Grammar.{value_is, read_key-shorter}
use Rattle.serde_json.specs.Data.{null, boolean, number, string, array, object, no_members, put}
use Rattle.serde_json.specs.Read.{of_json, of_items, converted}
use Rattle.swf_value.specs.Found.{MembersFound}
use Rattle.swf_value.proofs.Finds.{ItemsLeft, items_turn, items_end, found_insert}
use Rattle.swf_value.proofs.Turns.{array_read, object_read, item_read, item_refused, items_over, member_read, member_refused, key_refused, members_over}
use Rattle.swf_value.proofs.find.+find.Goals as goal

-- ---- what stands next

pub find_next-returns-in_default-clause-found : goal.find_next-returns-in_default-clause-found
find_next-returns-in_default-clause-found t c =
    let empty : c.args.reader.now ≡ [] = grind arith in
    ap (converted of_json) (ap (value c.args.depth) empty ∙ value_is c.args.depth [])

pub find_next-returns-in-Null-clause-found : goal.find_next-returns-in-Null-clause-found
find_next-returns-in-Null-clause-found t c =
    let rest = c.next.new.self in
    let is : c.args.reader.now ≡ Token.null ∷ rest = c.in-Some.ensures.value ∙ ap (λ k. token_of k ∷ rest) c.in-Null.is in (
      null,
      ap (converted of_json) (ap (value c.args.depth) is ∙ value_is c.args.depth _),
      record { value_is = ap Some c.null.ensures; depth_is = refl; valid = search rules },
    )

pub find_next-returns-in-Bool-clause-found : goal.find_next-returns-in-Bool-clause-found
find_next-returns-in-Bool-clause-found t c =
    let rest = c.next.new.self in
    let is : c.args.reader.now ≡ Token.boolean c.in-Bool.value ∷ rest = c.in-Some.ensures.value ∙ ap (λ k. token_of k ∷ rest) c.in-Bool.is in (
      boolean c.in-Bool.value,
      ap (converted of_json) (ap (value c.args.depth) is ∙ value_is c.args.depth _),
      record { value_is = ap Some c.boolean.ensures; depth_is = refl; valid = search rules },
    )

pub find_next-returns-in-Some-number-clause-found : goal.find_next-returns-in-Some-number-clause-found
find_next-returns-in-Some-number-clause-found t c =
    let rest = c.next.new.self in
    let s = c.in-Number.text.now in
    let is : c.args.reader.now ≡ Token.number s ∷ rest = c.in-Some.ensures.value ∙ ap (λ k. token_of k ∷ rest) c.in-Number.is in
    let found = c.in-Some-number.ensures in (
      number found.0,
      ap (converted of_json) (ap (value c.args.depth) is ∙ value_is c.args.depth _) ∙ ap (λ o. option_map (λ d. (d, rest)) (option_map number o)) found.1,
      c.found_number.ensures found.0 found.2,
    )

pub find_next-returns-in-None-clause-found : goal.find_next-returns-in-None-clause-found
find_next-returns-in-None-clause-found t c =
    let rest = c.next.new.self in
    let s = c.in-Number.text.now in
    let is : c.args.reader.now ≡ Token.number s ∷ rest = c.in-Some.ensures.value ∙ ap (λ k. token_of k ∷ rest) c.in-Number.is in
    ap (converted of_json) (ap (value c.args.depth) is ∙ value_is c.args.depth _) ∙ ap (λ o. option_map (λ d. (d, rest)) (option_map number o)) c.in-None.ensures

pub find_next-returns-in_ok-found_text-in-String-clause-found : goal.find_next-returns-in_ok-found_text-in-String-clause-found
find_next-returns-in_ok-found_text-in-String-clause-found t c =
    let rest = c.next.new.self in
    let is : c.args.reader.now ≡ Token.string c.in-String.text.now ∷ rest = c.in-Some.ensures.value ∙ ap (λ k. token_of k ∷ rest) c.in-String.is in (
      string c.in-String.text.now,
      ap (converted of_json) (ap (value c.args.depth) is ∙ value_is c.args.depth _),
      c.in_ok-found_text-in-String.ensures,
    )

pub find_next-returns-in-EndObject-clause-found : goal.find_next-returns-in-EndObject-clause-found
find_next-returns-in-EndObject-clause-found t c =
    let first : c.args.reader.now ≡ token_of c.in-Some.token ∷ c.next.new.self = c.in-Some.ensures.value in
    let none : value c.args.depth c.args.reader.now ≡ None = rw (value_is c.args.depth c.args.reader.now, first) (grind arith) in
    ap (converted of_json) none

-- ---- lists

pub find_list-returns-then-depth-eq0-clause-found : goal.find_list-returns-then-depth-eq0-clause-found
unfolding value
find_list-returns-then-depth-eq0-clause-found t c =
    let none : c.args.depth ≡ 0 = omega arith in
    ap (λ n. converted of_json (value n (Token.begin_array ∷ c.args.reader.now))) none

pub find_list-returns-in_default-clause-found : goal.find_list-returns-in_default-clause-found
find_list-returns-in_default-clause-found t c =
    let p = value (c.args.depth - 1) in
    let l = c.items in
    let going : (after_end_array l.reader ≡ None) × (c.take_end_array.new.self ≡ l.reader) = grind arith in
    let none = rw (c.in_default.is, going.1) at c.in_ok-item.ensures.found in
    array_read c.args.depth c.args.reader.now (omega arith) ∙ ap (parse_map array) (l.invariant.2.refused (item_refused p l.invariant.0 l.reader going.0 none))

pub find_list-items-preserved : goal.find_list-items-preserved
find_list-items-preserved t c =
    let p = value (c.args.depth - 1) in
    let l = c.items in
    let n = l.invariant.0 in
    let r = c.find_next.new.reader in
    let going : (after_end_array l.reader ≡ None) × (c.take_end_array.new.self ≡ l.reader) = grind arith in
    let one = rw (c.in-Some.is, going.1) at c.in_ok-item.ensures.found in
    let less = rw (c.in-Some.is, going.1) at c.in_ok-item.ensures.shorter in
    let turn = item_read p n l.reader r one.0 (omega (arith, l.invariant.1, less)) going.0 one.1 in
    let all = converted of_items (items p (length c.args.reader.now) c.args.reader.now) in
    let left = converted of_items (items p (n - 1) r) in (
      n - 1,
      omega (arith, l.invariant.1, less),
      subst (ItemsLeft all left) (sym c.in_ok-push.ensures.items) (items_turn all (converted of_items (items p n l.reader)) left l.found.items one.0 c.in-Some.item turn one.2 l.invariant.2),
      omega (arith, l.invariant.3, less),
    )

pub find_list-returns-clause-found : goal.find_list-returns-clause-found
find_list-returns-clause-found t c =
    let p = value (c.args.depth - 1) in
    let l = c.items in
    let n = l.invariant.0 in
    let r = c.take_end_array.new.self in
    let over = items_over p n l.reader r l.invariant.1 (grind arith) in
    let all = converted of_items (items p (length c.args.reader.now) c.args.reader.now) in
    let done = items_end all (converted of_items (items p n l.reader)) r l.found.items over l.invariant.2 in
    (array done.0, array_read c.args.depth c.args.reader.now (omega arith) ∙ ap (parse_map array) done.1, c.in_ok-found_list.ensures done.0 done.2)

-- ---- objects

pub find_object-returns-then-depth-eq0-clause-found : goal.find_object-returns-then-depth-eq0-clause-found
unfolding value
find_object-returns-then-depth-eq0-clause-found t c =
    let none : c.args.depth ≡ 0 = omega arith in
    ap (λ n. converted of_json (value n (Token.begin_object ∷ c.args.reader.now))) none

pub find_object-members-init : goal.find_object-members-init
find_object-members-init t c = (length c.args.reader.now, omega arith, (no_members, subst (MembersFound no_members) (sym c.new-found.ensures.empty) tt, refl), omega arith)

pub find_object-returns-in_default-clause-found : goal.find_object-returns-in_default-clause-found
find_object-returns-in_default-clause-found t c =
    let p = value (c.args.depth - 1) in
    let l = c.members in
    let so_far = l.invariant.2 in
    object_read c.args.depth c.args.reader.now (omega arith) ∙ ap (parse_map object) (so_far.2 ∙ key_refused p so_far.0 l.invariant.0 l.reader c.in_default.ensures.value)

pub find_object-returns-in_default-key-clause-found : goal.find_object-returns-in_default-key-clause-found
find_object-returns-in_default-key-clause-found t c =
    let p = value (c.args.depth - 1) in
    let l = c.members in
    let so_far = l.invariant.2 in
    let r = c.next_key.new.self in
    let over : read_key l.reader ≡ Some (None, r) = grind arith in (
      object so_far.0,
      object_read c.args.depth c.args.reader.now (omega arith) ∙ ap (parse_map object) (so_far.2 ∙ members_over p so_far.0 l.invariant.0 l.reader r l.invariant.1 over),
      c.in_ok-found_object.ensures so_far.0 so_far.1,
    )

pub find_object-returns-in_default-2-clause-found : goal.find_object-returns-in_default-2-clause-found
find_object-returns-in_default-2-clause-found t c =
    let p = value (c.args.depth - 1) in
    let l = c.members in
    let so_far = l.invariant.2 in
    let k = c.in-Some.name.now in
    let s = c.next_key.new.self in
    let named : read_key l.reader ≡ Some (Some k, s) = grind arith in
    let none = rw c.in_default-2.is at c.in_ok-member.ensures.found in
    object_read c.args.depth c.args.reader.now (omega arith) ∙ ap (parse_map object) (so_far.2 ∙ member_refused p so_far.0 l.invariant.0 k l.reader s named none)

pub find_object-members-preserved : goal.find_object-members-preserved
find_object-members-preserved t c =
    let p = value (c.args.depth - 1) in
    let l = c.members in
    let n = l.invariant.0 in
    let so_far = l.invariant.2 in
    let k = c.in-Some.name in
    let s = c.next_key.new.self in
    let named : read_key l.reader ≡ Some (Some k.now, s) = grind arith in
    let one = rw c.in-Some-2.is at c.in_ok-member.ensures.found in
    let less = read_key-shorter l.reader (Some k.now) s named in
    let lesser = rw c.in-Some-2.is at c.in_ok-member.ensures.shorter in
    let turn = member_read p so_far.0 n k.now l.reader s c.find_next.new.reader one.0 (omega (arith, l.invariant.1, less)) named one.1 in (
      n - 1,
      omega (arith, l.invariant.1, less, lesser),
      (
        put k.now one.0 so_far.0,
        subst (MembersFound (put k.now one.0 so_far.0)) (sym c.in_ok-insert.ensures.entries) (found_insert k c.in-Some-2.member one.0 so_far.0 l.found.entries one.2 so_far.1),
        so_far.2 ∙ turn,
      ),
      omega (arith, l.invariant.3, less, lesser),
    )
