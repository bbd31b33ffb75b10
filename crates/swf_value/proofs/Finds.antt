-- What is found of items and members, one after another.
use Rattle.std.proofs.Common.{◌≡◌, ◌∙◌, ap, sym, refl, subst, ℕ, List, [], ◌∷◌, ◌++◌, Option, Some, None, Ordering, Less, Equal, Greater, nat_cmp, Bor, append_assoc, append-nil}
use Rattle.std.specs.BTreeMap.{insert_entry}
use Rattle.std.specs.Cmp.Lexicographic.{slice_cmp}
use Rattle.std.specs.Ordering.{match_ordering}
use Rattle.json.specs.Json.{parse_map}
use Rattle.json.specs.Token.{Token}
use Rattle.serde_json.specs.Data.{Data, Items, no_items, item, Members, no_members, member, put}
use Rattle.swf_value.specs.Found.{IsFound, AreFound, MembersFound}
use Rattle.swf_value.specs.declared.whole.Found.{Found}
use Rattle.swf_value.proofs.Wholes.{Entry, key_cmp}

-- ---- items

-- `done` is found of the items before `rest`, and what is found of `rest` goes behind it
pub record ItemsLeft (all rest : Option (Items × List Token)) (done : List Found) : Type 0 where
  pub found : (ds : Items) (r : List Token) (fs : List Found) → rest ≡ Some (ds, r) → AreFound ds fs → (es : Items) × (all ≡ Some (es, r)) × AreFound es (done ++ fs)
  pub refused : rest ≡ None → all ≡ None

pub items_start : (all : Option (Items × List Token)) (done : List Found) → done ≡ [] → ItemsLeft all all done
items_start all done none = record { found = λ ds r fs e h. (ds, e, rw none h); refused = λ e. e }

pub items_turn : (all rest left : Option (Items × List Token)) (done : List Found) (d : Data) (f : Found) → rest ≡ parse_map (item d) left → IsFound d f → ItemsLeft all rest done → ItemsLeft all left (done ++ f ∷ [])
items_turn all rest left done d f is h so_far = record {
  found = λ ds r fs e hs.
      let next : rest ≡ Some (item d ds, r) = is ∙ ap (parse_map (item d)) e in
      subst (λ gs. (es : Items) × (all ≡ Some (es, r)) × AreFound es gs) (sym (append_assoc done (f ∷ []) fs)) (so_far.found (item d ds) r (f ∷ fs) next (h, hs));
  refused = λ e. so_far.refused (is ∙ ap (parse_map (item d)) e);
}

pub items_end : (all rest : Option (Items × List Token)) (r : List Token) (done : List Found) → rest ≡ Some (no_items, r) → ItemsLeft all rest done → (es : Items) × (all ≡ Some (es, r)) × AreFound es done
items_end all rest r done is so_far = subst (λ gs. (es : Items) × (all ≡ Some (es, r)) × AreFound es gs) (append-nil done) (so_far.found no_items r [] is tt)

-- ---- members

insert_at : (o : Ordering) (k : Bor (List ℕ)) (f : Found) (d : Data) (l : List ℕ) (c : Data) (ms : Members) (e : Entry) (es : List Entry)
    → IsFound d f → MembersFound (member l c ms) (e ∷ es) → MembersFound (put k.now d ms) (insert_entry key_cmp es k f)
    → MembersFound (match_ordering o (member k.now d (member l c ms)) (member l d ms) (member l c (put k.now d ms))) (match_ordering o ((k, f) ∷ e ∷ es) ((e.0, f) ∷ es) (e ∷ insert_entry key_cmp es k f))
insert_at Less k f d l c ms e es is h later = (refl, is, h)
insert_at Equal k f d l c ms e es is h later = (h.0, is, h.2)
insert_at Greater k f d l c ms e es is h later = (h.0, h.1, later)

pub found_insert : (k : Bor (List ℕ)) (f : Found) (d : Data) (ms : Members) (es : List Entry) → IsFound d f → MembersFound ms es → MembersFound (put k.now d ms) (insert_entry key_cmp es k f)
found_insert k f d no_members [] is h = (refl, is, tt)
found_insert k f d no_members (e ∷ es) is h = absurd h
found_insert k f d (member l c ms) [] is h = absurd h
found_insert k f d (member l c ms) (e ∷ es) is h =
    subst (λ n. MembersFound (match_ordering (slice_cmp nat_cmp k.now n) (member k.now d (member l c ms)) (member l d ms) (member l c (put k.now d ms))) (insert_entry key_cmp (e ∷ es) k f)) h.0
    (insert_at (key_cmp k e.0) k f d l c ms e es is h (found_insert k f d ms es is h.2))
