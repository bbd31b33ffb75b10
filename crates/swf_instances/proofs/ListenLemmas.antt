-- Who listens neither for an event's type nor for events of more than one does not take it.
use Rattle.std.proofs.Common.{◌≡◌, ◌∙◌, refl, ap, sym, cond, ℕ, zero, ◌+◌, ◌&&◌, List, [], ◌∷◌, codes, map, Bool, true, false, Option, Some, None, arith}
use Rattle.std.proofs.lemmas.Bool.{or_parts}
use Rattle.std.proofs.lemmas.List.Folds.{list_any-append}
use Rattle.std.specs.Cmp.Lexicographic.{texts_ties}
use Rattle.std.specs.List.{list_all, list_any}
use Rattle.swf_text.specs.Same.{same}
use Rattle.swf_text.proofs.SameLemmas.{same_true}
use Rattle.swf_value.specs.Members.{member_at, put}
use Rattle.swf_value.specs.Value.{null, boolean, int, text, list as listed, object as objected, Members}
use Rattle.swf_cloudevents.specs.Event.{event_value, with_payload}
use Rattle.swf_cloudevents.specs.declared.event.Event.{Event}
use Rattle.swf_cloudevents.proofs.Puts.{at_here, at_past}
use Rattle.swf_document.specs.Template.{Template, constant, run, list, object}
use Rattle.swf_document.specs.declared.event.Filter.{Filter}
use Rattle.swf_document.specs.declared.event.ListenSpec.{ListenSpec}
use Rattle.swf_document.specs.declared.template.Field.{Field}
use Rattle.swf_templates.specs.Filter.{attribute_matches, correlated, bind_all}
use Rattle.swf_meaning.specs.Listen.{hears as hears_it, is_heard_by, is_met, is_satisfied, or_else, taken_from}
use Rattle.swf_meaning.specs.Node.{Node, Fresh, Live, Done, Fault, Inside, At, Later, Sleep, Hear, Await, Forked, Nodes, no_nodes, branch, Running}
use Rattle.swf_meaning.specs.Offer.{offered, offered_inside, offered_among, takes_by, or_same}
use Rattle.swf_meaning.specs.Parts.{kind_of, listen_in}
use Rattle.swf_meaning.specs.declared.heard.Heard.{Heard}
use Rattle.swf_listeners.proofs.WantedLemmas.{hears}
use Rattle.swf_offers.specs.EventTypes.{text_in, type_told, types_told, types_of, event_types}
use Rattle.swf_offers.proofs.EventTypeLemmas.{event_types_among, event_types_among-branch, types-at, types-hear}

-- a template of that text is a constant
told_is : (v : Template) (t : List ℕ) → text_in v ≡ Some t → v ≡ constant (text t)
told_is (constant (text u)) t e = let h : u ≡ t = cc in ap (λ u. constant (text u)) h
told_is (constant null) t e = cc
told_is (constant (boolean b)) t e = cc
told_is (constant (int z)) t e = cc
told_is (constant (listed ds)) t e = cc
told_is (constant (objected ms)) t e = cc
told_is (run x) t e = cc
told_is (list ts) t e = cc
told_is (object fs) t e = cc

-- the attribute `type` of an event
kind_at : (e : Event) → member_at (codes "type") (event_value e) ≡ Some (text e.kind)
kind_at e =
    let ms = with_payload e.payload e.attributes in
    let kind = put (codes "type") (text e.kind) ms in
    let version = put (codes "specversion") (text (codes "1.0")) kind in
    let source = put (codes "source") (text e.source) version in
    at_past (codes "type") (codes "id") (text e.id) source refl ∙ at_past (codes "type") (codes "source") (text e.source) version refl ∙ at_past (codes "type") (codes "specversion") (text (codes "1.0")) kind refl
    ∙ at_here (codes "type") (codes "type") (text e.kind) ms refl

and_false : (a b : Bool) → b ≡ false → (a && b) ≡ false
and_false true b e = e
and_false false b e = refl

-- attributes that name another type do not all match
no_match : (rest : List Field) (t : List ℕ) (e : Event) → type_told rest ≡ Some t → same e.kind t ≡ false → list_all (λ a. attribute_matches a.value (member_at a.name (event_value e))) rest ≡ false
no_match [] t e told other = cc
no_match (a ∷ rest) t e told other = by (same a.name (codes "type")) refl told (λ is. no_match rest t e is other)
  where
    by : (b : Bool) → same a.name (codes "type") ≡ b → cond b (text_in a.value) (type_told rest) ≡ Some t →
        (type_told rest ≡ Some t → list_all (λ a. attribute_matches a.value (member_at a.name (event_value e))) rest ≡ false) →
        (attribute_matches a.value (member_at a.name (event_value e)) && list_all (λ a. attribute_matches a.value (member_at a.name (event_value e))) rest) ≡ false
    by true named is more =
        let one : attribute_matches a.value (member_at a.name (event_value e)) ≡ false =
        ap (λ v. attribute_matches v (member_at a.name (event_value e))) (told_is a.value t is)
        ∙ ap (λ k. attribute_matches (constant (text t)) (member_at k (event_value e))) (same_true a.name (codes "type") named)
        ∙ ap (attribute_matches (constant (text t))) (kind_at e) ∙ sym (texts_ties e.kind t) ∙ other in
        ap (λ b. b && list_all (λ a. attribute_matches a.value (member_at a.name (event_value e))) rest) one
    by false named is more = and_false (attribute_matches a.value (member_at a.name (event_value e))) _ (more is)

-- a filter of another type does not take it
no_filter : (f : Filter) (bound : Members) (e : Event) → hears e.kind (type_told f.with) ≡ false → correlated f bound e ≡ None
no_filter f bound e other = by (type_told f.with) refl other
  where
    by : (o : Option (List ℕ)) → type_told f.with ≡ o → hears e.kind o ≡ false → correlated f bound e ≡ None
    by None told h = cc
    by (Some t) told h = ap (λ b. cond b (bind_all f.correlate (event_value e) bound) None) (no_match f.with t e told h)

met_or_none : (b : Bool) (n : ℕ) (e : Event) (hs : List Heard) (o : Option Members) → o ≡ None → cond b None (hears_it n e hs o) ≡ None
met_or_none true n e hs o h = refl
met_or_none false n e hs o h = ap (hears_it n e hs) h

-- nor do several
no_filters : (n : ℕ) (fs : List Filter) (bound : Members) (hs : List Heard) (e : Event) → list_any (hears e.kind) (map (λ f. type_told f.with) fs) ≡ false → taken_from n fs bound hs e ≡ None
no_filters n [] bound hs e other = refl
no_filters n (f ∷ fs) bound hs e other =
    let p = or_parts (hears e.kind (type_told f.with)) (list_any (hears e.kind) (map (λ f. type_told f.with) fs)) other in
    ap (λ o. or_else o (taken_from (n + 1) fs bound hs e)) (met_or_none (is_met n hs) n e hs (correlated f bound e) (no_filter f bound e p.0))
    ∙ no_filters (n + 1) fs bound hs e p.1

no_taker : (o : Option ListenSpec) (bound : Members) (hs : List Heard) (e : Event) → list_any (hears e.kind) (cond (is_heard_by hs o) [] (types_of o)) ≡ false → takes_by o bound hs e ≡ None
no_taker None bound hs e other = refl
no_taker (Some l) bound hs e other = by (is_satisfied l hs) other
  where
    by : (b : Bool) → list_any (hears e.kind) (cond b [] (types_told l.filters)) ≡ false → cond b None (taken_from zero l.filters bound hs e) ≡ None
    by true h = refl
    by false h = no_filters zero l.filters bound hs e h

none_of : (a b : ℕ) → a ≡ 0 → b ≡ 0 → a + b ≡ 0
none_of a b p q = omega (arith, p, q)

-- so no strand takes it
mutual
  pub unheard : (e : Event) (n : Node) → list_any (hears e.kind) (event_types n) ≡ false → (offered e n).1 ≡ 0
  unheard e (Fresh t v) other = refl
  unheard e (Live r k) other = unheard_inside e r k other
  unheard e (Done w f) other = refl
  unheard e (Fault p) other = refl

  unheard_inside : (e : Event) (r : Running) (k : Inside) → list_any (hears e.kind) (event_types (Live r k)) ≡ false → (offered_inside e r.task k).1 ≡ 0
  unheard_inside e r (At round i n) other = unheard e n (sym (ap (list_any (hears e.kind)) (types-at r round i n)) ∙ other)
  unheard_inside e r (Later n m) other = refl
  unheard_inside e r (Sleep m) other = refl
  unheard_inside e r (Hear bound hs) other =
      ap (λ o. (or_same bound hs o).1) (no_taker (listen_in (kind_of r.task)) bound hs e (sym (ap (list_any (hears e.kind)) (types-hear r bound hs)) ∙ other))
  unheard_inside e r (Await a q o) other = refl
  unheard_inside e r (Forked ns) other = unheard_among e ns other

  unheard_among : (e : Event) (ns : Nodes) → list_any (hears e.kind) (event_types_among ns) ≡ false → (offered_among e ns).1 ≡ 0
  unheard_among e no_nodes other = refl
  unheard_among e (branch n ns) other =
      let all = sym (list_any-append (hears e.kind) (event_types n) (event_types_among ns)) ∙ sym (ap (list_any (hears e.kind)) (event_types_among-branch n ns)) ∙ other in
      let p = or_parts (list_any (hears e.kind) (event_types n)) (list_any (hears e.kind) (event_types_among ns)) all in
      none_of (offered e n).1 (offered_among e ns).1 (unheard e n p.0) (unheard_among e ns p.1)
