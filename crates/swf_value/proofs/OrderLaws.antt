-- The laws of the order of values.
use Rattle.std.proofs.Common.{◌≡◌, ◌∙◌, ℕ, refl, sym, ap, subst, true, false}
use Rattle.std.proofs.lemmas.Cmp.{nat_cmp_total, int_cmp_total, nat_list_cmp_total}
use Rattle.std.proofs.lemmas.Map.Lookups.{exact_bytes, exact_signed}
use Rattle.std.specs.Ordering.{nat_cmp, ordering_then, ordering_reverse}
use Rattle.std.specs.Cmp.Lexicographic.{slice_cmp}
use Rattle.std.specs.declared.cmp.Ordering.{Ordering}
use Rattle.std.specs.declared.cmp.Ordering.TheVariants.{Less, Equal, Greater}
use Rattle.swf_value.specs.Value.{Value, null, boolean, int, text, list, object, Items, no_items, item, Members, no_members, member}
use Rattle.swf_value.specs.Order.{rank, value_cmp, items_cmp, members_cmp, names_cmp, OrderLaws}

-- turning round what two comparisons give
reversed : (a b c d : Ordering) → a ≡ ordering_reverse c → b ≡ ordering_reverse d → ordering_then a b ≡ ordering_reverse (ordering_then c d)
reversed a b Less d p q = rw p refl
reversed a b Equal d p q = rw p q
reversed a b Greater d p q = rw p refl

names_back : (ms ns : Members) → names_cmp ms ns ≡ ordering_reverse (names_cmp ns ms)
names_back no_members no_members = refl
names_back no_members (member l e ns) = refl
names_back (member k d ms) no_members = refl
names_back (member k d ms) (member l e ns) = reversed _ _ _ _ (nat_list_cmp_total.antisymm k l) (names_back ms ns)

mutual
  back : (v w : Value) → value_cmp v w ≡ ordering_reverse (value_cmp w v)
  back (int y) (int z) = int_cmp_total.antisymm y z
  back (text s) (text t) = nat_list_cmp_total.antisymm s t
  back (list ds) (list es) = items_back ds es
  back (object ms) (object ns) = reversed _ _ _ _ (names_back ms ns) (members_back ms ns)
  back null (int z) = refl
  back (boolean b) (int z) = nat_cmp_total.antisymm (rank (boolean b)) 3
  back v w = nat_cmp_total.antisymm (rank v) (rank w)

  items_back : (ds es : Items) → items_cmp ds es ≡ ordering_reverse (items_cmp es ds)
  items_back no_items no_items = refl
  items_back no_items (item e es) = refl
  items_back (item d ds) no_items = refl
  items_back (item d ds) (item e es) = reversed _ _ _ _ (back d e) (items_back ds es)

  members_back : (ms ns : Members) → members_cmp ms ns ≡ ordering_reverse (members_cmp ns ms)
  members_back no_members no_members = refl
  members_back no_members (member l e ns) = refl
  members_back (member k d ms) no_members = refl
  members_back (member k d ms) (member l e ns) = reversed _ _ _ _ (back d e) (members_back ms ns)

-- both of two comparisons that give Equal do
both_equal : (a b : Ordering) → ordering_then a b ≡ Equal → (a ≡ Equal) × (b ≡ Equal)
both_equal Less b p = absurd (cc p)
both_equal Equal b p = (refl, p)
both_equal Greater b p = absurd (cc p)

-- members with the same names and values
mutual
  exact : (v w : Value) → value_cmp v w ≡ Equal → v ≡ w
  exact null null p = refl
  exact (boolean false) (boolean false) p = refl
  exact (boolean true) (boolean true) p = refl
  exact (int y) (int z) p = ap int (exact_signed y z p)
  exact (text s) (text t) p = ap text (exact_bytes s t p)
  exact (list ds) (list es) p = ap list (items_exact ds es p)
  exact (object ms) (object ns) p = let h = both_equal (names_cmp ms ns) (members_cmp ms ns) p in ap object (members_exact ms ns h.0 h.1)
  exact null (int z) p = cc
  exact (boolean false) (int z) p = cc
  exact (boolean true) (int z) p = cc
  exact v (boolean false) p = cc
  exact v (boolean true) p = cc
  exact v w p = cc

  items_exact : (ds es : Items) → items_cmp ds es ≡ Equal → ds ≡ es
  items_exact no_items no_items p = refl
  items_exact no_items (item e es) p = cc
  items_exact (item d ds) no_items p = cc
  items_exact (item d ds) (item e es) p = let h = both_equal (value_cmp d e) (items_cmp ds es) p in λ i. item (exact d e h.0 i) (items_exact ds es h.1 i)

  members_exact : (ms ns : Members) → names_cmp ms ns ≡ Equal → members_cmp ms ns ≡ Equal → ms ≡ ns
  members_exact no_members no_members p q = refl
  members_exact no_members (member l e ns) p q = cc
  members_exact (member k d ms) no_members p q = cc
  members_exact (member k d ms) (member l e ns) p q =
      let g = both_equal (slice_cmp nat_cmp k l) (names_cmp ms ns) p in
      let h = both_equal (value_cmp d e) (members_cmp ms ns) q in
      λ i. member (exact_bytes k l g.0 i) (exact d e h.0 i) (members_exact ms ns g.1 h.1 i)

-- one way up a chain of two comparisons
chained : (a b c d e f : Ordering) → ordering_then a b ≡ Less → ordering_then c d ≡ Less → (a ≡ Less → c ≡ Less → e ≡ Less) → (a ≡ Less → c ≡ Equal → e ≡ Less) → (a ≡ Equal → c ≡ Less → e ≡ Less) → (a ≡ Equal → c ≡ Equal → e ≡ Equal) → (b ≡ Less → d ≡ Less → f ≡ Less) → ordering_then e f ≡ Less
chained Less b Less d e f p q ll le el ee r = rw (ll refl refl) refl
chained Less b Equal d e f p q ll le el ee r = rw (le refl refl) refl
chained Equal b Less d e f p q ll le el ee r = rw (el refl refl) refl
chained Equal b Equal d e f p q ll le el ee r = rw (ee refl refl) (r p q)
chained Greater b c d e f p q ll le el ee r = cc
chained Less b Greater d e f p q ll le el ee r = cc
chained Equal b Greater d e f p q ll le el ee r = cc

-- names that compare alike are alike beside any others
names_same_right : (ms ns os : Members) → names_cmp ns os ≡ Equal → names_cmp ms ns ≡ names_cmp ms os
names_same_right ms no_members no_members p = refl
names_same_right ms no_members (member l e os) p = cc
names_same_right ms (member k d ns) no_members p = cc
names_same_right no_members (member k d ns) (member l e os) p = refl
names_same_right (member j c ms) (member k d ns) (member l e os) p =
    let g = both_equal (slice_cmp nat_cmp k l) (names_cmp ns os) p in
    λ i. ordering_then (slice_cmp nat_cmp j (exact_bytes k l g.0 i)) (names_same_right ms ns os g.1 i)

names_same_left : (ms ns os : Members) → names_cmp ms ns ≡ Equal → names_cmp ms os ≡ names_cmp ns os
names_same_left ms ns os p =
    names_back ms os ∙ ap ordering_reverse (names_same_right os ms ns p) ∙ sym (names_back ns os)

-- no two stand before each other
never_both : (a b : Ordering) → a ≡ ordering_reverse b → a ≡ Less → b ≡ Less → ⊥
never_both a b e p q = cc (sym p ∙ e ∙ ap ordering_reverse q)

-- one step up a chain, where what compares alike is alike
step_up : {A : Type 0} (R : A → A → Ordering) → ((x y z : A) → R x y ≡ Less → R y z ≡ Less → R x z ≡ Less) → ((x y : A) → R x y ≡ Equal → x ≡ y) → (x y z : A) (b d f : Ordering) → (b ≡ Less → d ≡ Less → f ≡ Less) → ordering_then (R x y) b ≡ Less → ordering_then (R y z) d ≡ Less → ordering_then (R x z) f ≡ Less
step_up R trans same x y z b d f r p q = chained (R x y) b (R y z) d (R x z) f p q
    (trans x y z)
    (λ g h. subst (λ w. R x w ≡ Less) (same y z h) g)
    (λ g h. subst (λ w. R w z ≡ Less) (sym (same x y g)) h)
    (λ g h. subst (λ w. R x w ≡ Equal) (same y z h) g)
    r

names_up : (ms ns os : Members) → names_cmp ms ns ≡ Less → names_cmp ns os ≡ Less → names_cmp ms os ≡ Less
names_up no_members ns no_members p q = absurd (never_both _ _ (names_back no_members ns) p q)
names_up no_members ns (member l e os) p q = refl
names_up (member j c ms) no_members os p q = cc
names_up (member j c ms) (member k d ns) no_members p q = cc
names_up (member j c ms) (member k d ns) (member l e os) p q =
    step_up (slice_cmp nat_cmp) nat_list_cmp_total.trans exact_bytes j k l _ _ _ (names_up ms ns os) p q

rank_apart : (m n : ℕ) → nat_cmp m n ≡ Less → nat_cmp n m ≡ Less → ⊥
rank_apart m n p q = never_both _ _ (nat_cmp_total.antisymm m n) p q

mutual
  up : (u v w : Value) → value_cmp u v ≡ Less → value_cmp v w ≡ Less → value_cmp u w ≡ Less
  up (int x) (int y) (int z) p q = int_cmp_total.trans x y z p q
  up (int x) (int y) w p q = q
  up u (int y) (int z) p q = p
  up (int x) v (int z) p q = absurd (rank_apart 3 (rank v) p q)
  up (text x) (text y) (text z) p q = nat_list_cmp_total.trans x y z p q
  up (text x) (text y) w p q = q
  up u (text y) (text z) p q = p
  up (text x) v (text z) p q = absurd (rank_apart 4 (rank v) p q)
  up (list x) (list y) (list z) p q = items_up x y z p q
  up (list x) (list y) w p q = q
  up u (list y) (list z) p q = p
  up (list x) v (list z) p q = absurd (rank_apart 5 (rank v) p q)
  up (object ms) (object ns) (object os) p q =
      chained (names_cmp ms ns) (members_cmp ms ns) (names_cmp ns os) (members_cmp ns os) (names_cmp ms os) (members_cmp ms os) p q
      (names_up ms ns os)
      (λ g h. sym (names_same_right ms ns os h) ∙ g)
      (λ g h. names_same_left ms ns os g ∙ h)
      (λ g h. names_same_left ms ns os g ∙ h)
      (members_up ms ns os)
  up (object x) (object y) w p q = q
  up u (object y) (object z) p q = p
  up (object x) v (object z) p q = absurd (rank_apart 6 (rank v) p q)
  up u v w p q = nat_cmp_total.trans (rank u) (rank v) (rank w) p q

  items_up : (ds es fs : Items) → items_cmp ds es ≡ Less → items_cmp es fs ≡ Less → items_cmp ds fs ≡ Less
  items_up no_items es no_items p q = absurd (never_both _ _ (items_back no_items es) p q)
  items_up no_items es (item f fs) p q = refl
  items_up (item d ds) no_items fs p q = cc
  items_up (item d ds) (item e es) no_items p q = cc
  items_up (item d ds) (item e es) (item f fs) p q =
      chained (value_cmp d e) (items_cmp ds es) (value_cmp e f) (items_cmp es fs) (value_cmp d f) (items_cmp ds fs) p q
      (up d e f)
      (λ g h. subst (λ w. value_cmp d w ≡ Less) (exact e f h) g)
      (λ g h. subst (λ w. value_cmp w f ≡ Less) (sym (exact d e g)) h)
      (λ g h. subst (λ w. value_cmp d w ≡ Equal) (exact e f h) g)
      (items_up ds es fs)

  members_up : (ms ns os : Members) → members_cmp ms ns ≡ Less → members_cmp ns os ≡ Less → members_cmp ms os ≡ Less
  members_up no_members ns no_members p q = absurd (never_both _ _ (members_back no_members ns) p q)
  members_up no_members ns (member l f os) p q = refl
  members_up (member j d ms) no_members os p q = cc
  members_up (member j d ms) (member k e ns) no_members p q = cc
  members_up (member j d ms) (member k e ns) (member l f os) p q =
      chained (value_cmp d e) (members_cmp ms ns) (value_cmp e f) (members_cmp ns os) (value_cmp d f) (members_cmp ms os) p q
      (up d e f)
      (λ g h. subst (λ w. value_cmp d w ≡ Less) (exact e f h) g)
      (λ g h. subst (λ w. value_cmp w f ≡ Less) (sym (exact d e g)) h)
      (λ g h. subst (λ w. value_cmp d w ≡ Equal) (exact e f h) g)
      (members_up ms ns os)

-- what compares alike stands alike beside a third
alike : (u v w : Value) → value_cmp u v ≡ Equal → value_cmp u w ≡ value_cmp v w
alike u v w p = ap (λ x. value_cmp x w) (exact u v p)

pub own_reverse : (o : Ordering) → o ≡ ordering_reverse o → o ≡ Equal
own_reverse Less p = cc
own_reverse Equal p = refl
own_reverse Greater p = cc

pub order_laws : OrderLaws
order_laws = (record { antisymm = back; trans = up; congr = alike }, exact, λ v. own_reverse (value_cmp v v) (back v v))
