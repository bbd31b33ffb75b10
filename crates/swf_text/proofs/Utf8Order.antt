-- UTF-8 keeps the order of texts: by bytes they stand as by code points.
use Rattle.std.proofs.Common.{◌≡◌, ◌∙◌, ap, sym, refl, ℕ, ◌+◌, ◌/◌, ◌%◌, ◌<◌, ◌≤◌, List, [], ◌∷◌, ◌++◌, Ordering, Less, Greater, nat_cmp, inl, inr, lt-ltb, le-ltb, eq-eqb, arith}
use Rattle.std.proofs.Math.Nat.{div-div-eq-div-mul}
use Rattle.std.proofs.lemmas.Bool.{cases_lt}
use Rattle.std.proofs.lemmas.Cmp.{nat_list_cmp_total}
use Rattle.std.specs.Char.{encode_utf8}
use Rattle.std.specs.Cmp.Lexicographic.{slice_cmp}
use Rattle.std.specs.Ordering.{ordering_reverse}
use Rattle.std.specs.Str.{encode_utf8_all}

abbrev order : List ℕ → List ℕ → Ordering
order = slice_cmp nat_cmp

head_less : (x y : ℕ) (r t : List ℕ) → x < y → order (x ∷ r) (y ∷ t) ≡ Less
head_less x y r t h = rw (lt-ltb x y h) refl

head_same : (x y : ℕ) (r t : List ℕ) → x ≡ y → order (x ∷ r) (y ∷ t) ≡ order r t
head_same x y r t e = rw (e, le-ltb y y (omega arith), eq-eqb y y refl) refl

-- a way to write a number before a text, by which smaller numbers stand first
record Keeps (write : ℕ → List ℕ → List ℕ) : Type 0 where
  less : (c d : ℕ) (r t : List ℕ) → c < d → order (write c r) (write d t) ≡ Less
  same : (c : ℕ) (r t : List ℕ) → order (write c r) (write c t) ≡ order r t

-- a first byte
abbrev first : ℕ → ℕ → List ℕ → List ℕ
first base c r = (base + c) ∷ r

-- one more byte, of the lowest six bits
abbrev more : (ℕ → List ℕ → List ℕ) → ℕ → List ℕ → List ℕ
more write c r = write (c / 64) ((128 + c % 64) ∷ r)

first_keeps : (base : ℕ) → Keeps (first base)
first_keeps base = record {
  less = λ c d r t h. head_less (base + c) (base + d) r t (omega arith);
  same = λ c r t. head_same (base + c) (base + c) r t refl;
}

low_bits : (c d : ℕ) (r t : List ℕ) → c < d → c / 64 ≡ d / 64 → order ((128 + c % 64) ∷ r) ((128 + d % 64) ∷ t) ≡ Less
low_bits c d r t h e = head_less (128 + c % 64) (128 + d % 64) r t (omega arith)

more_keeps : (write : ℕ → List ℕ → List ℕ) → Keeps write → Keeps (more write)
more_keeps write k = record {
  less = λ c d r t h. elim (cases_lt (c / 64) (d / 64)) [
    | inl lower ↦ k.less (c / 64) (d / 64) _ _ lower
    | inr not_lower ↦
        let e : c / 64 ≡ d / 64 = omega arith in
        ap (λ q. order (write (c / 64) ((128 + c % 64) ∷ r)) (write q ((128 + d % 64) ∷ t))) (sym e) ∙ k.same (c / 64) _ _ ∙ low_bits c d r t h e
  ];
  same = λ c r t. k.same (c / 64) _ _ ∙ head_same (128 + c % 64) (128 + c % 64) r t refl;
}

-- the four lengths
bytes_1 : (c : ℕ) (r : List ℕ) → c < 128 → encode_utf8 c ++ r ≡ c ∷ r
unfolding encode_utf8
bytes_1 c r h = rw (lt-ltb c 128 h) refl

bytes_2 : (c : ℕ) (r : List ℕ) → 128 ≤ c → c < 2048 → encode_utf8 c ++ r ≡ more (first 192) c r
unfolding encode_utf8
bytes_2 c r l h = rw (le-ltb c 128 l, lt-ltb c 2048 h) refl

bytes_3 : (c : ℕ) (r : List ℕ) → 2048 ≤ c → c < 65536 → encode_utf8 c ++ r ≡ more (more (first 224)) c r
unfolding encode_utf8
bytes_3 c r l h = rw (le-ltb c 128 (omega arith), le-ltb c 2048 l, lt-ltb c 65536 h, div-div-eq-div-mul c 64 64) refl

bytes_4 : (c : ℕ) (r : List ℕ) → 65536 ≤ c → encode_utf8 c ++ r ≡ more (more (more (first 240))) c r
unfolding encode_utf8
bytes_4 c r l = rw (le-ltb c 128 (omega arith), le-ltb c 2048 (omega arith), le-ltb c 65536 l, div-div-eq-div-mul c 64 64, div-div-eq-div-mul c 4096 64) refl

-- a character with its length
data Length (c : ℕ) : Type 0 where
  one : c < 128 → Length c
  two : 128 ≤ c → c < 2048 → Length c
  three : 2048 ≤ c → c < 65536 → Length c
  four : 65536 ≤ c → Length c

length_of : (c : ℕ) → Length c
length_of c = elim (cases_lt c 128) [
  | inl a ↦ one a
  | inr a ↦ elim (cases_lt c 2048) [ inl b ↦ two a b | inr b ↦ elim (cases_lt c 65536) [ inl e ↦ three b e | inr e ↦ four e ] ]
]

keeps_2 : Keeps (more (first 192))
keeps_2 = more_keeps (first 192) (first_keeps 192)

keeps_3 : Keeps (more (more (first 224)))
keeps_3 = more_keeps _ (more_keeps (first 224) (first_keeps 224))

keeps_4 : Keeps (more (more (more (first 240))))
keeps_4 = more_keeps _ (more_keeps _ (more_keeps (first 240) (first_keeps 240)))

less_by : (c d : ℕ) (r t : List ℕ) → c < d → Length c → Length d → order (encode_utf8 c ++ r) (encode_utf8 d ++ t) ≡ Less
less_by c d r t h (one a) (one b) = rw (bytes_1 c r a, bytes_1 d t b) (head_less c d r t h)
less_by c d r t h (one a) (two b1 b2) = rw (bytes_1 c r a, bytes_2 d t b1 b2) (rw (lt-ltb c (192 + d / 64) (omega arith)) refl)
less_by c d r t h (one a) (three b1 b2) = rw (bytes_1 c r a, bytes_3 d t b1 b2) (rw (lt-ltb c (224 + d / 64 / 64) (omega arith)) refl)
less_by c d r t h (one a) (four b) = rw (bytes_1 c r a, bytes_4 d t b) (rw (lt-ltb c (240 + d / 64 / 64 / 64) (omega arith)) refl)
less_by c d r t h (two a1 a2) (one b) = absurd (omega arith)
less_by c d r t h (two a1 a2) (two b1 b2) = rw (bytes_2 c r a1 a2, bytes_2 d t b1 b2) (keeps_2.less c d r t h)
less_by c d r t h (two a1 a2) (three b1 b2) = rw (bytes_2 c r a1 a2, bytes_3 d t b1 b2) (rw (lt-ltb (192 + c / 64) (224 + d / 64 / 64) (omega arith)) refl)
less_by c d r t h (two a1 a2) (four b) = rw (bytes_2 c r a1 a2, bytes_4 d t b) (rw (lt-ltb (192 + c / 64) (240 + d / 64 / 64 / 64) (omega arith)) refl)
less_by c d r t h (three a1 a2) (one b) = absurd (omega arith)
less_by c d r t h (three a1 a2) (two b1 b2) = absurd (omega arith)
less_by c d r t h (three a1 a2) (three b1 b2) = rw (bytes_3 c r a1 a2, bytes_3 d t b1 b2) (keeps_3.less c d r t h)
less_by c d r t h (three a1 a2) (four b) = rw (bytes_3 c r a1 a2, bytes_4 d t b) (rw (lt-ltb (224 + c / 64 / 64) (240 + d / 64 / 64 / 64) (omega arith)) refl)
less_by c d r t h (four a) (one b) = absurd (omega arith)
less_by c d r t h (four a) (two b1 b2) = absurd (omega arith)
less_by c d r t h (four a) (three b1 b2) = absurd (omega arith)
less_by c d r t h (four a) (four b) = rw (bytes_4 c r a, bytes_4 d t b) (keeps_4.less c d r t h)

same_head : (xs r t : List ℕ) → order (xs ++ r) (xs ++ t) ≡ order r t
same_head [] r t = refl
same_head (x ∷ xs) r t = head_same x x (xs ++ r) (xs ++ t) refl ∙ same_head xs r t

less : (c d : ℕ) (r t : List ℕ) → c < d → order (encode_utf8 c ++ r) (encode_utf8 d ++ t) ≡ Less
less c d r t h = less_by c d r t h (length_of c) (length_of d)

greater : (c d : ℕ) (r t : List ℕ) → d < c → order (encode_utf8 c ++ r) (encode_utf8 d ++ t) ≡ Greater
greater c d r t h = nat_list_cmp_total.antisymm (encode_utf8 c ++ r) (encode_utf8 d ++ t) ∙ ap ordering_reverse (less d c t r h)

empty_by : (d : ℕ) (t : List ℕ) → Length d → order [] (encode_utf8 d ++ t) ≡ Less
empty_by d t (one a) = rw (bytes_1 d t a) refl
empty_by d t (two a b) = rw (bytes_2 d t a b) refl
empty_by d t (three a b) = rw (bytes_3 d t a b) refl
empty_by d t (four a) = rw (bytes_4 d t a) refl

empty_less : (d : ℕ) (t : List ℕ) → order [] (encode_utf8 d ++ t) ≡ Less
empty_less d t = empty_by d t (length_of d)

-- texts stand by their bytes as by their characters
pub order-encode_utf8_all : (cs ds : List ℕ) → slice_cmp nat_cmp (encode_utf8_all cs) (encode_utf8_all ds) ≡ slice_cmp nat_cmp cs ds
order-encode_utf8_all [] [] = refl
order-encode_utf8_all [] (d ∷ ds) = empty_less d _
order-encode_utf8_all (c ∷ cs) [] = nat_list_cmp_total.antisymm (encode_utf8_all (c ∷ cs)) [] ∙ ap ordering_reverse (empty_less c _)
order-encode_utf8_all (c ∷ cs) (d ∷ ds) = elim (cases_lt c d) [
  | inl lower ↦ less c d _ _ lower ∙ sym (head_less c d cs ds lower)
  | inr not_lower ↦ elim (cases_lt d c) [
    | inl higher ↦ greater c d _ _ higher ∙ sym (nat_list_cmp_total.antisymm (c ∷ cs) (d ∷ ds) ∙ ap ordering_reverse (head_less d c ds cs higher))
    | inr not_higher ↦
        let e : c ≡ d = omega arith in
        ap (λ x. order (encode_utf8 x ++ encode_utf8_all cs) (encode_utf8 d ++ encode_utf8_all ds)) e
        ∙ same_head (encode_utf8 d) (encode_utf8_all cs) (encode_utf8_all ds)
        ∙ order-encode_utf8_all cs ds ∙ sym (head_same c d cs ds e)
  ]
]
