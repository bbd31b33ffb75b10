-- Lists of bytes, and numbers that are read from them.
use Rattle.std.proofs.Common.{◌≡◌, ◌∙◌, ap, sym, subst, refl, ℕ, zero, suc, ◌<◌, ◌≤◌, ◌^◌, List, [], ◌∷◌, ◌++◌, length, take, drop, get_or, Ok, Err, true, false, Bool, cond, ltb, lt-ltb, le-ltb, inl, inr, arith, w16, w32, w64, lit<}
use Rattle.std.proofs.Math.Seq.{take-append_seam, drop-append_seam}
use Rattle.std.proofs.lemmas.Bool.{cases_lt}
use Rattle.std.proofs.lemmas.List.{take-append-drop, length-append, length-take-le}
use Rattle.std.proofs.lemmas.Nat.{from_be_bytes-to_be_bytes_2, from_be_bytes-to_be_bytes_4, from_be_bytes-to_be_bytes_8, be_bytes_2, be_bytes_4, be_bytes_8}
use Rattle.std.specs.Int.{Width, byte_len, to_be_bytes, from_be_bytes}
use Rattle.std.specs.List.{AllByRecursion}
use Rattle.swf_record.specs.Encodes.{two_bytes, four_bytes, eight_bytes}
use Rattle.swf_record.specs.Decodes.{Reading, number_in}

-- numbers that are bytes
abbrev pub AreBytes : List ℕ → Type 0
AreBytes bs = AllByRecursion (λ b. b < 256) bs

pub AreBytes-from_each : (bs : List ℕ) → ((k : ℕ) → get_or bs k 0 < 256) → AreBytes bs
AreBytes-from_each [] h = tt
AreBytes-from_each (b ∷ bs) h = (h 0, AreBytes-from_each bs (λ k. h (suc k)))

each_byte : (bs : List ℕ) → AreBytes bs → (k : ℕ) → get_or bs k 0 < 256
each_byte [] h k = lit< tt
each_byte (b ∷ bs) h zero = h.0
each_byte (b ∷ bs) h (suc k) = each_byte bs h.1 k

AreBytes-front : (bs more : List ℕ) → AreBytes (bs ++ more) → AreBytes bs
AreBytes-front [] more h = tt
AreBytes-front (b ∷ bs) more h = (h.0, AreBytes-front bs more h.1)

pub AreBytes-behind : (bs more : List ℕ) → AreBytes (bs ++ more) → AreBytes more
AreBytes-behind [] more h = h
AreBytes-behind (b ∷ bs) more h = AreBytes-behind bs more h.1

-- a choice that reads something
pub if_read : {A : Type 0} (b : Bool) (rest : List ℕ) (o : Reading A) (p : A × List ℕ) → cond b (Err rest) o ≡ Ok p → (b ≡ false) × (o ≡ Ok p)
if_read true rest o p e = cc
if_read false rest o p e = (refl, e)

-- what is read is one thing
pub read_is : {A : Type 0} (x y : A) (a b : List ℕ) → ◌≡◌ {A = Reading A} (Ok (x, a)) (Ok (y, b)) → (x ≡ y) × (a ≡ b)
read_is {A} x y a b e =
    let first : Reading A → A = λ r. elim r [ Ok p ↦ p.0 | Err rest ↦ x ] in
    let second : Reading A → List ℕ = λ r. elim r [ Ok p ↦ p.1 | Err rest ↦ rest ] in
    (ap first e, ap second e)

-- a number that is there is read
pub number_ahead : (w : Width) (b rest : List ℕ) → length b ≡ byte_len w → number_in w (b ++ rest) ≡ Ok (from_be_bytes w b, rest)
unfolding number_in
number_ahead w b rest e =
    let enough : byte_len w ≤ length (b ++ rest) = omega (arith, length-append b rest) in
    rw (le-ltb _ _ enough, ← e, take-append_seam b rest, drop-append_seam b rest) refl

-- a number that was read was there
pub number_behind : (w : Width) (field rest : List ℕ) (n : ℕ) → number_in w field ≡ Ok (n, rest)
    → (b : List ℕ) × (field ≡ b ++ rest) × (length b ≡ byte_len w) × (n ≡ from_be_bytes w b)
unfolding number_in
number_behind w field rest n e = elim (cases_lt (length field) (byte_len w)) [
  | inl short ↦ let no : ltb (length field) (byte_len w) ≡ true = lt-ltb _ _ short in absurd (cc)
  | inr enough ↦
      let yes : ltb (length field) (byte_len w) ≡ false = le-ltb _ _ enough in
      let pair = if_read (ltb (length field) (byte_len w)) field (Ok (from_be_bytes w (take (byte_len w) field), drop (byte_len w) field)) (n, rest) e in
      let same = read_is (from_be_bytes w (take (byte_len w) field)) n (drop (byte_len w) field) rest pair.1 in
      (take (byte_len w) field, sym (take-append-drop (byte_len w) field) ∙ ap (λ more. take (byte_len w) field ++ more) same.1, length-take-le (byte_len w) field enough, sym same.0)
]

pub length-two_bytes : (n : ℕ) → length (two_bytes n) ≡ 2
unfolding two_bytes
length-two_bytes n = refl

pub length-four_bytes : (n : ℕ) → length (four_bytes n) ≡ 4
unfolding four_bytes
length-four_bytes n = refl

pub two_ahead : (n : ℕ) (rest : List ℕ) → n < 2 ^ 16 → number_in w16 (two_bytes n ++ rest) ≡ Ok (n, rest)
unfolding two_bytes
two_ahead n rest h = number_ahead w16 (to_be_bytes w16 n) rest refl ∙ ap (λ m. Ok (m, rest)) (from_be_bytes-to_be_bytes_2 n h)

pub four_ahead : (n : ℕ) (rest : List ℕ) → n < 2 ^ 32 → number_in w32 (four_bytes n ++ rest) ≡ Ok (n, rest)
unfolding four_bytes
four_ahead n rest h = number_ahead w32 (to_be_bytes w32 n) rest refl ∙ ap (λ m. Ok (m, rest)) (from_be_bytes-to_be_bytes_4 n h)

pub eight_ahead : (n : ℕ) (rest : List ℕ) → n < 2 ^ 64 → number_in w64 (eight_bytes n ++ rest) ≡ Ok (n, rest)
unfolding eight_bytes
eight_ahead n rest h = number_ahead w64 (to_be_bytes w64 n) rest refl ∙ ap (λ m. Ok (m, rest)) (from_be_bytes-to_be_bytes_8 n h)

-- what a reading of bytes found: they are the bytes of a thing that fits, and then other bytes
pub record Found {A : Type 0} (bytes : A → List ℕ) (Fit : A → Type 0) (field : List ℕ) (x : A) (rest : List ℕ) : Type 0 where
  pub is : field ≡ bytes x ++ rest
  pub fits : Fit x
  pub left : AreBytes rest

pub two_behind : (field rest : List ℕ) (n : ℕ) → AreBytes field → number_in w16 field ≡ Ok (n, rest) → Found two_bytes (λ n. n < 2 ^ 16) field n rest
unfolding two_bytes
two_behind field rest n h e =
    let w = number_behind w16 field rest n e in
    let whole : AreBytes (w.0 ++ rest) = subst AreBytes w.1 h in
    let each = each_byte w.0 (AreBytes-front w.0 rest whole) in
    record {
      is = w.1 ∙ ap (λ b. b ++ rest) (sym (be_bytes_2 w.0 n w.2 each w.3));
      fits = omega (arith, each 0, each 1, w.3);
      left = AreBytes-behind w.0 rest whole;
    }

pub four_behind : (field rest : List ℕ) (n : ℕ) → AreBytes field → number_in w32 field ≡ Ok (n, rest) → Found four_bytes (λ n. n < 2 ^ 32) field n rest
unfolding four_bytes
four_behind field rest n h e =
    let w = number_behind w32 field rest n e in
    let whole : AreBytes (w.0 ++ rest) = subst AreBytes w.1 h in
    let each = each_byte w.0 (AreBytes-front w.0 rest whole) in
    record {
      is = w.1 ∙ ap (λ b. b ++ rest) (sym (be_bytes_4 w.0 n w.2 each w.3));
      fits = omega (arith, each 0, each 1, each 2, each 3, w.3);
      left = AreBytes-behind w.0 rest whole;
    }

pub eight_behind : (field rest : List ℕ) (n : ℕ) → AreBytes field → number_in w64 field ≡ Ok (n, rest) → Found eight_bytes (λ n. Unit {0}) field n rest
unfolding eight_bytes
eight_behind field rest n h e =
    let w = number_behind w64 field rest n e in
    let whole : AreBytes (w.0 ++ rest) = subst AreBytes w.1 h in
    let each = each_byte w.0 (AreBytes-front w.0 rest whole) in
    record {
      is = w.1 ∙ ap (λ b. b ++ rest) (sym (be_bytes_8 w.0 n w.2 each w.3));
      fits = tt;
      left = AreBytes-behind w.0 rest whole;
    }
