-- Fields are read as what their bytes stand for, and only so.
use Rattle.std.proofs.Common.{◌≡◌, ◌∙◌, ap, ap₂, sym, subst, refl, ℕ, zero, suc, ◌<◌, ◌≤◌, ◌^◌, List, [], ◌∷◌, ◌++◌, length, take, drop, chars, Option, Some, None, Result, Ok, Err, true, false, Bool, cond, ltb, lt-ltb, le-ltb, inl, inr, arith, w16, w32, append_assoc}
use Rattle.std.proofs.Math.Seq.{take-append_seam, drop-append_seam}
use Rattle.std.proofs.lemmas.Bool.{cases_lt}
use Rattle.std.proofs.lemmas.List.{take-append-drop, length-append, length-take-le}
use Rattle.std.proofs.lemmas.Slice.Eq.{bytes_eq-Decides}
use Rattle.std.proofs.lemmas.Str.{chars-encodes, encodes-chars, scalars-chars, IsUtf8-from_is_utf8, is_utf8-from_IsUtf8}
use Rattle.std.specs.List.{AllByRecursion, flat_map}
use Rattle.std.specs.Result.{result_ok}
use Rattle.std.specs.Str.{is_utf8, encode_utf8_all, all_scalars, bytes_eq}
use Rattle.swf_value.specs.Value.{Value, IsValue, depth}
use Rattle.swf_value.specs.Written.{written}
use Rattle.swf_value.specs.Read.{read_within}
use Rattle.swf_value.specs.declared.fault.ValueFault.{ValueFault}
use Rattle.swf_record.specs.Encodes.{two_bytes, four_bytes, block_bytes, text_bytes, value_bytes, strand_bytes, FitsText, FitsValue, FitsStrand}
use Rattle.swf_record.specs.Decodes.{Reading, ◌>>=◌, number_in, counted, block_in, meant, text_in, if_written, compact, value_in, many_in, strand_in}
use Rattle.swf_record.proofs.Bytes.{AreBytes, AreBytes-behind, if_read, read_is, Found, two_ahead, two_behind, four_ahead, four_behind}
use Rattle.swf_value.proofs.Data.{data_of, whole-data_of, depth-data_of}
use Rattle.swf_value.proofs.Depths.{depth-read}
use Rattle.swf_value.proofs.ReadsBack.{read-written, IsUtf8-written}
use Rattle.swf_value.proofs.Readings.{shallow}

-- what was read, and then what was read behind it
pub then_read : {A B : Type 0} (r : Reading A) (f : A × List ℕ → Reading B) (q : B × List ℕ) → (r >>= f) ≡ Ok q → (p : A × List ℕ) × (r ≡ Ok p) × (f p ≡ Ok q)
then_read (Ok p) f q e = (p, refl, e)
then_read (Err rest) f q e = cc

-- ---- bytes behind their count

counted_ahead : (field b rest : List ℕ) → length b ≤ length (b ++ rest) → counted field (length b, b ++ rest) ≡ Ok (b, rest)
counted_ahead field b rest h = rw (le-ltb (length (b ++ rest)) (length b) h, take-append_seam b rest, drop-append_seam b rest) refl

pub block_ahead : (b rest : List ℕ) → length b < 2 ^ 32 → block_in (block_bytes b ++ rest) ≡ Ok (b, rest)
unfolding block_in
block_ahead b rest h =
    let enough : length b ≤ length (b ++ rest) = omega (arith, length-append b rest) in
    let all : List ℕ = block_bytes b ++ rest in
    let read : number_in w32 all ≡ Ok (length b, b ++ rest) = ap (number_in w32) (append_assoc (four_bytes (length b)) b rest) ∙ four_ahead (length b) (b ++ rest) h in
    ap (λ r. r >>= counted all) read ∙ counted_ahead all b rest enough

pub block_behind : (field rest b : List ℕ) → AreBytes field → block_in field ≡ Ok (b, rest) → Found block_bytes (λ b. length b < 2 ^ 32) field b rest
unfolding block_in
block_behind field rest b h e =
    let n = then_read (number_in w32 field) (counted field) (b, rest) e in
    let found = four_behind field n.0.1 n.0.0 h n.1 in
    let enough = if_read (ltb (length n.0.1) n.0.0) field (Ok (take n.0.0 n.0.1, drop n.0.0 n.0.1)) (b, rest) n.2 in
    let same = read_is (take n.0.0 n.0.1) b (drop n.0.0 n.0.1) rest enough.1 in
    let count : length b ≡ n.0.0 = elim (cases_lt (length n.0.1) n.0.0) [
      | inl short ↦ let no : ltb (length n.0.1) n.0.0 ≡ true = lt-ltb _ _ short in absurd (let no2 : ltb (length n.0.1) n.0.0 ≡ false = enough.0 in cc)
      | inr long ↦ ap length (sym same.0) ∙ length-take-le n.0.0 n.0.1 long
    ] in
    let behind : n.0.1 ≡ b ++ rest = sym (take-append-drop n.0.0 n.0.1) ∙ ap₂ (λ (x y : List ℕ). x ++ y) same.0 same.1 in
    record {
      is = found.is ∙ ap₂ (λ m more. four_bytes m ++ more) (sym count) behind ∙ sym (append_assoc (four_bytes (length b)) b rest);
      fits = omega (arith, found.fits, count);
      left = AreBytes-behind b rest (subst AreBytes behind found.left);
    }

-- ---- texts

-- what a field stands for, where it stands for something
pub meant_is : {A : Type 0} (field rest : List ℕ) (o : Option A) (x : A) (more : List ℕ) → meant field rest o ≡ Ok (x, more) → (o ≡ Some x) × (rest ≡ more)
meant_is field rest None x more e = cc
meant_is field rest (Some y) x more e = let same = read_is y x rest more e in (ap Some same.0, same.1)

pub if_some : {A : Type 0} (b : Bool) (x y : A) → cond b (Some x) None ≡ Some y → (b ≡ true) × (x ≡ y)
if_some true x y e = (refl, cc)
if_some false x y e = cc

utf8-encodes : (t : List ℕ) → all_scalars t ≡ true → is_utf8 (encode_utf8_all t) ≡ true
utf8-encodes t h = is_utf8-from_IsUtf8 (encode_utf8_all t) (t, (h, refl))

pub text_ahead : (t rest : List ℕ) → FitsText t → text_in (text_bytes t ++ rest) ≡ Ok (t, rest)
unfolding text_in text_bytes
text_ahead t rest h = rw (block_ahead (encode_utf8_all t) rest h.short, utf8-encodes t h.scalars, chars-encodes t h.scalars) refl

pub text_behind : (field rest t : List ℕ) → AreBytes field → text_in field ≡ Ok (t, rest) → Found text_bytes FitsText field t rest
unfolding text_in text_bytes
text_behind field rest t h e =
    let b = then_read (block_in field) _ (t, rest) e in
    let found = block_behind field b.0.1 b.0.0 h b.1 in
    let text = meant_is field b.0.1 (cond (is_utf8 b.0.0) (Some (chars b.0.0)) None) t rest b.2 in
    let read = if_some (is_utf8 b.0.0) (chars b.0.0) t text.0 in
    let utf8 = IsUtf8-from_is_utf8 b.0.0 read.0 in
    let same : b.0.0 ≡ encode_utf8_all t = sym (encodes-chars b.0.0 utf8) ∙ ap encode_utf8_all read.1 in
    record {
      is = found.is ∙ ap₂ (λ b more. block_bytes b ++ more) same text.1;
      fits = record { scalars = ap all_scalars (sym read.1) ∙ scalars-chars b.0.0 utf8; short = subst (λ b. length b < 2 ^ 32) same found.fits };
      left = subst AreBytes text.1 found.left;
    }

-- ---- values

-- each value that nests at most so deep as is read is read again from its text
pub read_again : (most : ℕ) (v : Value) → most ≤ 127 → IsValue v → depth v ≤ most → read_within most (written v) ≡ Ok v
read_again most v below valued nests = shallow most (written v) (data_of v) (Some v) (IsUtf8-written v valued, read-written v valued (omega arith)) (omega (arith, depth-data_of v)) (sym (whole-data_of v valued))

compact_ahead : (most : ℕ) (v : Value) → FitsValue most v → compact most (written v) ≡ Some v
unfolding compact
compact_ahead most v h = rw (h.again, (bytes_eq-Decides (written v) (written v)).1 refl) refl

if_written_is : (b : List ℕ) (r : Result Value ValueFault) (v : Value) → if_written b (result_ok r) ≡ Some v → (written v ≡ b) × (r ≡ Ok v)
if_written_is b (Err e) v h = cc
if_written_is b (Ok x) v h =
    let p = if_some (bytes_eq (written x) b) x v h in
    (ap written (sym p.1) ∙ (bytes_eq-Decides (written x) b).0 p.0, ap Ok p.1)

compact_behind : (most : ℕ) (b : List ℕ) (v : Value) → compact most b ≡ Some v → (written v ≡ b) × (read_within most b ≡ Ok v)
unfolding compact
compact_behind most b v e = if_written_is b (read_within most b) v e

pub value_ahead : (most : ℕ) (v : Value) (rest : List ℕ) → FitsValue most v → value_in most (value_bytes v ++ rest) ≡ Ok (v, rest)
unfolding value_in value_bytes
value_ahead most v rest h = rw (block_ahead (written v) rest h.short, compact_ahead most v h) refl

-- a value that is read also nests at most so deep
pub value_behind : (most : ℕ) (field rest : List ℕ) (v : Value) → AreBytes field → value_in most field ≡ Ok (v, rest) → Found value_bytes (λ v. (depth v ≤ most) × FitsValue most v) field v rest
unfolding value_in value_bytes
value_behind most field rest v h e =
    let b = then_read (block_in field) _ (v, rest) e in
    let found = block_behind field b.0.1 b.0.0 h b.1 in
    let value = meant_is field b.0.1 (compact most b.0.0) v rest b.2 in
    let read = compact_behind most b.0.0 v value.0 in
    record {
      is = found.is ∙ ap₂ (λ b more. block_bytes b ++ more) (sym read.0) value.1;
      fits = (depth-read most b.0.0 v read.1, record { short = subst (λ b. length b < 2 ^ 32) (sym read.0) found.fits; again = subst (λ b. read_within most b ≡ Ok v) (sym read.0) read.1 });
      left = subst AreBytes value.1 found.left;
    }

-- ---- many of a kind

pub many_ahead : {A : Type 0} (one : List ℕ → Reading A) (bytes : A → List ℕ) (Fit : A → Type 0)
    → ((x : A) (rest : List ℕ) → Fit x → one (bytes x ++ rest) ≡ Ok (x, rest))
    → (xs : List A) (rest : List ℕ) → AllByRecursion Fit xs → many_in one (length xs) (flat_map bytes xs ++ rest) ≡ Ok (xs, rest)
unfolding many_in
many_ahead one bytes Fit ahead [] rest h = refl
many_ahead one bytes Fit ahead (x ∷ xs) rest h =
    ap (λ field. one field >>= λ x. many_in one (length xs) x.1 >>= λ xs. Ok (x.0 ∷ xs.0, xs.1)) (append_assoc (bytes x) (flat_map bytes xs) rest)
    ∙ rw (ahead x (flat_map bytes xs ++ rest) h.0, many_ahead one bytes Fit ahead xs rest h.1) refl

pub many_behind : {A : Type 0} (one : List ℕ → Reading A) (bytes : A → List ℕ) (Fit : A → Type 0)
    → ((field rest : List ℕ) (x : A) → AreBytes field → one field ≡ Ok (x, rest) → Found bytes Fit field x rest)
    → (n : ℕ) (field rest : List ℕ) (xs : List A) → AreBytes field → many_in one n field ≡ Ok (xs, rest)
    → (length xs ≡ n) × Found (flat_map bytes) (AllByRecursion Fit) field xs rest
unfolding many_in
many_behind one bytes Fit behind zero field rest xs h e =
    let same = read_is [] xs field rest e in
    (ap length (sym same.0), record { is = same.1 ∙ ap (λ xs. flat_map bytes xs ++ rest) same.0; fits = subst (AllByRecursion Fit) same.0 tt; left = subst AreBytes same.1 h })
many_behind one bytes Fit behind (suc n) field rest xs h e =
    let x = then_read (one field) _ (xs, rest) e in
    let first = behind field x.0.1 x.0.0 h x.1 in
    let more = then_read (many_in one n x.0.1) _ (xs, rest) x.2 in
    let later = many_behind one bytes Fit behind n x.0.1 more.0.1 more.0.0 first.left more.1 in
    let same = read_is (x.0.0 ∷ more.0.0) xs more.0.1 rest more.2 in (
      ap length (sym same.0) ∙ ap suc later.0,
      record {
        is = first.is ∙ ap (λ more. bytes x.0.0 ++ more) later.1.is ∙ sym (append_assoc (bytes x.0.0) (flat_map bytes more.0.0) more.0.1) ∙ ap₂ (λ xs more. flat_map bytes xs ++ more) same.0 same.1;
        fits = subst (AllByRecursion Fit) same.0 (first.fits, later.1.fits);
        left = subst AreBytes same.1 later.1.left;
      },
    )

-- ---- strands

pub strand_ahead : (s rest : List ℕ) → FitsStrand s → strand_in (strand_bytes s ++ rest) ≡ Ok (s, rest)
unfolding strand_in strand_bytes
strand_ahead s rest h =
    ap (λ field. number_in w16 field >>= λ n. many_in (number_in w16) n.0 n.1) (append_assoc (two_bytes (length s)) (flat_map two_bytes s) rest)
    ∙ rw (two_ahead (length s) (flat_map two_bytes s ++ rest) h.short, many_ahead (number_in w16) two_bytes (λ n. n < 2 ^ 16) two_ahead s rest h.small) refl

pub strand_behind : (field rest s : List ℕ) → AreBytes field → strand_in field ≡ Ok (s, rest) → Found strand_bytes FitsStrand field s rest
unfolding strand_in strand_bytes
strand_behind field rest s h e =
    let n = then_read (number_in w16 field) _ (s, rest) e in
    let count = two_behind field n.0.1 n.0.0 h n.1 in
    let found = many_behind (number_in w16) two_bytes (λ n. n < 2 ^ 16) two_behind n.0.0 n.0.1 rest s count.left n.2 in
    record {
      is = count.is ∙ ap₂ (λ m more. two_bytes m ++ more) (sym found.0) found.1.is ∙ sym (append_assoc (two_bytes (length s)) (flat_map two_bytes s) rest);
      fits = record { short = omega (arith, count.fits, found.0); small = found.1.fits };
      left = found.1.left;
    }
