-- What calls of the reader tell, one after another.
use Rattle.std.proofs.Common.{◌≡◌, ◌∙◌, ap, sym, subst, refl, ℕ, suc, ◌-◌, ◌<◌, ◌≤◌, List, [], ◌∷◌, ◌++◌, length, take, drop, get_or, Result, Ok, Err, append_assoc, append-nil, lt-ltb, le-ltb, ne_eqb, inl, inr, arith, w16, w32, w64}
use Rattle.std.proofs.Math.Seq.{take-length}
use Rattle.std.proofs.lemmas.List.{length-drop}
use Rattle.std.specs.Int.{Width, byte_len, from_be_bytes}
use Rattle.std.proofs.lemmas.Result.{err_from_is_err_and}
use Rattle.std.specs.Result.{IsErrAnd}
use Rattle.swf_record.specs.Decodes.{Reading, ◌>>=◌, number_in, many_in, load_in, start_in, event_in, reply_in, moment_in, step_in, label_in}
use Rattle.swf_record.specs.Told.{told, Tells}
use Rattle.swf_record.specs.declared.reader.Stop.{Stop}
use Rattle.swf_record.specs.declared.reader.Stop.TheVariants.{OutOfMemory}

-- a call that stops ends what goes on from it
pub stopped : {A B C D : Type 0} (g : A → B) (f : C → D) (result : Result C Stop) (e : Stop) (rest : List ℕ) (r : Reading B) (k : B × List ℕ → Reading D)
    → result ≡ Err e → Tells g (Err e) rest r → Tells f result rest (r >>= k)
stopped g f result e rest r k same (inl m) = let memory : e ≡ OutOfMemory = cc in inl (same ∙ ap Err memory)
stopped g f result e rest r k same (inr t) = inr (ap (λ r. told f r rest) same ∙ ap (λ r. r >>= k) t)

-- the same behind a `?`
pub passed_on : {A B C D : Type 0} (g : A → B) (f : C → D) (result : Result C Stop) (e : Stop) (rest : List ℕ) (r : Reading B) (k : B × List ℕ → Reading D)
    → IsErrAnd result (λ y. y ≡ e) → Tells g (Err e) rest r → Tells f result rest (r >>= k)
passed_on g f result e rest r k same t = let p = err_from_is_err_and result same in stopped g f result e rest r k (p.1 ∙ ap Err p.2) t

-- the last call behind a `?`
pub again : {A B C : Type 0} (g : A → B) (f : C → B) (result : Result C Stop) (e : Stop) (rest : List ℕ) (r : Reading B)
    → IsErrAnd result (λ y. y ≡ e) → Tells g (Err e) rest r → Tells f result rest r
again g f result e rest r same (inl m) =
    let p = err_from_is_err_and result same in
    let memory : e ≡ OutOfMemory = cc in
    inl (p.1 ∙ ap Err (p.2 ∙ memory))
again g f result e rest r same (inr t) = let p = err_from_is_err_and result same in inr (ap (λ r. told f r rest) p.1 ∙ t)

-- a call that does not stop tells what it read
pub read : {A B : Type 0} (g : A → B) (x : A) (rest : List ℕ) (r : Reading B) → Tells g (Ok x) rest r → r ≡ Ok (g x, rest)
read g x rest r (inl m) = cc
read g x rest r (inr t) = sym t

-- what goes on behind it
pub then_tells : {B C D : Type 0} (f : C → D) (result : Result C Stop) (rest : List ℕ) (r : Reading B) (p : B × List ℕ) (k : B × List ℕ → Reading D)
    → r ≡ Ok p → Tells f result rest (k p) → Tells f result rest (r >>= k)
then_tells f result rest r p k e t = subst (λ r. Tells f result rest (r >>= k)) (sym e) t

-- a number that is cut
pub number_cut : (w : Width) (rest : List ℕ) → length rest < byte_len w → number_in w rest ≡ Err rest
unfolding number_in
number_cut w rest h = rw (lt-ltb (length rest) (byte_len w) h) refl

-- a number that is there, by its bytes
pub two_there : (rest : List ℕ) (n : ℕ) → 2 ≤ length rest → n ≡ from_be_bytes w16 (get_or rest 0 0 ∷ get_or rest 1 0 ∷ []) → number_in w16 rest ≡ Ok (n, drop 2 rest)
unfolding number_in
two_there [] n h e = absurd (omega arith)
two_there (a ∷ []) n h e = absurd (omega arith)
two_there (a ∷ b ∷ rest) n h e = rw (le-ltb (length (a ∷ b ∷ rest)) 2 h) (ap (λ m. Ok (m, rest)) (sym e))

pub four_there : (rest : List ℕ) (n : ℕ) → 4 ≤ length rest → n ≡ from_be_bytes w32 (get_or rest 0 0 ∷ get_or rest 1 0 ∷ get_or rest 2 0 ∷ get_or rest 3 0 ∷ []) → number_in w32 rest ≡ Ok (n, drop 4 rest)
unfolding number_in
four_there [] n h e = absurd (omega arith)
four_there (a ∷ []) n h e = absurd (omega arith)
four_there (a ∷ b ∷ []) n h e = absurd (omega arith)
four_there (a ∷ b ∷ c ∷ []) n h e = absurd (omega arith)
four_there (a ∷ b ∷ c ∷ d ∷ rest) n h e = rw (le-ltb (length (a ∷ b ∷ c ∷ d ∷ rest)) 4 h) (ap (λ m. Ok (m, rest)) (sym e))

pub eight_there : (rest : List ℕ) (n : ℕ) → 8 ≤ length rest → n ≡ from_be_bytes w64 (get_or rest 0 0 ∷ get_or rest 1 0 ∷ get_or rest 2 0 ∷ get_or rest 3 0 ∷ get_or rest 4 0 ∷ get_or rest 5 0 ∷ get_or rest 6 0 ∷ get_or rest 7 0 ∷ []) → number_in w64 rest ≡ Ok (n, drop 8 rest)
unfolding number_in
eight_there (a ∷ b ∷ c ∷ d ∷ e ∷ f ∷ g ∷ h ∷ rest) n l is = rw (le-ltb (length (a ∷ b ∷ c ∷ d ∷ e ∷ f ∷ g ∷ h ∷ rest)) 8 l) (ap (λ m. Ok (m, rest)) (sym is))
eight_there rest n l is = absurd (omega arith)

-- all that is left behind n bytes
pub rest_of : (n : ℕ) (rest : List ℕ) → take (length rest - n) (drop n rest) ≡ drop n rest
rest_of n rest = ap (λ m. take m (drop n rest)) (sym (length-drop n rest)) ∙ take-length (drop n rest)

-- what was read before, in front
abbrev pub in_front : {A : Type 0} → List A → Reading (List A) → Reading (List A)
in_front xs r = r >>= λ p. Ok (xs ++ p.0, p.1)

in_front_later : {A : Type 0} (xs : List A) (x : A) (r : Reading (List A)) → in_front xs (r >>= λ p. Ok (x ∷ p.0, p.1)) ≡ in_front (xs ++ x ∷ []) r
in_front_later xs x (Ok p) = ap (λ ys. Ok (ys, p.1)) (sym (append_assoc xs (x ∷ []) p.0))
in_front_later xs x (Err rest) = refl

-- one more is read
pub one_more : {A : Type 0} (one : List ℕ → Reading A) (xs : List A) (x : A) (left n : ℕ) (rest more : List ℕ) → left ≡ suc n → one rest ≡ Ok (x, more)
    → in_front xs (many_in one left rest) ≡ in_front (xs ++ x ∷ []) (many_in one n more)
unfolding many_in
one_more one xs x left n rest more count e = rw (count, e) (in_front_later xs x (many_in one n more))

unread : {A : Type 0} (one : List ℕ → Reading A) (xs : List A) (left n : ℕ) (rest behind : List ℕ) → left ≡ suc n → one rest ≡ Err behind → in_front xs (many_in one left rest) ≡ Err behind
unfolding many_in
unread one xs left n rest behind count e = rw (count, e) refl

-- one does not fit
pub no_more : {A B C : Type 0} (one : List ℕ → Reading A) (g : B → A) (f : C → List A) (result : Result C Stop) (e : Stop) (xs : List A) (left n : ℕ) (rest behind : List ℕ) → left ≡ suc n
    → IsErrAnd result (λ y. y ≡ e) → Tells g (Err e) behind (one rest) → Tells f result behind (in_front xs (many_in one left rest))
no_more one g f result e xs left n rest behind count same (inl m) =
    let p = err_from_is_err_and result same in
    let memory : e ≡ OutOfMemory = cc in
    inl (p.1 ∙ ap Err (p.2 ∙ memory))
no_more one g f result e xs left n rest behind count same (inr t) =
    let p = err_from_is_err_and result same in
    inr (ap (λ r. told f r behind) p.1 ∙ sym (unread one xs left n rest behind count (sym t)))

-- all were read
pub all_read : {A : Type 0} (one : List ℕ → Reading A) (xs : List A) (left : ℕ) (rest : List ℕ) → left ≡ 0 → in_front xs (many_in one left rest) ≡ Ok (xs, rest)
unfolding many_in
all_read one xs left rest none = rw none (ap (λ ys. Ok (ys, rest)) (append-nil xs))

-- ---- a label by its tag

pub no_label : (field : List ℕ) → length field ≡ 0 → label_in field ≡ Err field
unfolding label_in
no_label [] e = refl
no_label (tag ∷ rest) e = absurd (omega arith)

pub load_label : (field rest : List ℕ) (tag : ℕ) → field ≡ tag ∷ rest → tag ≡ 1 → label_in field ≡ load_in rest
unfolding label_in
load_label field rest tag e t = rw (e, t) refl

pub start_label : (field rest : List ℕ) (tag : ℕ) → field ≡ tag ∷ rest → tag ≡ 2 → label_in field ≡ start_in rest
unfolding label_in
start_label field rest tag e t = rw (e, t) refl

pub event_label : (field rest : List ℕ) (tag : ℕ) → field ≡ tag ∷ rest → tag ≡ 3 → label_in field ≡ event_in rest
unfolding label_in
event_label field rest tag e t = rw (e, t) refl

pub reply_label : (field rest : List ℕ) (tag : ℕ) → field ≡ tag ∷ rest → tag ≡ 4 → label_in field ≡ reply_in rest
unfolding label_in
reply_label field rest tag e t = rw (e, t) refl

pub moment_label : (field rest : List ℕ) (tag : ℕ) → field ≡ tag ∷ rest → tag ≡ 5 → label_in field ≡ moment_in rest
unfolding label_in
moment_label field rest tag e t = rw (e, t) refl

pub step_label : (field rest : List ℕ) (tag : ℕ) → field ≡ tag ∷ rest → tag ≡ 6 → label_in field ≡ step_in rest
unfolding label_in
step_label field rest tag e t = rw (e, t) refl

pub other_label : (field rest : List ℕ) (tag : ℕ) → field ≡ tag ∷ rest → (tag ≡ 1 → ⊥) → (tag ≡ 2 → ⊥) → (tag ≡ 3 → ⊥) → (tag ≡ 4 → ⊥) → (tag ≡ 5 → ⊥) → (tag ≡ 6 → ⊥) → label_in field ≡ Err field
unfolding label_in
other_label field rest tag e one two three four five six = rw (e, ne_eqb tag 1 one, ne_eqb tag 2 two, ne_eqb tag 3 three, ne_eqb tag 4 four, ne_eqb tag 5 five, ne_eqb tag 6 six) refl

-- the same reading
pub tells_same : {C D : Type 0} (f : C → D) (result : Result C Stop) (rest : List ℕ) (r s : Reading D) → s ≡ r → Tells f result rest r → Tells f result rest s
tells_same f result rest r s e t = subst (Tells f result rest) (sym e) t
