-- Bytes have one verdict at most.
use Rattle.std.proofs.Common.{◌≡◌, ℕ, zero, suc, true, ◌+◌, ◌-◌, ◌<◌, ◌≤◌, List, [], ◌∷◌, ◌++◌, length, take, drop, refl, sym, ap, ◌∙◌, subst, All, arith, append_assoc, append-nil, take-append-drop, inl, inr}
use Rattle.std.proofs.lemmas.Bool.{cases_lt}
use Rattle.std.proofs.lemmas.List.{take-append-le}
use Rattle.std.proofs.lemmas.List.Elements.{All-nil, All-cons, All-take}
use Rattle.std.proofs.lemmas.Str.{IsUtf8-from_ascii}
use Rattle.std.proofs.lemmas.Str.Ascii.{IsAscii-cons, IsAscii-nil}
use Rattle.std.proofs.Math.Seq.{take-append-add}
use Rattle.httparse.specs.Grammar.{LineEnd, lf, print_end, print_blank, print_version, print_section, IsField, RequestHead, print_request, IsRequestHead, ReadsRequest, NeverHasRequest, EndsInTarget, is_uri_byte, IsToken, ResponseHead, print_response, IsResponseHead, ReadsResponse, ChunkLine, print_chunk_line, IsChunkLine, ReadsChunkLine}
use Rattle.httparse.proofs.GrammarLemmas.{request_unique, print_request-append, response_unique, section_unique}
use Rattle.httparse.proofs.ChunkLemmas.{chunk_line_unique}
use Rattle.swf_http.specs.Pieces.{Form, request_form, response_form, line_form, trailer_form, Section, SaysPiece}
use Rattle.swf_http.specs.Limits.{most_head}
use Rattle.swf_http.specs.Requests.{SaysRequest, behind_head}
use Rattle.swf_http.specs.Framing.{judge}
use Rattle.swf_http.specs.Verdicts.{Verdict, whole, ended, long, bad, Stops, Then, OneVerdict}

-- ---- what grammars have in common

-- bytes read as one tree at most, a tree is read from a first part that holds it, and what begins a tree, what holds one and what begins none are apart
pub record IsLawful (A : Type 0) (F : Form A) : Type 0 where
  pub unique : (bytes : List ℕ) (a b : A) (r q : List ℕ) → F.Reads bytes a r → F.Reads bytes b q → (a ≡ b) × (r ≡ q)
  pub front : (bytes : List ℕ) (a : A) (rest : List ℕ) (m : ℕ) → F.Reads bytes a rest → length (F.print a) ≤ m → (left : List ℕ) × F.Reads (take m bytes) a left
  pub begun : (bytes : List ℕ) (a : A) (rest : List ℕ) → F.Begins bytes → F.Reads bytes a rest → ⊥
  pub never : (bytes : List ℕ) (n : ℕ) (a : A) (rest : List ℕ) → F.BeginsNone (take n bytes) → F.Reads bytes a rest → ⊥
  pub apart : (bytes : List ℕ) (n : ℕ) → F.Begins bytes → F.BeginsNone (take n bytes) → ⊥

front_of : {A : Type 0} (Is : A → Type 0) (print : A → List ℕ) (bytes : List ℕ) (a : A) (rest : List ℕ) (m : ℕ) → Is a × (bytes ≡ print a ++ rest)
    → length (print a) ≤ m → (left : List ℕ) × (Is a × (take m bytes ≡ print a ++ left))
front_of Is print bytes a rest m reads short =
    let text : List ℕ = print a in
    let on : m ≡ length text + (m - length text) = omega arith in (
      take (m - length text) rest,
      (
        reads.0,
        ap (λ (t : List ℕ). take m t) reads.1 ∙ ap (λ (k : ℕ). take k (text ++ rest)) on
            ∙ take-append-add text rest (m - length text),
      ),
    )

-- what reads as a tree goes on from each of its first parts
never_of_whole : {A : Type 0} (Reads : List ℕ → A → List ℕ → Type 0) (bytes more : List ℕ) (n : ℕ) (a : A) (rest : List ℕ)
    → ((extra : List ℕ) (b : A) (r : List ℕ) → Reads (take n bytes ++ extra) b r → ⊥) → Reads (bytes ++ more) a rest → ⊥
never_of_whole Reads bytes more n a rest none reads =
    let same : take n bytes ++ (drop n bytes ++ more) ≡ bytes ++ more =
    sym (append_assoc (take n bytes) (drop n bytes) more)
    ∙ ap (λ (t : List ℕ). t ++ more) (take-append-drop n bytes) in
    none (drop n bytes ++ more) a rest (rw same reads)

-- the same where nothing follows
never_whole : {A : Type 0} (Reads : List ℕ → A → List ℕ → Type 0) (bytes : List ℕ) (n : ℕ) (a : A) (rest : List ℕ)
    → ((extra : List ℕ) (b : A) (r : List ℕ) → Reads (take n bytes ++ extra) b r → ⊥) → Reads bytes a rest → ⊥
never_whole Reads bytes n a rest none reads =
    never_of_whole Reads bytes [] n a rest none (subst (λ (t : List ℕ). Reads t a rest) (sym (append-nil bytes)) reads)

take_front : {A : Type 0} (n m : ℕ) (xs : List A) → n ≤ m → take n (take m xs) ≡ take n xs
take_front zero m xs le = refl
take_front (suc n) zero xs le = absurd (omega arith)
take_front (suc n) (suc m) [] le = refl
take_front (suc n) (suc m) (x ∷ xs) le = ap (λ (t : List _). x ∷ t) (take_front n m xs (omega arith))

abbrev Uri : ℕ → Type 0
Uri b = is_uri_byte b ≡ true

-- ---- a head that is shown for what ends in a target

shown : List LineEnd → List ℕ → RequestHead
shown ends word = record {
  blank = ends;
  method = word;
  target = 47 ∷ [];
  minor = 1;
  line_end = lf;
  fields = [];
  last = lf;
}

tail : List ℕ
tail = (47 ∷ []) ++ 32 ∷ (print_version 1 ++ (print_end lf ++ (print_section [] lf ++ [])))

shown_reads : (ends : List LineEnd) (word : List ℕ) → IsToken word
    → ReadsRequest ((print_blank ends ++ word) ++ 32 ∷ tail) (shown ends word) []
unfolding shown tail
shown_reads ends word token = (
  record {
    method = token;
    target = (omega arith, All-cons Uri 47 [] refl (All-nil Uri));
    target_text = IsUtf8-from_ascii _ (IsAscii-cons 47 [] (omega arith) IsAscii-nil);
    minor = omega arith;
    fields = All-nil IsField;
  },
  append_assoc (print_blank ends) word (32 ∷ tail) ∙ sym (print_request-append (shown ends word) []),
)

-- ---- a first part of what begins a request's head begins one

-- what ends before the target goes on to the head that is shown
none_before_target : (bytes front target : List ℕ) (n : ℕ) (h : RequestHead) (more : List ℕ) → bytes ≡ front ++ target
    → n ≤ length front → ReadsRequest (front ++ more) h [] → NeverHasRequest (take n bytes) → ⊥
none_before_target bytes front target n h more split under reads never =
    let same : take n bytes ≡ take n front =
    ap (λ (t : List ℕ). take n t) split ∙ take-append-le n front target under in
    never_of_whole ReadsRequest front more n h [] (subst NeverHasRequest same never) reads

-- what ends in the target is more of it
still_in_target : (bytes front target : List ℕ) (n : ℕ) → bytes ≡ front ++ target → length front < n
    → take n bytes ≡ front ++ take (n - length front) target
still_in_target bytes front target n split over =
    let on : n ≡ length front + (n - length front) = omega arith in
    ap (λ (t : List ℕ). take n t) split ∙ ap (λ (k : ℕ). take k (front ++ target)) on
    ∙ take-append-add front target (n - length front)

none_of_target : (bytes : List ℕ) (n : ℕ) → EndsInTarget bytes → request_form.BeginsNone (take n bytes) → ⊥
none_of_target bytes n (ends, word, target, token, all, is) none =
    let front : List ℕ = (print_blank ends ++ word) ++ 32 ∷ [] in
    let split : bytes ≡ front ++ target =
    is ∙ sym (append_assoc (print_blank ends ++ word) (32 ∷ []) target) in
    let to_shown : front ++ tail ≡ (print_blank ends ++ word) ++ 32 ∷ tail =
    append_assoc (print_blank ends ++ word) (32 ∷ []) tail in
    let reads : ReadsRequest (front ++ tail) (shown ends word) [] = rw to_shown (shown_reads ends word token) in
    let rest : List ℕ = take (n - length front) target in
    elim (cases_lt (length front) n) [
      | inl over ↦
          none.1 (
            ends,
            word,
            rest,
            token,
            All-take Uri (n - length front) target all,
            still_in_target bytes front target n split over
                ∙ append_assoc (print_blank ends ++ word) (32 ∷ []) rest,
          )
      | inr under ↦ none_before_target bytes front target n (shown ends word) tail split under reads none.0
    ]

none_of_begun : (bytes : List ℕ) (n : ℕ) → request_form.Begins bytes → request_form.BeginsNone (take n bytes) → ⊥
none_of_begun bytes n (never_yet, inl (more, h, reads)) none = never_of_whole ReadsRequest bytes more n h [] none.0 reads
none_of_begun bytes n (never_yet, inr target) none = none_of_target bytes n target none

-- ---- the grammars

pub request_laws : IsLawful RequestHead request_form
request_laws = record {
  unique = request_unique;
  front = front_of IsRequestHead print_request;
  begun = λ bytes h rest begins reads. begins.0 h rest reads;
  never = λ bytes n h rest none reads. never_whole ReadsRequest bytes n h rest none.0 reads;
  apart = none_of_begun;
}

pub response_laws : IsLawful ResponseHead response_form
response_laws = record {
  unique = response_unique;
  front = front_of IsResponseHead print_response;
  begun = λ bytes h rest begins reads. begins.0 h rest reads;
  never = λ bytes n h rest none reads. never_whole ReadsResponse bytes n h rest none reads;
  apart = λ bytes n begins none. never_of_whole ReadsResponse bytes begins.1.0 n begins.1.1 [] none begins.1.2;
}

pub line_laws : IsLawful ChunkLine line_form
line_laws = record {
  unique = chunk_line_unique;
  front = front_of IsChunkLine print_chunk_line;
  begun = λ bytes l rest begins reads. begins.0 l rest reads;
  never = λ bytes n l rest none reads. never_whole ReadsChunkLine bytes n l rest none reads;
  apart = λ bytes n begins none. never_of_whole ReadsChunkLine bytes begins.1.0 n begins.1.1 [] none begins.1.2;
}

pub trailer_laws : IsLawful Section trailer_form
trailer_laws = record {
  unique = λ bytes s t r q a b.
      let same = section_unique bytes s.0 t.0 s.1 t.1 r q a b in
      (both s t same.0 same.1, same.2);
  front = λ bytes s rest m reads short. front_of {A = Section} (λ x. All IsField x.0) (λ x. print_section x.0 x.1) bytes s rest m reads short;
  begun = λ bytes s rest begins reads. begins.0 s.0 s.1 rest reads;
  never = λ bytes n s rest none reads. never_whole trailer_form.Reads bytes n s rest (λ extra b r. none extra b.0 b.1 r) reads;
  apart = λ bytes n begins none. never_of_whole trailer_form.Reads bytes begins.1.0 n (begins.1.1, begins.1.2) []
      (λ extra b r. none extra b.0 b.1 r) begins.1.3;
}
  where
    both : (s t : Section) → s.0 ≡ t.0 → s.1 ≡ t.1 → s ≡ t
    both (fs, a) (gs, b) p q = cc

-- ---- pairs of verdicts on a piece

whole_long : {A : Type 0} (F : Form A) → IsLawful A F → (room : ℕ) (bytes : List ℕ) (a : A) (rest : List ℕ) → SaysPiece F room bytes (whole a rest)
    → SaysPiece F room bytes long → ⊥
whole_long F laws room bytes a rest p q =
    let front = laws.front bytes a rest room p.0 p.1 in
    laws.begun (take room bytes) a front.0 q.1 front.1

long_bad : {A : Type 0} (F : Form A) → IsLawful A F → (room : ℕ) (bytes : List ℕ) → SaysPiece F room bytes long → SaysPiece F room bytes bad → ⊥
long_bad F laws room bytes p (n, le, none) =
    let same : take n (take room bytes) ≡ take n bytes = take_front n room bytes le in
    laws.apart (take room bytes) n p.1 (subst F.BeginsNone (sym same) none)

pub one_piece : {A : Type 0} (F : Form A) → IsLawful A F → (room : ℕ) → OneVerdict (SaysPiece F room)
one_piece F laws room bytes (whole h r) (whole k q) a b =
    let same = laws.unique bytes h k r q a.0 b.0 in
    cc (same.0, same.1)
one_piece F laws room bytes (whole h r) ended a b = absurd (laws.begun bytes h r b.1 a.0)
one_piece F laws room bytes (whole h r) long a b = absurd (whole_long F laws room bytes h r a b)
one_piece F laws room bytes (whole h r) bad a b = absurd (laws.never bytes b.0 h r b.2 a.0)
one_piece F laws room bytes ended (whole k q) a b = absurd (laws.begun bytes k q a.1 b.0)
one_piece F laws room bytes ended ended a b = refl
one_piece F laws room bytes ended long a b = absurd (omega (arith, a.0, b.0))
one_piece F laws room bytes ended bad a b = absurd (laws.apart bytes b.0 a.1 b.2)
one_piece F laws room bytes long (whole k q) a b = absurd (whole_long F laws room bytes k q b a)
one_piece F laws room bytes long ended a b = absurd (omega (arith, a.0, b.0))
one_piece F laws room bytes long long a b = refl
one_piece F laws room bytes long bad a b = absurd (long_bad F laws room bytes a b)
one_piece F laws room bytes bad (whole k q) a b = absurd (laws.never bytes a.0 k q a.2 b.0)
one_piece F laws room bytes bad ended a b = absurd (laws.apart bytes a.0 b.1 a.2)
one_piece F laws room bytes bad long a b = absurd (long_bad F laws room bytes b a)
one_piece F laws room bytes bad bad a b = refl

-- ---- pairs of verdicts on what stands behind

pub stops_whole : {A B : Type 0} (J : List ℕ → Verdict A → Type 0) → OneVerdict J → (bytes : List ℕ) (a : A) (rest : List ℕ) (w : Verdict B)
    → J bytes (whole a rest) → Stops J bytes w → ⊥
stops_whole J one bytes a rest (whole b r) j s = absurd s
stops_whole J one bytes a rest ended j s = cc (one bytes (whole a rest) ended j s)
stops_whole J one bytes a rest long j s = cc (one bytes (whole a rest) long j s)
stops_whole J one bytes a rest bad j s = cc (one bytes (whole a rest) bad j s)

pub stops_one : {A B : Type 0} (J : List ℕ → Verdict A → Type 0) → OneVerdict J → (bytes : List ℕ) (v w : Verdict B)
    → Stops J bytes v → Stops J bytes w → v ≡ w
stops_one J one bytes (whole a r) w s t = absurd s
stops_one J one bytes ended (whole a r) s t = absurd t
stops_one J one bytes ended ended s t = refl
stops_one J one bytes ended long s t = cc (one bytes ended long s t)
stops_one J one bytes ended bad s t = cc (one bytes ended bad s t)
stops_one J one bytes long (whole a r) s t = absurd t
stops_one J one bytes long ended s t = cc (one bytes long ended s t)
stops_one J one bytes long long s t = refl
stops_one J one bytes long bad s t = cc (one bytes long bad s t)
stops_one J one bytes bad (whole a r) s t = absurd t
stops_one J one bytes bad ended s t = cc (one bytes bad ended s t)
stops_one J one bytes bad long s t = cc (one bytes bad long s t)
stops_one J one bytes bad bad s t = refl

pub both_whole : {A : Type 0} (a b : A) (r q : List ℕ) → whole a r ≡ whole b q → (a ≡ b) × (r ≡ q)
both_whole a b r q e = (cc, cc)

pub then_one : {A B : Type 0} (J : List ℕ → Verdict A → Type 0) (Next : A → List ℕ → Verdict B → Type 0) → OneVerdict J
    → ((a : A) → OneVerdict (Next a)) → OneVerdict (Then J Next)
then_one J Next one after bytes v w (inl (a, r, j, e)) (inl (b, q, k, f)) =
    let same = both_whole a b r q (one bytes (whole a r) (whole b q) j k) in
    let there : Next b q v = subst (λ x. Next x q v) same.0 (subst (λ x. Next a x v) same.1 e) in
    after b q v w there f
then_one J Next one after bytes v w (inl (a, r, j, e)) (inr s) = absurd (stops_whole J one bytes a r w j s)
then_one J Next one after bytes v w (inr s) (inl (b, q, k, f)) = absurd (stops_whole J one bytes b q v k s)
then_one J Next one after bytes v w (inr s) (inr t) = stops_one J one bytes v w s t

pub one_request : OneVerdict SaysRequest
one_request = then_one (SaysPiece request_form most_head) (λ h rest w. w ≡ behind_head (judge h) h rest) (one_piece request_form request_laws most_head)
    (λ h rest v w e f. e ∙ sym f)
