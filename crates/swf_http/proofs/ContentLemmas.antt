-- Chunks one by one.
use Rattle.std.proofs.Common.{◌≡◌, ℕ, suc, true, false, ◌+◌, ◌-◌, ◌<◌, ◌≤◌, ◌==◌, ◌&&◌, ◌||◌, nat_lt, nat_le, if◌then◌else◌, Bool, List, [], ◌∷◌, ◌++◌, length, get_or, take, drop, refl, sym, ap, ◌∙◌, subst, arith, length-append, length-drop, drop-cons, drop-drop, get_or-drop, inl, inr, Option}
use Rattle.std.proofs.lemmas.Bool.{cases_Bool, cases_lt, lt-ltb, ltb-true, le-leb, leb-true, eqb-true, false_from_ne_true}
use Rattle.std.proofs.lemmas.List.{take-append-le, drop-append-le, drop_all, get_or_append_left}
use Rattle.httparse.specs.Grammar.{ChunkLine, print_chunk_line, chunk_size}
use Rattle.swf_http.specs.declared.fault.HttpFault.{HttpFault}
use Rattle.swf_http.specs.declared.fault.HttpFault.TheVariants.{Read, Ended, TooLong, BadMessage, OutOfMemory}
use Rattle.httparse.specs.Spans.{IsChunkLineAt}
use Rattle.swf_http.specs.declared.found.FoundLine.{FoundLine}
use Rattle.swf_http.proofs.ReadLemmas.{splits_behind, says_line}
use Rattle.swf_http.specs.Limits.{most_body}
use Rattle.swf_http.specs.Pieces.{line_form, trailer_form, SaysPiece}
use Rattle.swf_http.specs.Chunks.{closed, content_of, ends_with, room_behind, BehindLine, SaysChunked}
use Rattle.swf_http.specs.Sources.{Splits}
use Rattle.swf_http.specs.Verdicts.{Verdict, whole, ended, long, bad, Stops, Then, FaultSays}

-- ---- content

closed_at : (content bytes : List ℕ) (a b : ℕ) (rest : List ℕ) → bytes ≡ a ∷ b ∷ rest
    → closed content bytes ≡ (if a == 13 && b == 10 then whole content rest else bad)
closed_at content bytes a b rest is = rw is refl

same_end : (a b c d : ℕ) (t u r q : List ℕ) → a ≡ c → b ≡ d → t ≡ u → r ≡ q
    → (if a == 13 && b == 10 then whole t r else bad) ≡ (if c == 13 && d == 10 then whole u q else bad)
same_end a b c d t u r q p e f g = rw (p, e, f, g) refl

-- content and a line end are there
pub content_is : (x now : List ℕ) (left : Option (List ℕ)) (at size : ℕ) → Splits x now left → at + size + 2 ≤ length now
    → content_of size (drop at x)
    ≡ (if get_or now (at + size) 0 == 13 && get_or now (at + size + 1) 0 == 10 then whole (take size (drop at now)) (drop (at + size + 2) x) else bad)
content_is x now left at size s there =
    let b : List ℕ = drop at x in
    let same = ap length s.whole_is in
    let enough : size + 2 ≤ length b = omega (arith, length-append now s.rest, length-drop at x, same, there) in
    let no_less : nat_lt (length b) size ≡ false = false_from_ne_true (nat_lt (length b) size) (λ e. omega (arith, enough, ltb-true (length b) size e)) in
    let split : drop size b ≡ get_or b size 0 ∷ get_or b (suc size) 0 ∷ drop (suc (suc size)) b =
    drop-cons b size 0 (omega (arith, enough)) ∙ ap (λ (t : List ℕ). get_or b size 0 ∷ t) (drop-cons b (suc size) 0 (omega (arith, enough))) in
    let first : get_or b size 0 ≡ get_or now (at + size) 0 =
    get_or-drop at x size 0 ∙ ap (λ (t : List ℕ). get_or t (at + size) 0) s.whole_is ∙ get_or_append_left now s.rest 0 (at + size) (omega (arith, there)) in
    let second : get_or b (suc size) 0 ≡ get_or now (at + size + 1) 0 =
    get_or-drop at x (suc size) 0 ∙ ap (λ (k : ℕ). get_or x k 0) (omega arith) ∙ ap (λ (t : List ℕ). get_or t (at + size + 1) 0) s.whole_is
    ∙ get_or_append_left now s.rest 0 (at + size + 1) (omega (arith, there)) in
    let behind : b ≡ drop at now ++ s.rest =
    ap (λ (t : List ℕ). drop at t) s.whole_is ∙ drop-append-le at now s.rest (omega (arith, there)) in
    let front : take size b ≡ take size (drop at now) =
    ap (λ (t : List ℕ). take size t) behind ∙ take-append-le size (drop at now) s.rest (omega (arith, length-drop at now, there)) in
    let back : drop (suc (suc size)) b ≡ drop (at + size + 2) x =
    drop-drop (suc (suc size)) at x ∙ ap (λ (k : ℕ). drop k x) (omega arith) in
    rw no_less
    (closed_at (take size b) (drop size b) (get_or b size 0) (get_or b (suc size) 0) (drop (suc (suc size)) b) split
    ∙ same_end (get_or b size 0) (get_or b (suc size) 0) (get_or now (at + size) 0) (get_or now (at + size + 1) 0) (take size b) (take size (drop at now))
    (drop (suc (suc size)) b) (drop (at + size + 2) x) first second front back)

pub content_there : (x now slice : List ℕ) (left : Option (List ℕ)) (at size : ℕ) → Splits x now left → at + size + 2 ≤ length now → slice ≡ now
    → (get_or slice (at + size) 0 == 13 && get_or slice (at + size + 1) 0 == 10) ≡ true
    → content_of size (drop at x) ≡ whole (take size (drop at now)) (drop (at + size + 2) x)
content_there x now slice left at size s there same test =
    let here : (get_or now (at + size) 0 == 13 && get_or now (at + size + 1) 0 == 10) ≡ true =
    subst (λ (t : List ℕ). (get_or t (at + size) 0 == 13 && get_or t (at + size + 1) 0 == 10) ≡ true) same test in
    content_is x now left at size s there ∙ rw here refl

pub content_bad : (x now slice : List ℕ) (left : Option (List ℕ)) (at size : ℕ) → Splits x now left → at + size + 2 ≤ length now → slice ≡ now
    → (get_or slice (at + size) 0 == 13 && get_or slice (at + size + 1) 0 == 10) ≡ false → bad ≡ content_of size (drop at x)
content_bad x now slice left at size s there same test =
    let here : (get_or now (at + size) 0 == 13 && get_or now (at + size + 1) 0 == 10) ≡ false =
    subst (λ (t : List ℕ). (get_or t (at + size) 0 == 13 && get_or t (at + size + 1) 0 == 10) ≡ false) same test in
    sym (content_is x now left at size s there ∙ rw here refl)

abbrev pub Content : ℕ → List ℕ → Verdict (List ℕ) → Type 0
Content size behind v = v ≡ content_of size behind

fault_is : (size : ℕ) (y : List ℕ) (e f : HttpFault) → e ≡ f → FaultSays (Content size) y f → FaultSays (Content size) y e
fault_is size y e f same says = subst (λ (d : HttpFault). FaultSays (Content size) y d) (sym same) says

-- what the end says of a byte that may begin a line end
last_byte : (size : ℕ) (y : List ℕ) (b : ℕ) (e : HttpFault) → content_of size y ≡ (if b == 13 then ended else bad) → e ≡ (if b == 13 then Ended else BadMessage)
    → FaultSays (Content size) y e
last_byte size y b e is fault = elim (cases_Bool (b == 13)) [
  | inl return ↦ fault_is size y e Ended (rw return at fault) (sym (rw return at is))
  | inr other ↦ fault_is size y e BadMessage (rw other at fault) (sym (rw other at is))
]

-- the source ended before a chunk was whole
pub cut_says : (x : List ℕ) (at size : ℕ) (e : HttpFault) → at ≤ length x → length x ≤ at + size + 1
    → e ≡ (if nat_le (length x) (at + size) || get_or x (at + size) 0 == 13 then Ended else BadMessage) → FaultSays (Content size) (drop at x) e
cut_says x at size e within short fault =
    let b : List ℕ = drop at x in
    let len = length-drop at x in
    elim (cases_lt (length b) size) [
      | inl less ↦
          let under : nat_le (length x) (at + size) ≡ true = le-leb (length x) (at + size) (omega (arith, len, less, within)) in
          let test : nat_lt (length b) size ≡ true = lt-ltb (length b) size less in
          fault_is size b e Ended (rw under at fault) (rw test refl)
      | inr enough ↦
          let no_less : nat_lt (length b) size ≡ false = false_from_ne_true (nat_lt (length b) size) (λ q. omega (arith, enough, ltb-true (length b) size q)) in
          elim (cases_lt size (length b)) [
            | inr all ↦
                let under : nat_le (length x) (at + size) ≡ true = le-leb (length x) (at + size) (omega (arith, len, all, within)) in
                let none : drop size b ≡ [] = drop_all size b all in
                fault_is size b e Ended (rw under at fault) (rw (no_less, none) refl)
            | inl one ↦
                let over : nat_le (length x) (at + size) ≡ false =
                false_from_ne_true (nat_le (length x) (at + size)) (λ q. omega (arith, len, one, within, leb-true (length x) (at + size) q)) in
                let none : drop (suc size) b ≡ [] = drop_all (suc size) b (omega (arith, len, short, within)) in
                let split : drop size b ≡ get_or b size 0 ∷ [] =
                drop-cons b size 0 one ∙ ap (λ (t : List ℕ). get_or b size 0 ∷ t) none in
                let byte : get_or b size 0 ≡ get_or x (at + size) 0 = get_or-drop at x size 0 in
                last_byte size b (get_or x (at + size) 0) e (rw (no_less, split, byte) refl) (rw over at fault)
          ]
    ]

-- ---- lines

-- a last chunk, behind which the trailer says the rest
pub chunk_last : (content : List ℕ) (room : ℕ) (y mid : List ℕ) (l : ChunkLine) (v : Verdict (List ℕ)) → SaysPiece line_form room y (whole l mid) → chunk_size l ≡ 0
    → Then (SaysPiece trailer_form (room_behind room l)) (λ s after w. w ≡ ends_with content s after) mid v → SaysChunked content room y v
chunk_last content room y mid l v says none on =
    let is : (chunk_size l == 0) ≡ true = rw none refl in (
      0,
      inl (
        l,
        mid,
        says,
        subst (λ (b : Bool). BehindLine b (nat_lt most_body (length content + chunk_size l)) content (chunk_size l) (room_behind room l) mid v) (sym is) on,
      ),
    )

not_last : (l : ChunkLine) → 0 < chunk_size l → (chunk_size l == 0) ≡ false
not_last l some = false_from_ne_true (chunk_size l == 0) (λ e. omega (arith, some, eqb-true (chunk_size l) 0 e))

-- more content than that of any body
pub chunk_long : (content : List ℕ) (room : ℕ) (y mid : List ℕ) (l : ChunkLine) → SaysPiece line_form room y (whole l mid) → 0 < chunk_size l
    → most_body < length content + chunk_size l → SaysChunked content room y long
chunk_long content room y mid l says some over =
    let test : nat_lt most_body (length content + chunk_size l) ≡ true = lt-ltb most_body (length content + chunk_size l) over in (
      0,
      inl (
        l,
        mid,
        says,
        subst (λ (b : Bool). BehindLine b (nat_lt most_body (length content + chunk_size l)) content (chunk_size l) (room_behind room l) mid long) (sym (not_last l some))
            (subst (λ (b : Bool). BehindLine false b content (chunk_size l) (room_behind room l) mid long) (sym test) refl),
      ),
    )

-- a chunk that is not whole
pub chunk_stops : (content : List ℕ) (room : ℕ) (y mid : List ℕ) (l : ChunkLine) (v : Verdict (List ℕ)) → SaysPiece line_form room y (whole l mid)
    → 0 < chunk_size l → length content + chunk_size l ≤ most_body → Stops (Content (chunk_size l)) mid v → SaysChunked content room y v
chunk_stops content room y mid l v says some fits stops =
    let test : nat_lt most_body (length content + chunk_size l) ≡ false =
    false_from_ne_true (nat_lt most_body (length content + chunk_size l)) (λ e. omega (arith, fits, ltb-true most_body (length content + chunk_size l) e)) in (
      0,
      inl (
        l,
        mid,
        says,
        subst (λ (b : Bool). BehindLine b (nat_lt most_body (length content + chunk_size l)) content (chunk_size l) (room_behind room l) mid v) (sym (not_last l some))
            (subst (λ (b : Bool). BehindLine false b content (chunk_size l) (room_behind room l) mid v) (sym test) stops),
      ),
    )

-- one chunk more
pub chunk_more : (content more : List ℕ) (room : ℕ) (y mid rest : List ℕ) (l : ChunkLine) (v : Verdict (List ℕ)) → SaysPiece line_form room y (whole l mid)
    → 0 < chunk_size l → length content + chunk_size l ≤ most_body → content_of (chunk_size l) mid ≡ whole more rest
    → SaysChunked (content ++ more) (room_behind room l) rest v → SaysChunked content room y v
chunk_more content more room y mid rest l v says some fits is (n, on) = (suc n, (l, mid, more, rest, says, some, fits, is, on))

-- a line that is not there
pub line_stops : (content : List ℕ) (room : ℕ) (y : List ℕ) (e : HttpFault) → FaultSays (SaysPiece line_form room) y e → FaultSays (SaysChunked content room) y e
line_stops content room y Read f = tt
line_stops content room y Ended f = (0, inr f)
line_stops content room y TooLong f = (0, inr f)
line_stops content room y BadMessage f = (0, inr f)
line_stops content room y OutOfMemory f = tt

-- content that is not there
pub content_stops : (content : List ℕ) (room : ℕ) (y mid : List ℕ) (l : ChunkLine) (e : HttpFault) → SaysPiece line_form room y (whole l mid)
    → 0 < chunk_size l → length content + chunk_size l ≤ most_body → FaultSays (Content (chunk_size l)) mid e → FaultSays (SaysChunked content room) y e
content_stops content room y mid l Read says some fits f = tt
content_stops content room y mid l Ended says some fits f = chunk_stops content room y mid l ended says some fits f
content_stops content room y mid l TooLong says some fits f = chunk_stops content room y mid l long says some fits f
content_stops content room y mid l BadMessage says some fits f = chunk_stops content room y mid l bad says some fits f
content_stops content room y mid l OutOfMemory says some fits f = tt

-- the line that was found at a place is that of all bytes
pub line_read : (x items : List ℕ) (left : Option (List ℕ)) (at most : ℕ) (found : FoundLine) (l : ChunkLine) → Splits x items left
    → IsChunkLineAt (drop at items) found.len found.size l → at ≤ length items → length items ≤ most
    → SaysPiece line_form (most - at) (drop at x) (whole l (drop (at + found.len) x))
line_read x items left at most found l s is within room =
    let says = says_line (most - at) (drop at x) (drop at items) left found l (splits_behind x items left at s within) is (omega (arith, length-drop at items, room)) in
    subst (λ (t : List ℕ). SaysPiece line_form (most - at) (drop at x) (whole l t)) (drop-drop found.len at x) says

pub room_is : (at most len size : ℕ) (l : ChunkLine) → len ≡ length (print_chunk_line l) → most + (size + 2) - (at + len + (size + 2)) ≡ room_behind (most - at) l
room_is at most len size l is = omega (arith, is)

pub last_room : (at most len : ℕ) (l : ChunkLine) → len ≡ length (print_chunk_line l) → most - (at + len) ≡ room_behind (most - at) l
last_room at most len l is = omega (arith, is)

-- the part of a buffer that is added
pub part_is : (at size : ℕ) (slice items : List ℕ) → slice ≡ items → take (at + size - at) (drop at slice) ≡ take size (drop at items)
part_is at size slice items same =
    ap (λ (k : ℕ). take k (drop at slice)) (omega arith) ∙ ap (λ (t : List ℕ). take size (drop at t)) same

-- one chunk more, in the terms of the loop
pub chunk_step : (content more next : List ℕ) (room left_room : ℕ) (y mid rest behind : List ℕ) (l : ChunkLine) (v : Verdict (List ℕ))
    → SaysPiece line_form room y (whole l mid) → 0 < chunk_size l → length content + chunk_size l ≤ most_body
    → content_of (chunk_size l) mid ≡ whole more rest → next ≡ content ++ more → left_room ≡ room_behind room l → behind ≡ rest
    → SaysChunked next left_room behind v → SaysChunked content room y v
chunk_step content more next room left_room y mid rest behind l v says some fits is next_is room_same rest_is on =
    chunk_more content more room y mid rest l v says some fits is
    (subst (λ (t : List ℕ). SaysChunked (content ++ more) (room_behind room l) t v) rest_is
    (subst (λ (k : ℕ). SaysChunked (content ++ more) k behind v) room_same (subst (λ (t : List ℕ). SaysChunked t left_room behind v) next_is on)))
