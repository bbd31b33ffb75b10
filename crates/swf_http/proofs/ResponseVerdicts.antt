-- Bytes have one verdict on a response at most.
use Rattle.std.proofs.Common.{◌≡◌, ℕ, zero, suc, true, false, ◌+◌, ◌-◌, ◌<◌, ◌≤◌, ◌==◌, nat_lt, Bool, List, [], ◌++◌, length, sym, ap, ◌∙◌, subst, arith, inl, inr}
use Rattle.std.proofs.lemmas.Bool.{false_from_ne_true, eqb-true, ltb-true}
use Rattle.httparse.specs.Grammar.{ResponseHead, print_response, ChunkLine, chunk_size}
use Rattle.http1.specs.declared.framing.Framing.{Framing}
use Rattle.http1.specs.declared.framing.Framing.TheVariants.{NoBody, Length, Chunked, UntilClose}
use Rattle.swf_http.specs.declared.follow.Follow.{Follow}
use Rattle.swf_http.specs.declared.follow.Follow.TheVariants.{Bad, TooLong, Interim, Body}
use Rattle.swf_http.specs.Limits.{most_head, most_body, most_lines}
use Rattle.swf_http.specs.Pieces.{response_form, line_form, trailer_form, SaysPiece}
use Rattle.swf_http.specs.Following.{follow_of}
use Rattle.swf_http.specs.Chunks.{BehindLine, content_of, ends_with, room_behind, SaysChunks, SaysChunked}
use Rattle.swf_http.specs.Responses.{Framed, Follows, SaysHeadAfter, SaysHead, SaysBody, SaysResponse}
use Rattle.swf_http.specs.Verdicts.{Verdict, whole, Then, OneVerdict}
use Rattle.swf_http.proofs.VerdictLemmas.{response_laws, line_laws, trailer_laws, one_piece, both_whole, stops_whole, stops_one, then_one}

-- ---- heads

one_response_head : (room : ℕ) → OneVerdict (SaysPiece response_form room)
one_response_head room = one_piece response_form response_laws room

one_follows : (f : Follow) (h : ResponseHead) → OneVerdict (Follows f h)
one_follows Bad h rest v w a b = a ∙ sym b
one_follows TooLong h rest v w a b = a ∙ sym b
one_follows Interim h rest v w a b = absurd a
one_follows (Body framing) h rest v w a b = a ∙ sym b

-- the last head has none behind it
last_head : (head : Bool) (room : ℕ) (bytes : List ℕ) (v : Verdict Framed) (h : ResponseHead) (rest : List ℕ) → SaysHeadAfter zero head room bytes v
    → SaysPiece response_form room bytes (whole h rest) → follow_of head h ≡ Interim → ⊥
last_head head room bytes v h rest (inl (k, q, says, follows)) other interim =
    let same = both_whole k h q rest (one_response_head room bytes (whole k q) (whole h rest) says other) in
    subst (λ (f : Follow). Follows f k q v) (ap (follow_of head) same.0 ∙ interim) follows
last_head head room bytes v h rest (inr stops) other interim =
    stops_whole (SaysPiece response_form room) (one_response_head room) bytes h rest v other stops

one_head_after : (n m : ℕ) (head : Bool) (room : ℕ) (bytes : List ℕ) (v w : Verdict Framed) → SaysHeadAfter n head room bytes v
    → SaysHeadAfter m head room bytes w → v ≡ w
one_head_after zero zero head room bytes v w a b =
    then_one (SaysPiece response_form room) (λ h. Follows (follow_of head h) h) (one_response_head room) (λ h. one_follows (follow_of head h) h) bytes v w a b
one_head_after zero (suc m) head room bytes v w a (h, rest, says, interim, more) = absurd (last_head head room bytes v h rest a says interim)
one_head_after (suc n) zero head room bytes v w (h, rest, says, interim, more) b = absurd (last_head head room bytes w h rest b says interim)
one_head_after (suc n) (suc m) head room bytes v w (h, rest, says, interim, more) (k, q, other, later, others) =
    let same = both_whole k h q rest (one_response_head room bytes (whole k q) (whole h rest) other says) in
    let there : SaysHeadAfter m head (room - length (print_response h)) rest w =
    subst (λ (x : ResponseHead). SaysHeadAfter m head (room - length (print_response x)) rest w) same.0
    (subst (λ (t : List ℕ). SaysHeadAfter m head (room - length (print_response k)) t w) same.1 others) in
    one_head_after n m head (room - length (print_response h)) rest v w more there

one_head : (head : Bool) (room : ℕ) → OneVerdict (SaysHead head room)
one_head head room bytes v w (n, a) (m, b) = one_head_after n m head room bytes v w a b

-- ---- chunks

one_line : (room : ℕ) → OneVerdict (SaysPiece line_form room)
one_line room = one_piece line_form line_laws room

one_content : (size : ℕ) → OneVerdict (λ (bytes : List ℕ) (w : Verdict (List ℕ)). w ≡ content_of size bytes)
one_content size bytes v w a b = a ∙ sym b

one_behind : (last large : Bool) (content : List ℕ) (size room : ℕ) → OneVerdict (BehindLine last large content size room)
one_behind true large content size room bytes v w a b =
    then_one (SaysPiece trailer_form room) (λ s after u. u ≡ ends_with content s after) (one_piece trailer_form trailer_laws room)
    (λ s after u t e f. e ∙ sym f) bytes v w a b
one_behind false true content size room bytes v w a b = a ∙ sym b
one_behind false false content size room bytes v w a b =
    stops_one (λ (t : List ℕ) (u : Verdict (List ℕ)). u ≡ content_of size t) (one_content size) bytes v w a b

-- behind the line of the last chunk that is read no chunk is whole
last_line : (content : List ℕ) (room : ℕ) (bytes : List ℕ) (v : Verdict (List ℕ)) (l : ChunkLine) (mid more rest : List ℕ)
    → SaysChunks zero content room bytes v → SaysPiece line_form room bytes (whole l mid) → 0 < chunk_size l → length content + chunk_size l ≤ most_body
    → content_of (chunk_size l) mid ≡ whole more rest → ⊥
last_line content room bytes v l mid more rest (inl (k, q, says, behind)) other some fits is =
    let same = both_whole k l q mid (one_line room bytes (whole k q) (whole l mid) says other) in
    let size : ChunkLine → ℕ = chunk_size in
    let on : BehindLine (size l == 0) (nat_lt most_body (length content + size l)) content (size l) (room_behind room l) mid v =
    subst (λ (x : ChunkLine). BehindLine (size x == 0) (nat_lt most_body (length content + size x)) content (size x) (room_behind room x) mid v) same.0
    (subst (λ (t : List ℕ). BehindLine (size k == 0) (nat_lt most_body (length content + size k)) content (size k) (room_behind room k) t v) same.1 behind) in
    let no_end : (size l == 0) ≡ false = false_from_ne_true (size l == 0) (λ e. omega (arith, some, eqb-true (size l) 0 e)) in
    let no_more : nat_lt most_body (length content + size l) ≡ false =
    false_from_ne_true (nat_lt most_body (length content + size l)) (λ e. omega (arith, fits, ltb-true most_body (length content + size l) e)) in
    let stops : BehindLine false false content (size l) (room_behind room l) mid v =
    subst (λ (b : Bool). BehindLine false b content (size l) (room_behind room l) mid v) no_more
    (subst (λ (b : Bool). BehindLine b (nat_lt most_body (length content + size l)) content (size l) (room_behind room l) mid v) no_end on) in
    stops_whole (λ (t : List ℕ) (u : Verdict (List ℕ)). u ≡ content_of (size l) t) (one_content (size l)) mid more rest v (sym is) stops
last_line content room bytes v l mid more rest (inr stops) other some fits is =
    stops_whole (SaysPiece line_form room) (one_line room) bytes l mid v other stops

one_chunks : (n m : ℕ) (content : List ℕ) (room : ℕ) (bytes : List ℕ) (v w : Verdict (List ℕ)) → SaysChunks n content room bytes v
    → SaysChunks m content room bytes w → v ≡ w
one_chunks zero zero content room bytes v w a b =
    then_one (SaysPiece line_form room)
    (λ l. BehindLine (chunk_size l == 0) (nat_lt most_body (length content + chunk_size l)) content (chunk_size l) (room_behind room l)) (one_line room)
    (λ l. one_behind (chunk_size l == 0) (nat_lt most_body (length content + chunk_size l)) content (chunk_size l) (room_behind room l)) bytes v w a b
one_chunks zero (suc m) content room bytes v w a (l, mid, more, rest, says, some, fits, is, on) =
    absurd (last_line content room bytes v l mid more rest a says some fits is)
one_chunks (suc n) zero content room bytes v w (l, mid, more, rest, says, some, fits, is, on) b =
    absurd (last_line content room bytes w l mid more rest b says some fits is)
one_chunks (suc n) (suc m) content room bytes v w (l, mid, more, rest, says, some, fits, is, on) (k, mud, mere, rust, saws, same, fats, iz, onn) =
    let line = both_whole k l mud mid (one_line room bytes (whole k mud) (whole l mid) saws says) in
    let there : whole mere rust ≡ whole more rest =
    sym iz ∙ ap (λ (x : ChunkLine). content_of (chunk_size x) mud) line.0 ∙ ap (content_of (chunk_size l)) line.1 ∙ is in
    let part = both_whole mere more rust rest there in
    let again : SaysChunks m (content ++ more) (room_behind room l) rest w =
    subst (λ (x : ChunkLine). SaysChunks m (content ++ more) (room_behind room x) rest w) line.0
    (subst (λ (t : List ℕ). SaysChunks m (content ++ t) (room_behind room k) rest w) part.0
    (subst (λ (t : List ℕ). SaysChunks m (content ++ mere) (room_behind room k) t w) part.1 onn)) in
    one_chunks n m (content ++ more) (room_behind room l) rest v w on again

one_chunked : (content : List ℕ) (room : ℕ) → OneVerdict (SaysChunked content room)
one_chunked content room bytes v w (n, a) (m, b) = one_chunks n m content room bytes v w a b

-- ---- responses

one_body : (framing : Framing) → OneVerdict (SaysBody framing)
one_body NoBody bytes v w a b = a ∙ sym b
one_body (Length n) bytes v w a b = a ∙ sym b
one_body Chunked bytes v w a b = one_chunked [] most_lines bytes v w a b
one_body UntilClose bytes v w a b = a ∙ sym b

pub one_response : (head : Bool) → OneVerdict (SaysResponse head)
one_response head =
    then_one (SaysHead head most_head) (λ (f : Framed). Then (SaysBody f.1) (λ body after w. w ≡ whole (f.0, body) after)) (one_head head most_head)
    (λ f. then_one (SaysBody f.1) (λ body after w. w ≡ whole (f.0, body) after) (one_body f.1) (λ body after v w e g. e ∙ sym g))
