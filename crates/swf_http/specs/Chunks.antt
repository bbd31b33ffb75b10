-- A chunked body (RFC 9112, section 7.1): chunks, each a line and its content, then a line of size 0 and a trailer.
use Rattle.std.specs.Prelude.{◌≡◌, ℕ, suc, zero, ◌+◌, ◌-◌, ◌<◌, ◌≤◌, ◌==◌, Bool, true, false, ◌&&◌, nat_lt, List, [], ◌∷◌, ◌++◌, length, take, drop, if◌then◌else◌}
use Rattle.httparse.specs.Grammar.{ChunkLine, print_chunk_line, chunk_size}
use Rattle.swf_http.specs.Limits.{most_body, most_fields}
use Rattle.swf_http.specs.Verdicts.{Verdict, whole, ended, long, bad, Stops, Then}
use Rattle.swf_http.specs.Pieces.{Section, line_form, trailer_form, SaysPiece}

-- content that CR LF has to follow
abbrev pub closed : List ℕ → List ℕ → Verdict (List ℕ)
closed content [] = ended
closed content (a ∷ []) = if a == 13 then ended else bad
closed content (a ∷ b ∷ rest) = if a == 13 && b == 10 then whole content rest else bad

-- what bytes say of the content of a chunk of so many bytes
abbrev pub content_of : ℕ → List ℕ → Verdict (List ℕ)
content_of size bytes = if nat_lt (length bytes) size then ended else closed (take size bytes) (drop size bytes)

-- a body is whole behind a trailer that has not too many fields
abbrev pub ends_with : List ℕ → Section → List ℕ → Verdict (List ℕ)
ends_with content s rest = if nat_lt most_fields (length s.0) then long else whole content rest

-- what a line whose chunk is not read leads to: the trailer behind a last chunk, and else content that is too long or not whole
abbrev pub BehindLine : Bool → Bool → List ℕ → ℕ → ℕ → List ℕ → Verdict (List ℕ) → Type 0
BehindLine true large content size room rest v = Then (SaysPiece trailer_form room) (λ s after w. w ≡ ends_with content s after) rest v
BehindLine false true content size room rest v = v ≡ long
BehindLine false false content size room rest v = Stops (λ bytes w. w ≡ content_of size bytes) rest v

-- the room that a line leaves
abbrev pub room_behind : ℕ → ChunkLine → ℕ
room_behind room l = room - length (print_chunk_line l)

-- what bytes say of a body of which some content was read, and so many chunks that follow are whole
abbrev pub SaysChunks : ℕ → List ℕ → ℕ → List ℕ → Verdict (List ℕ) → Type 0
SaysChunks zero content room bytes v =
    Then (SaysPiece line_form room)
    (λ l. BehindLine (chunk_size l == 0) (nat_lt most_body (length content + chunk_size l)) content (chunk_size l) (room_behind room l)) bytes v
SaysChunks (suc n) content room bytes v =
    (l : ChunkLine) × (mid : List ℕ) × (more : List ℕ) × (rest : List ℕ) × SaysPiece line_form room bytes (whole l mid)
    × (0 < chunk_size l) × (length content + chunk_size l ≤ most_body) × (content_of (chunk_size l) mid ≡ whole more rest)
    × SaysChunks n (content ++ more) (room_behind room l) rest v

-- what bytes say of a chunked body, some content of which was read
abbrev pub SaysChunked : List ℕ → ℕ → List ℕ → Verdict (List ℕ) → Type 0
SaysChunked content room bytes v = (n : ℕ) × SaysChunks n content room bytes v
