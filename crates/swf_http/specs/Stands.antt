-- Where the parts of a message stand in bytes.
use Rattle.std.specs.Prelude.{◌≡◌, ℕ, List, length, drop}
use Rattle.httparse.specs.Grammar.{RequestHead, ResponseHead, ChunkLine, ReadsSection, print_section}
use Rattle.httparse.specs.Spans.{IsRequestAt, IsRequestWithin, IsResponseAt, IsResponseWithin, IsChunkLineAt}
use Rattle.swf_http.specs.declared.found.FoundRequest.{FoundRequest}
use Rattle.swf_http.specs.declared.found.FoundResponse.{FoundResponse}
use Rattle.swf_http.specs.declared.found.FoundLine.{FoundLine}
use Rattle.swf_http.specs.declared.found.FoundTrailer.{FoundTrailer}
use Rattle.swf_http.specs.Pieces.{Section}

-- the bytes begin with a request's head, and its parts stand there
abbrev pub IsFoundRequest : List ℕ → FoundRequest → Type 0
IsFoundRequest bytes found =
    IsRequestWithin bytes found.headers.items found.spans × ((h : RequestHead) × IsRequestAt bytes found.headers.items found.spans h)

-- the same for a response
abbrev pub IsFoundResponse : List ℕ → FoundResponse → Type 0
IsFoundResponse bytes found =
    IsResponseWithin bytes found.headers.items found.spans × ((h : ResponseHead) × IsResponseAt bytes found.headers.items found.spans h)

-- the bytes begin with a chunk's line
abbrev pub IsFoundLine : List ℕ → FoundLine → Type 0
IsFoundLine bytes found = (l : ChunkLine) × IsChunkLineAt bytes found.len found.size l

-- the bytes begin with this trailer
pub record IsTrailerAt (bytes : List ℕ) (found : FoundTrailer) (s : Section) : Type 0 where
  pub reads : ReadsSection bytes s.0 s.1 (drop found.len bytes)
  pub len_is : found.len ≡ length (print_section s.0 s.1)
  pub count_is : found.count ≡ length s.0

abbrev pub IsFoundTrailer : List ℕ → FoundTrailer → Type 0
IsFoundTrailer bytes found = (s : Section) × IsTrailerAt bytes found s
