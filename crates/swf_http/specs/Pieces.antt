-- The parts of a message that have a grammar: heads, chunk lines and trailers (RFC 9112, sections 2 to 5 and 7.1).
use Rattle.std.specs.Prelude.{ℕ, ◌<◌, ◌≤◌, List, length, take, Option, Some, None, Result, Ok, Err, ⊤}
use Rattle.httparse.specs.Grammar.{LineEnd, Field, print_section, ReadsSection, HasNoSection, NeverHasSection, MayBecomeSection, RequestHead, print_request, ReadsRequest, HasNoRequest, NeverHasRequest, MayBecomeRequest, EndsInTarget, ResponseHead, print_response, ReadsResponse, HasNoResponse, NeverHasResponse, MayBecomeResponse, ChunkLine, print_chunk_line, ReadsChunkLine, HasNoChunkLine, NeverHasChunkLine, MayBecomeChunkLine}
use Rattle.swf_http.specs.declared.fault.HttpFault.{HttpFault}
use Rattle.swf_http.specs.declared.fault.HttpFault.TheVariants.{Read, Ended, TooLong, BadMessage, OutOfMemory}
use Rattle.swf_http.specs.Verdicts.{Verdict, whole, ended, long, bad}

-- a grammar: what reads as one of its trees and the bytes behind it, what begins one and holds none, and what begins none
pub record Form (A : Type 0) : Type 1 where
  pub Reads : List ℕ → A → List ℕ → Type 0
  pub print : A → List ℕ
  pub Begins : List ℕ → Type 0
  pub BeginsNone : List ℕ → Type 0

-- a request's head; what ends within its target begins one
abbrev pub request_form : Form RequestHead
request_form = record {
  Reads = ReadsRequest;
  print = print_request;
  Begins = λ bytes. HasNoRequest bytes × MayBecomeRequest bytes;
  BeginsNone = λ bytes. NeverHasRequest bytes × ¬ (EndsInTarget bytes);
}

-- a response's head
abbrev pub response_form : Form ResponseHead
response_form = record {
  Reads = ReadsResponse;
  print = print_response;
  Begins = λ bytes. HasNoResponse bytes × MayBecomeResponse bytes;
  BeginsNone = NeverHasResponse;
}

-- a chunk's line
abbrev pub line_form : Form ChunkLine
line_form = record {
  Reads = ReadsChunkLine;
  print = print_chunk_line;
  Begins = λ bytes. HasNoChunkLine bytes × MayBecomeChunkLine bytes;
  BeginsNone = NeverHasChunkLine;
}

-- fields, and the line end behind them
abbrev pub Section : Type 0
Section = List Field × LineEnd

-- a trailer
abbrev pub trailer_form : Form Section
trailer_form = record {
  Reads = λ bytes s rest. ReadsSection bytes s.0 s.1 rest;
  print = λ s. print_section s.0 s.1;
  Begins = λ bytes. HasNoSection bytes × MayBecomeSection bytes;
  BeginsNone = NeverHasSection;
}

-- what bytes say of a tree that may take so many of them
abbrev pub SaysPiece : {A : Type 0} → Form A → ℕ → List ℕ → Verdict A → Type 0
SaysPiece F room bytes (whole a rest) = F.Reads bytes a rest × (length (F.print a) ≤ room)
SaysPiece F room bytes ended = (length bytes < room) × F.Begins bytes
SaysPiece F room bytes long = (room ≤ length bytes) × F.Begins (take room bytes)
SaysPiece F room bytes bad = (n : ℕ) × (n ≤ room) × F.BeginsNone (take n bytes)

-- what a look at some bytes comes to
abbrev pub Settles : {A P : Type 0} → Form A → (List ℕ → P → Type 0) → List ℕ → Result (Option P) HttpFault → Type 0
Settles F Stands bytes (Ok (Some piece)) = Stands bytes piece
Settles F Stands bytes (Ok None) = F.Begins bytes
Settles F Stands bytes (Err Read) = ⊥
Settles F Stands bytes (Err Ended) = ⊥
Settles F Stands bytes (Err TooLong) = ⊥
Settles F Stands bytes (Err BadMessage) = F.BeginsNone bytes
Settles F Stands bytes (Err OutOfMemory) = ⊤
