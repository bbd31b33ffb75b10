-- A dial in memory and its links: the replies that are left, the calls that fail, and what was said.
use Rattle.std.specs.Prelude.{◌≡◌, ◌⊎◌, ◌+◌, ◌-◌, ◌^◌, min, ℕ, List, [], ◌∷◌, true, false, drop, string_bytes, Result, Ok, Err}
use Rattle.swf_store.specs.Replay.{is_in}
use Rattle.swf_connect.specs.declared.memory_link.MemoryLink.{MemoryLink}
use Rattle.swf_connect.specs.Talks.{About, Talk}

pub record Dialed : Type 0 where
  -- what the next links give
  pub left : List (List ℕ)
  -- the numbers of the calls that fail
  pub failing : List ℕ
  -- how many calls there were
  pub dials : ℕ
  pub talks : List Talk
  pub faults : ℕ
  -- how many calls found no memory
  pub lacks : ℕ

-- whom a link reaches, and all that it gives
abbrev pub link_about : MemoryLink → About
link_about link = record { host = string_bytes link.talk.host; port = link.talk.port; bytes = link.talk.bytes.items }

abbrev pub link_left : MemoryLink → List ℕ
link_left link = drop link.at link.talk.bytes.items

abbrev pub link_written : MemoryLink → List ℕ
link_written link = link.talk.written.items

-- how many writes found no memory
abbrev pub link_lacks : MemoryLink → ℕ
link_lacks link = link.lacks

-- what no read, and what no write, of a link changes
abbrev pub link_beside : MemoryLink → About × List ℕ × ℕ
link_beside link = (link_about link, link_written link, link_lacks link)

abbrev pub link_kept : MemoryLink → About × List ℕ
link_kept link = (link_about link, link_left link)

-- a count goes up by one, or stands at the end of its type
abbrev pub one_more : ℕ → ℕ
one_more n = min (n + 1) (2 ^ 64 - 1)

-- the call fails: its number is on the list, or no reply is left
abbrev pub FailsDial : Dialed → Type 0
FailsDial d = (is_in d.failing d.dials ≡ true) ⊎ (d.left ≡ [])

-- no memory was found by a call that does not fail
abbrev pub LacksDial : Dialed → Dialed → Type 0
LacksDial old new = (is_in old.failing old.dials ≡ false) × (new.lacks ≡ one_more old.lacks)

-- a link gives the next reply; a call that fails uses none up
abbrev pub Dials : {E : Type 0} → Dialed → Dialed → Result MemoryLink E → Type 0
Dials old new (Ok link) = (old.left ≡ link_left link ∷ new.left) × (is_in old.failing old.dials ≡ false) × (new.lacks ≡ old.lacks)
Dials old new (Err e) = (new.left ≡ old.left) × ((FailsDial old × (new.lacks ≡ old.lacks)) ⊎ LacksDial old new)
