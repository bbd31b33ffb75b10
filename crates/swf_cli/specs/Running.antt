-- What the program does, by what its words mean.
use Rattle.std.specs.Prelude.{◌≡◌, ◌≢◌, ◌⊎◌, ℕ, List, [], length, Option, Some}
use Rattle.std.specs.Option.{ForSome}
use Rattle.swf_store.specs.declared.image.Image.{Image}
use Rattle.swf_store.specs.declared.said.Piece.{Piece}
use Rattle.swf_store.specs.Disk.{NothingNew}
use Rattle.swf_store.specs.Said.{SaidPart}
use Rattle.swf_store.specs.Stops.{Leaves}
use Rattle.swf_meaning.specs.declared.label.Label.{Label}
use Rattle.swf_host.specs.declared.host.Input.{Input}
use Rattle.swf_connect.specs.Parties.{Party}
use Rattle.swf_engine.specs.Damage.{IsDamaged}
use Rattle.swf_engine.specs.History.{IsHistory}
use Rattle.swf_engine.specs.Settling.{Called}
use Rattle.swf_protocol.specs.Spoken.{damaged_bytes}
use Rattle.swf_check.specs.Checking.{CheckRun}
use Rattle.swf_words.specs.declared.words.Mode.{Mode}
use Rattle.swf_words.specs.declared.words.Mode.TheVariants.{Check, Session, Show}
use Rattle.swf_words.specs.declared.words.Words.{Words}
use Rattle.swf_turns.specs.Dialect.{session}
use Rattle.swf_turns.specs.Finish.{Finished, IsShort, TellsFull, TellsDamage}
use Rattle.swf_turns.specs.Heard.{TurnsTell}
use Rattle.swf_turns.specs.Moments.{IsMoment, Runs}
use Rattle.swf_turns.specs.Settling.{Answering}
use Rattle.swf_cli.specs.Shown.{IsShowing, IsShown, IsPartShown}

module _ {W S : Type 0} (moment : S → ℕ) (left_since : S → ℕ → Image → List Piece → Type 0) (said : S → Option (List Piece)) (may_leave : S → Image → Type 0) (seen : S → Option Image) (taken : S → Option (List (Input W))) where
  -- where the host tells what it gave and took, and its store stands for a history
  abbrev pub Told : S → (Image → List (Input W) → List Piece → List Label → Type 0) → Type 0
  Told old P = ForSome (seen old) (λ image. ForSome (taken old) (λ inputs. ForSome (said old) (λ pieces. (before : List Label) → IsHistory image before → P image inputs pieces before)))

  -- The store stays as it was, and nothing is said but the line that tells of damage: whole at 5, in part at 4, and else none of it.
  pub record KeepsDamaged (image : Image) (old new : S) (status : ℕ) : Type 0 where
    pub same : seen new ≡ seen old
    pub stop : NothingNew (may_leave old) (may_leave new)
    pub silent : status ≢ 5 → status ≢ 4 → said new ≡ said old
    pub moments : ForSome (taken old) (λ inputs. ForSome (said old) (λ pieces.
        (at : ℕ) × IsDamaged image at × Leaves moment left_since old new (λ left now. may_leave old left × SaidPart 0 (damaged_bytes at) (length inputs) pieces now)))

  -- 5 comes only where the journal is damaged, which is told; then no input is taken. One that stands for a history is not.
  pub record TellsOfDamage (old new : S) (status : ℕ) : Type 0 where
    pub damaged : ForSome (seen old) (λ image. ForSome (taken old) (λ inputs. ForSome (said old) (λ pieces.
        status ≡ 5 → (at : ℕ) × IsDamaged image at × TellsDamage at inputs pieces (taken new) (said new))))
    pub refused : ForSome (seen old) (λ image. (at : ℕ) → IsDamaged image at → (taken new ≡ taken old) × (status ≢ 0) × (status ≢ 7))
    pub kept : ForSome (seen old) (λ image. (at : ℕ) → IsDamaged image at → KeepsDamaged image old new status)
    pub whole : ForSome (seen old) (λ image. (before : List Label) → IsHistory image before → status ≢ 5)

  pub record SessionRun (words : Words) (answers : List Called) (old new : S) (status : ℕ) : Type 0 where
    -- A stop at any moment leaves a journal whose history begins with that of the journal at entry and has a place for every
    -- reply that was said.
    pub moments : Told old (λ image inputs pieces before. (all : List (Input W)) × (taken new ≡ Some all) × Runs moment left_since said may_leave (IsMoment session words before inputs pieces all answers) old new)
    -- At 0 the input was read to its end, each reply was said whole, and every image stands for the one history.
    pub finish : Told old (λ image inputs pieces before. status ≡ 0 → Finished session words before inputs answers pieces (taken new) (said new) (may_leave new))
    -- At 7 the journal is full, which was said whole, and the store stands for a history that has no room for its next label.
    pub full : Told old (λ image inputs pieces before. status ≡ 7 → TellsFull session words moment left_since said may_leave seen taken new before inputs answers pieces)
    -- At 3 and 6 whole replies were said, and no part of another.
    pub short : Told old (λ image inputs pieces before. (status ≡ 3) ⊎ (status ≡ 6) → IsShort session words before inputs answers pieces (taken new) (said new))
    pub damage : TellsOfDamage old new status
    -- Whatever the store tells, at 0 each input was replied to, and at 7 who asked last was told that labels have no room. At 5 damage was
    -- told: to who asked last, which was for a history, or to connection 0 where no engine was opened, which comes at 5 alone.
    pub heard : ForSome (taken old) (λ first. ForSome (said old) (λ pieces.
        TurnsTell session said taken seen new first pieces status ⊎ ((status ≡ 5) × ((at : ℕ) × TellsDamage at first pieces (taken new) (said new)))))

  pub record ShowRun (old new : S) (status : ℕ) : Type 0 where
    -- A stop at any moment leaves a journal of the same history, and a beginning of its lines was said.
    pub moments : Told old (λ image inputs pieces before. (taken new ≡ Some inputs) × Runs moment left_since said may_leave (IsShowing before inputs pieces) old new)
    -- At 0 all lines were said.
    pub finish : Told old (λ image inputs pieces before. status ≡ 0 → IsShown before inputs pieces (taken new) (said new) (may_leave new))
    -- At 3 and 6 whole lines were said, and no part of another.
    pub short : Told old (λ image inputs pieces before. (status ≡ 3) ⊎ (status ≡ 6) → IsPartShown before inputs pieces (taken new) (said new))
    pub damage : TellsOfDamage old new status
    -- Whatever the store tells, at 5 damage was told, to connection 0, and no input was taken.
    pub heard : ForSome (taken old) (λ first. ForSome (said old) (λ pieces. status ≡ 5 → (at : ℕ) × TellsDamage at first pieces (taken new) (said new)))

  -- a session asks its board, and no other mode does
  abbrev pub RunsIn : Mode → Words → (board board_now : List Party) → S → S → ℕ → Type 0
  RunsIn Check words board board_now old new status = CheckRun moment left_since said may_leave taken old new status
  RunsIn Session words board board_now old new status = Answering words.http board board_now (λ answers. SessionRun words answers old new status)
  RunsIn Show words board board_now old new status = ShowRun old new status
