-- What a session tells, whatever its store tells.
use Rattle.std.specs.Prelude.{◌≡◌, ◌⊎◌, ℕ, ◌+◌, List, [], ◌∷◌, ◌++◌, length, Bool, true, false, Option, Some, Ok}
use Rattle.std.specs.List.{AllByRecursion}
use Rattle.std.specs.Option.{ForSome}
use Rattle.swf_store.specs.declared.image.Image.{Image}
use Rattle.swf_store.specs.declared.said.Piece.{Piece}
use Rattle.swf_store.specs.Said.{and_piece}
use Rattle.swf_host.specs.declared.host.Input.{Input}
use Rattle.swf_host.specs.declared.host.Input.TheVariants.{Ask as Asks, TooLong, Work, Idle, Closed}
use Rattle.swf_journal.specs.Frames.{header}
use Rattle.swf_engine.specs.Retelling.{IsMisread}
use Rattle.swf_protocol.specs.declared.reply.Reply.{Reply}
use Rattle.swf_protocol.specs.declared.reply.Reply.TheVariants.{TooLong as Long}
use Rattle.swf_turns.specs.declared.saying.After.{After}
use Rattle.swf_turns.specs.declared.saying.After.TheVariants.{GoesOn, Ends, Stops}
use Rattle.swf_turns.specs.Dialect.{Dialect, Spell}
use Rattle.swf_turns.specs.Faults.{AsksHistory, AsksLabels, TellsPlace}
use Rattle.swf_turns.specs.Owed.{AreSaid, ArePrompt, IsAsked, conn_of}
use Rattle.swf_turns.specs.Turns.{Turn, AreMore, inputs_of}

-- in a mode
module _ {W : Type 0} (mode : Dialect W) where
  -- A reply is to who asked. What is too long is told so, and a history is told as the store holds it.
  abbrev pub IsReplyTo : Option Image → Input W → Reply → Type 0
  IsReplyTo held (Asks conn line) reply = Spell mode line (λ read. (place : ℕ) → AsksHistory read place → ForSome held (λ image. TellsPlace image.journal place (Ok reply)))
  IsReplyTo held (TooLong conn) reply = reply ≡ Long
  IsReplyTo held (Work w) reply = ⊥
  IsReplyTo held Idle reply = ⊥
  IsReplyTo held Closed reply = ⊥

module _ {W : Type 0} (mode : Dialect W) {S : Type 0} (said : S → Option (List Piece)) (taken : S → Option (List (Input W))) (seen : S → Option Image) where
  -- the inputs of a turn, which ends the input or not, were taken, and one reply was said to who asked
  pub record IsReplied (new : S) (inputs : List (Input W)) (pieces : List Piece) (over : Bool) : Type 0 where
    pub input : Input W
    pub more : List (Input W)
    pub reply : Reply
    pub answers : IsReplyTo mode (seen new) input reply
    pub ends : mode.ends input ≡ over
    pub belong : AreMore mode more
    pub took : taken new ≡ Some (inputs ++ input ∷ more)
    pub told : said new ≡ Some (and_piece (conn_of input) (mode.says reply) (length inputs + length (input ∷ more)) pieces)

  -- A line asked for a history that can not be told from what the store holds. To who asked it was told where the journal is damaged.
  pub record IsDamageTold (new : S) (inputs : List (Input W)) (pieces : List Piece) : Type 0 where
    pub conn : ℕ
    pub line : List ℕ
    pub more : List (Input W)
    pub place : ℕ
    pub at : ℕ
    pub asked : Spell mode line (λ read. AsksHistory read place)
    pub misread : ForSome (seen new) (λ image. IsMisread image.journal header place at)
    pub belong : AreMore mode more
    pub took : taken new ≡ Some (inputs ++ Asks conn line ∷ more)
    pub told : said new ≡ Some (and_piece conn (mode.says_damaged at) (length inputs + length (Asks conn line ∷ more)) pieces)

  -- A line asked for labels to be added. To who asked it was told that the journal is full.
  pub record IsFullTold (new : S) (inputs : List (Input W)) (pieces : List Piece) : Type 0 where
    pub conn : ℕ
    pub line : List ℕ
    pub more : List (Input W)
    pub size : ℕ
    pub asked : Spell mode line AsksLabels
    pub belong : AreMore mode more
    pub took : taken new ≡ Some (inputs ++ Asks conn line ∷ more)
    pub told : said new ≡ Some (and_piece conn (mode.says_full size) (length inputs + length (Asks conn line ∷ more)) pieces)

  -- What a turn tells: one that goes on a reply, the last one a reply, or nothing where no input comes any more. One that stops with 5
  -- tells that a history that was asked for meets damage, and one with 7 that labels that were asked for have no room.
  abbrev pub TurnTells : S → List (Input W) → List Piece → After → Type 0
  TurnTells new inputs pieces GoesOn = IsReplied new inputs pieces false
  TurnTells new inputs pieces Ends = ((taken new ≡ Some (inputs ++ Closed ∷ [])) × (said new ≡ Some pieces)) ⊎ IsReplied new inputs pieces true
  TurnTells new inputs pieces (Stops s) = (s ≡ 5 → IsDamageTold new inputs pieces) × (s ≡ 7 → IsFullTold new inputs pieces)

  -- each of these turns was asked for and has a reply, whatever labels it added
  abbrev pub AreReplied : List (Turn W) → Type 0
  AreReplied turns = AllByRecursion (λ t. AreMore mode t.more × IsAsked t.first × ((reply : Reply) × (t.reply ≡ Some reply))) turns

  -- At 0 each turn was replied to, to the end of the input. At 5 so were all before the last, and to who asked for a history in that one
  -- damage was told. So at 7 that its labels have no room.
  pub record TurnsTell (new : S) (first : List (Input W)) (pieces : List Piece) (status : ℕ) : Type 0 where
    pub turns : List (Turn W)
    pub replied : AreReplied turns
    pub whole : List Piece
    pub said_are : AreSaid mode (length first) turns whole
    pub prompt : ArePrompt mode (length first) turns whole
    pub over : status ≡ 0 → ((taken new ≡ Some (first ++ inputs_of turns)) ⊎ (taken new ≡ Some ((first ++ inputs_of turns) ++ Closed ∷ []))) × (said new ≡ Some (pieces ++ whole))
    pub damaged : status ≡ 5 → IsDamageTold new (first ++ inputs_of turns) (pieces ++ whole)
    pub full : status ≡ 7 → IsFullTold new (first ++ inputs_of turns) (pieces ++ whole)
