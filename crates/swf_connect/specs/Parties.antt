-- Whom a switchboard asks: the first that takes a request, and no other.
use Rattle.std.specs.Prelude.{◌≡◌, ◌⊎◌, ℕ, List, ◌∷◌, ◌++◌, Bool, true, false, Option, Result, Ok, All}
use Rattle.swf_calls.specs.Request.{Request}
use Rattle.swf_calls.specs.declared.reply.CallReply.{CallReply}
use Rattle.swf_calls.specs.declared.reply.CallReply.TheVariants.{Unreached}
use Rattle.swf_connect.specs.declared.asked.Asked.{Asked}
use Rattle.swf_connect.specs.Asked.{AfterAsked, UnreachedBy}

-- what contracts see of a connector
pub record Party : Type 0 where
  -- the requests that it takes
  pub takes : Request → Bool
  -- those that it performed, where it tells them
  pub asked : Option (List Asked)
  -- how many reached nobody
  pub unreached : ℕ

-- what a party is after it was asked once
pub record IsAsked {E : Type 0} (request : Request) (result : Result CallReply E) (old new : Party) : Type 0 where
  pub asked : AfterAsked request result old.asked new.asked
  pub cause : UnreachedBy result old.unreached new.unreached

-- the first that takes the request is asked once, and all others are as they were
pub record AsksFirst {E : Type 0} (request : Request) (result : Result CallReply E) (old new : List Party) : Type 0 where
  pub before : List Party
  pub first : Party
  pub later : Party
  pub behind : List Party
  pub old_is : old ≡ before ++ first ∷ behind
  pub new_is : new ≡ before ++ later ∷ behind
  pub none_before : All (λ p. p.takes request ≡ false) before
  pub takes : first.takes request ≡ true
  pub asks : IsAsked request result first later

-- none takes the request, so nobody is reached, and all are as they were
pub record AsksNone {E : Type 0} (request : Request) (result : Result CallReply E) (old new : List Party) : Type 0 where
  pub none : All (λ p. p.takes request ≡ false) old
  pub same : new ≡ old
  pub nobody : result ≡ Ok Unreached

abbrev pub Performs : {E : Type 0} → Request → Result CallReply E → List Party → List Party → Type 0
Performs request result old new = AsksFirst request result old new ⊎ AsksNone request result old new
