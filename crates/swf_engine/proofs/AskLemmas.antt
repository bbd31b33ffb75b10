-- What a board answers: it fits a label, and the same holds of its parties whatever fault it would have named.
use Rattle.std.proofs.Common.{◌≡◌, ap, refl, inl, inr, ⊎_elim, ℕ, ◌≤◌, List, [], ◌∷◌, Result, Ok, Err, arith}
use Rattle.swf_value.specs.Value.{depth_members}
use Rattle.swf_calls.specs.Headers.{header_members}
use Rattle.swf_calls.specs.Request.{Request}
use Rattle.swf_calls.specs.declared.headers.Header.{Header}
use Rattle.swf_calls.specs.declared.reply.CallReply.{CallReply}
use Rattle.swf_calls.specs.declared.reply.CallReply.TheVariants.{Answer, Unreached}
use Rattle.swf_connect.specs.Asked.{AfterAsked, IsTellableReply, UnreachedBy}
use Rattle.swf_connect.specs.Parties.{Party, AsksFirst, AsksNone, IsAsked, Performs}
use Rattle.swf_meaning.specs.declared.label.Label.TheVariants.{Reply}
use Rattle.swf_record.specs.Encodes.{Nests}

-- headers are texts
shallow_headers : (hs : List Header) → depth_members (header_members hs) ≡ 0
shallow_headers [] = refl
shallow_headers (h ∷ hs) = omega (arith, shallow_headers hs)

-- the object around an answer is one deeper than its content
pub nests_tellable : (a : List ℕ) (r : CallReply) → IsTellableReply r → Nests (Reply a r)
nests_tellable a (Answer status headers content) t = (omega (arith, shallow_headers headers, t.shallow), t.status_is)
nests_tellable a Unreached t = (omega arith, tt)

-- what is asked of a first party is asked whatever the fault's type
first_as : {E F : Type 0} (request : Request) (result : Result CallReply E) (other : Result CallReply F) (old new : List Party)
    → ((p q : Party) → IsAsked request result p q → IsAsked request other p q) → AsksFirst request result old new → AsksFirst request other old new
first_as request result other old new f a = record {
  before = a.before;
  first = a.first;
  later = a.later;
  behind = a.behind;
  old_is = a.old_is;
  new_is = a.new_is;
  none_before = a.none_before;
  takes = a.takes;
  asks = f a.first a.later a.asks;
}

pub performed_none : {E : Type 0} (request : Request) (e : E) (old new : List Party) → Performs request (Err e) old new → Performs {E = Unit {0}} request (Err tt) old new
performed_none {E} request e old new p = ⊎_elim
    (λ first. inl (first_as request (Err e) (Err tt) old new (λ p q a. record { asked = a.asked; cause = a.cause }) first))
    (λ none. let nobody : ◌≡◌ {A = Result CallReply E} (Err e) (Ok Unreached) = none.nobody in absurd (cc))
    p

reply_asked : {E : Type 0} (request : Request) (r : CallReply) (p q : Party) → IsAsked {E = E} request (Ok r) p q → IsAsked {E = Unit {0}} request (Ok r) p q
reply_asked request (Answer status headers content) p q a = record { asked = a.asked; cause = a.cause }
reply_asked request Unreached p q a = record { asked = a.asked; cause = a.cause }

nobody_as : {E : Type 0} (r : CallReply) → ◌≡◌ {A = Result CallReply E} (Ok r) (Ok Unreached) → ◌≡◌ {A = Result CallReply (Unit {0})} (Ok r) (Ok Unreached)
nobody_as r e = let same : r ≡ Unreached = cc in ap Ok same

pub performed_reply : {E : Type 0} (request : Request) (r : CallReply) (old new : List Party) → Performs {E = E} request (Ok r) old new → Performs {E = Unit {0}} request (Ok r) old new
performed_reply request r old new p = ⊎_elim
    (λ first. inl (first_as request (Ok r) (Ok r) old new (reply_asked request r) first))
    (λ none. inr (record { none = none.none; same = none.same; nobody = nobody_as r none.nobody }))
    p
