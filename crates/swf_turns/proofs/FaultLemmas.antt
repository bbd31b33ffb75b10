-- Which faults a command meets.
use Rattle.std.proofs.Common.{◌≡◌, ◌∙◌, ap, sym, refl, subst, inl, inr, ℕ, List, Option, Some, None, Result, Ok, Err, IsOk}
use Rattle.std.specs.Option.{ForSome}
use Rattle.swf_store.specs.declared.image.Image.{Image}
use Rattle.swf_journal.specs.Frames.{header}
use Rattle.swf_meaning.specs.declared.label.Answer.{Answer}
use Rattle.swf_meaning.specs.declared.label.Answer.TheVariants as answers
use Rattle.swf_meaning.specs.declared.label.Query.{Query}
use Rattle.swf_meaning.specs.declared.label.Query.TheVariants.{Status, Pending, Outbox, History}
use Rattle.swf_world.specs.Answers.{IsOfWorld}
use Rattle.swf_world.specs.declared.query.QueryFault.{QueryFault}
use Rattle.swf_engine.specs.declared.fault.EngineFault.{EngineFault}
use Rattle.swf_engine.specs.declared.fault.EngineFault.TheVariants.{Store, Damaged, Full, OutOfMemory}
use Rattle.swf_engine.specs.Retelling.{AnswersHistory, IsMisread, Queries}
use Rattle.swf_protocol.specs.Reading.{Reads}
use Rattle.swf_protocol.specs.declared.command.Command.{Command}
use Rattle.swf_protocol.specs.declared.command.Command.TheVariants.{Do, Ask, Settle, Quit}
use Rattle.swf_protocol.specs.declared.command.CommandFault.{CommandFault}
use Rattle.swf_protocol.specs.declared.command.CommandFault.TheVariants as faults
use Rattle.swf_protocol.specs.declared.reply.Reply.{Reply}
use Rattle.swf_turns.specs.Faults.{AsksHistory, AsksLabels, CommandFaults, MayReadFault, ReadFaults, TellsPlace}
use Rattle.swf_turns.specs.Steps.{reply_of}
use Rattle.swf_turns.specs.Turns.{fault_reply}
use Rattle.swf_turns.specs.declared.answer.Answered.{Answered}
use Rattle.swf_turns.proofs.AnswerLemmas.{answer_of}

-- a query finds the journal never full
abbrev IsNotFull : Result (Result Answer QueryFault) EngineFault → Type 0
IsNotFull r = (size : ℕ) → r ≡ Err (Full size) → ⊥

read_fault : (r : Result (Result Answer QueryFault) EngineFault) → IsNotFull r → MayReadFault (answer_of r)
read_fault (Ok answer) never = tt
read_fault (Err Store) never = tt
read_fault (Err (Damaged at)) never = tt
read_fault (Err (Full size)) never = never size refl
read_fault (Err OutOfMemory) never = tt

told_place : (journal : List ℕ) (place : ℕ) (r : Result (Result Answer QueryFault) EngineFault) → AnswersHistory journal place r → TellsPlace journal place (answer_of r)
told_place journal place (Ok (Ok (answers.History value))) h = inr (value, refl, h)
told_place journal place (Ok (Ok (answers.Status value))) h = absurd h
told_place journal place (Ok (Ok (answers.Pending value))) h = absurd h
told_place journal place (Ok (Ok (answers.Outbox value))) h = absurd h
told_place journal place (Ok (Err f)) h = absurd h
told_place journal place (Err Store) h = tt
told_place journal place (Err (Damaged at)) h = h
told_place journal place (Err (Full size)) h = h
told_place journal place (Err OutOfMemory) h = inl refl

answered : (r : Result (Result Answer QueryFault) EngineFault) → IsOk r → IsOk (answer_of r)
answered (Ok r) h = refl
answered (Err fault) h = absurd (cc)

-- of a query
asked_faults : (held : Option Image) (query : Query) (r : Result (Result Answer QueryFault) EngineFault) → ForSome held (λ image. Queries image.journal query r) → IsNotFull r → (IsOfWorld query → IsOk r)
    → CommandFaults held (Ok (Ask query)) (answer_of r)
asked_faults held (Status id) r h never done = answered r (done tt)
asked_faults held Pending r h never done = answered r (done tt)
asked_faults held (Outbox n) r h never done = answered r (done tt)
asked_faults held (History place) r h never done = (read_fault r never, λ image is. told_place image.journal place r (h image is))

pub asked_faults_as : (held old : Option Image) (query : Query) (r : Result (Result Answer QueryFault) EngineFault) (reply : Result Reply EngineFault) → held ≡ old → ForSome old (λ image. Queries image.journal query r)
    → IsNotFull r → (IsOfWorld query → IsOk r) → answer_of r ≡ reply → CommandFaults held (Ok (Ask query)) reply
asked_faults_as held old query r reply same h never done e =
    subst (λ (x : Result Reply EngineFault). CommandFaults held (Ok (Ask query)) x) e (asked_faults held query r (λ image is. h image (sym same ∙ is)) never done)

-- of equal commands and answers
pub command_faults_as : (held : Option Image) (a b : Result Command CommandFault) (r s : Result Reply EngineFault) → a ≡ b → r ≡ s → CommandFaults held b r → CommandFaults held a s
command_faults_as held a b r s e f h =
    subst (λ (c : Result Command CommandFault). CommandFaults held c s) (sym e) (subst (λ (x : Result Reply EngineFault). CommandFaults held b x) f h)

-- a line that was not read for want of memory is answered so, whatever it asks
lacks_faults : (held : Option Image) (command : Result Command CommandFault) → CommandFaults held command (Ok (fault_reply faults.OutOfMemory))
lacks_faults held (Ok (Do o)) = tt
lacks_faults held (Ok (Ask (Status id))) = refl
lacks_faults held (Ok (Ask Pending)) = refl
lacks_faults held (Ok (Ask (Outbox n))) = refl
lacks_faults held (Ok (Ask (History place))) = (tt, λ image is. inl refl)
lacks_faults held (Ok (Settle limit)) = tt
lacks_faults held (Ok Quit) = refl
lacks_faults held (Err f) = refl

pub unread_faults : (held : Option Image) (command read : Result Command CommandFault) (fault : CommandFault) → read ≡ Err fault → Reads read command → CommandFaults held command (Ok (fault_reply fault))
unread_faults held command read fault is (inl none) =
    let e : fault ≡ faults.OutOfMemory = cc in
    subst (λ (f : CommandFault). CommandFaults held command (Ok (fault_reply f))) (sym e) (lacks_faults held command)
unread_faults held command read fault is (inr same) = command_faults_as held command (Err fault) (Ok (fault_reply fault)) (Ok (fault_reply fault)) (sym same ∙ is) refl refl

-- of what was read of a line: damage tells that a history was asked for
pub damage_of_history : (held : Option Image) (read : Option (Result Command CommandFault)) (at : ℕ) → ReadFaults held read (Err (Damaged at)) → (place : ℕ) × AsksHistory read place × ForSome held (λ image. IsMisread image.journal header place at)
damage_of_history held None at h = absurd (cc)
damage_of_history held (Some (Ok (Do o))) at h = absurd h
damage_of_history held (Some (Ok (Ask (Status id)))) at h = absurd (cc)
damage_of_history held (Some (Ok (Ask Pending))) at h = absurd (cc)
damage_of_history held (Some (Ok (Ask (Outbox n)))) at h = absurd (cc)
damage_of_history held (Some (Ok (Ask (History place)))) at h = (place, refl, h.1)
damage_of_history held (Some (Ok (Settle limit))) at h = absurd h
damage_of_history held (Some (Ok Quit)) at h = absurd (cc)
damage_of_history held (Some (Err f)) at h = absurd (cc)

-- that the journal is full, that labels were to be added
pub full_of_labels : (held : Option Image) (read : Option (Result Command CommandFault)) (size : ℕ) → ReadFaults held read (Err (Full size)) → AsksLabels read
full_of_labels held None size h = absurd (cc)
full_of_labels held (Some (Ok (Do o))) size h = tt
full_of_labels held (Some (Ok (Ask (Status id)))) size h = absurd (cc)
full_of_labels held (Some (Ok (Ask Pending))) size h = absurd (cc)
full_of_labels held (Some (Ok (Ask (Outbox n)))) size h = absurd (cc)
full_of_labels held (Some (Ok (Ask (History place)))) size h = absurd h.0
full_of_labels held (Some (Ok (Settle limit))) size h = tt
full_of_labels held (Some (Ok Quit)) size h = absurd (cc)
full_of_labels held (Some (Err f)) size h = absurd (cc)

-- and a reply tells the history that was asked for
pub reply_of_history : (held : Option Image) (read : Option (Result Command CommandFault)) (result : Result Answered EngineFault) (given : Answered) → result ≡ Ok given → ReadFaults held read (reply_of result)
    → (place : ℕ) → AsksHistory read place → ForSome held (λ image. TellsPlace image.journal place (Ok given.reply))
reply_of_history held read result given is h place asks =
    let all : MayReadFault (Ok given.reply) × ForSome held (λ image. TellsPlace image.journal place (Ok given.reply)) =
    subst (λ (m : Option (Result Command CommandFault)). ReadFaults held m (Ok given.reply)) asks
    (subst (λ (r : Result Answered EngineFault). ReadFaults held read (reply_of r)) is h) in
    all.1
