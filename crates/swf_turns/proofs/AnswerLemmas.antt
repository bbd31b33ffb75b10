-- What a call of the engine is to a line of a session.
use Rattle.std.proofs.Common.{◌≡◌, ◌∙◌, ap, sym, refl, subst, ◌⊎◌, inl, inr, ⊎_elim, ℕ, ◌≤◌, List, [], ◌∷◌, ◌++◌, length, length-append, ◌^◌, append-nil, Bool, true, false, Option, Some, None, unwrap_or, Ok, Err, Result, IfOk, arith}
use Rattle.std.specs.List.{AllByRecursion}
use Rattle.std.specs.Option.{ForSome}
use Rattle.swf_value.specs.Value.{Value}
use Rattle.swf_store.specs.Disk.{NothingNew}
use Rattle.swf_store.specs.Stops.{LeavesOnly}
use Rattle.swf_store.proofs.Moments.{weaker_only}
use Rattle.swf_store.specs.declared.call.Call.{Call}
use Rattle.swf_store.specs.declared.image.Image.{Image}
use Rattle.swf_store.specs.declared.said.Piece.{Piece}
use Rattle.swf_store.specs.Said.{IsSaid}
use Rattle.swf_meaning.specs.declared.label.Label.{Label}
use Rattle.swf_meaning.specs.declared.label.Outcome.{Outcome}
use Rattle.swf_meaning.specs.declared.label.Outcome.TheVariants.{Load, Start, Event, Reply as Replies, Moment}
use Rattle.swf_meaning.specs.declared.label.Query.{Query}
use Rattle.swf_meaning.specs.declared.label.Query.TheVariants.{Status as OfStatus, Pending as OfPending, Outbox as OfOutbox, History as OfHistory}
use Rattle.swf_meaning.specs.declared.label.Answer.{Answer}
use Rattle.swf_meaning.specs.Answer.{status}
use Rattle.swf_runs.specs.Runs.{run, world_at}
use Rattle.swf_meaning.specs.World.{World}
use Rattle.swf_runs.proofs.RunLemmas.{world_of_run}
use Rattle.swf_record.specs.Encodes.{Nests}
use Rattle.swf_world.specs.Answers.{answer, found}
use Rattle.swf_world.specs.declared.query.QueryFault.{QueryFault}
use Rattle.swf_world.specs.declared.query.QueryFault.TheVariants.{OutOfMemory as NoMemory}
use Rattle.swf_world.specs.Latest.{label_of}
use Rattle.swf_world.specs.Refusals.{refusal}
use Rattle.swf_world.specs.declared.refusal.Refusal.{Refusal}
use Rattle.swf_world.specs.declared.refusal.Refusal.TheVariants.{Refused as NotRead, Duplicate, UnknownDocument, UnknownInstance, Stale, Past, Full as TooMany, NotEnabled}
use Rattle.swf_engine.specs.Settling.{Called, AreTaken, IsGroup, is_settled, steps_in}
use Rattle.swf_engine.specs.declared.settle.Settled.{Settled as HasSettled}
use Rattle.swf_engine.specs.declared.engine.Submitted.{Submitted}
use Rattle.swf_engine.specs.declared.engine.Submitted.TheVariants.{Accepted, Refused}
use Rattle.swf_engine.specs.declared.fault.EngineFault.{EngineFault}
use Rattle.swf_engine.specs.declared.fault.EngineFault.TheVariants.{Store, Damaged, Full, OutOfMemory}
use Rattle.swf_engine.specs.Answers.{Submits, Settles, Stays, IsSmallRefusal}
use Rattle.swf_engine.specs.Causes.{EngineCause, WhereUsable}
use Rattle.swf_engine.specs.Core.{Core, StandFor}
use Rattle.swf_engine.specs.History.{Begins, IsGrown}
use Rattle.swf_engine.specs.Retelling.{AnswersQuery}
use Rattle.swf_engine.proofs.HistoryLemmas.{left_history, not_grown}
use Rattle.swf_engine.specs.Moves.{Adds, Breaks}
use Rattle.swf_engine.proofs.MoveLemmas.{some_of, stays_adds}
use Rattle.swf_protocol.specs.Line.{is_quit}
use Rattle.swf_protocol.specs.Reading.{Reads}
use Rattle.swf_protocol.specs.Sayable.{IsSayable, IsModest}
use Rattle.swf_protocol.specs.declared.command.Command.{Command}
use Rattle.swf_protocol.specs.declared.command.Command.TheVariants.{Do, Ask, Settle, Quit}
use Rattle.swf_protocol.specs.declared.command.CommandFault.{CommandFault}
use Rattle.swf_protocol.specs.declared.command.CommandFault.TheVariants as faults
use Rattle.swf_protocol.specs.declared.reply.Reply.{Reply}
use Rattle.swf_protocol.specs.declared.reply.Reply.TheVariants.{Memory}
use Rattle.swf_turns.specs.Faults.{MayAddFault}
use Rattle.swf_turns.specs.Follows.{AddsNext, MayAdd}
use Rattle.swf_turns.specs.Steps.{CommandDone, LineDone, Passes, Stand, IsFilled, IsBreak, or_memory, queried}
use Rattle.swf_turns.specs.Settling.{AreSettling}
use Rattle.swf_turns.proofs.SettlingLemmas.{settling_begin, settling_of_group, settling_of_all, settling_of_none}
use Rattle.swf_turns.specs.Turns.{Outcomes, Settled, Lacks, CommandTurn, accepted, refused, fault_reply, settle_reply, query_reply}
use Rattle.swf_turns.specs.Sorts.{sort_of, accepted_as}
use Rattle.swf_turns.specs.declared.answer.Sort.{Sort}
use Rattle.swf_words.specs.declared.words.Words.{Words}

-- the label of an outcome has its value
pub shallow_nests : (w : World) (o : Outcome) → IsModest (Do o) → Nests (label_of w o)
shallow_nests w (Load v) m = m
shallow_nests w (Start id key input) m = m
shallow_nests w (Event e) m = m
shallow_nests w (Replies a r) m = m
shallow_nests w (Moment moment) m = m

accepted_by : (o : Outcome) (n t : ℕ) → accepted_as (sort_of o) n t ≡ accepted o n t
accepted_by (Load v) n t = refl
accepted_by (Start id key input) n t = refl
accepted_by (Event e) n t = refl
accepted_by (Replies a r) n t = refl
accepted_by (Moment moment) n t = refl

accepted_sayable : (o : Outcome) (n t : ℕ) → n ≤ 2 ^ 40 → IsSayable (accepted o n t)
accepted_sayable (Load v) n t h = h
accepted_sayable (Start id key input) n t h = h
accepted_sayable (Event e) n t h = h
accepted_sayable (Replies a r) n t h = h
accepted_sayable (Moment moment) n t h = h

-- what the code says of an outcome that was taken
pub accepted_so : (o : Outcome) (n t : ℕ) (s : Sort) (reply : Reply) → s ≡ sort_of o → reply ≡ accepted_as s n t → accepted o n t ≡ reply
accepted_so o n t s reply e is = sym (is ∙ ap (λ (x : Sort). accepted_as x n t) e ∙ accepted_by o n t)

pub said_accepted : (o : Outcome) (n t : ℕ) (reply : Reply) → accepted o n t ≡ reply → n ≤ 2 ^ 40 → IsSayable reply
said_accepted o n t reply e h = subst IsSayable e (accepted_sayable o n t h)

pub refused_sayable : (r : Refusal) → IsSmallRefusal r → IsSayable (refused r)
refused_sayable (NotRead faults) h = tt
refused_sayable (Duplicate place) h = h
refused_sayable UnknownDocument h = tt
refused_sayable UnknownInstance h = tt
refused_sayable Stale h = tt
refused_sayable (Past now) h = tt
refused_sayable TooMany h = tt
refused_sayable NotEnabled h = tt

-- a command that was read is the line's
pub read_line_is : (read line : Result Command CommandFault) (command : Command) → read ≡ Ok command → Reads read line → line ≡ Ok command
read_line_is read line command is (inl none) = absurd (cc)
read_line_is read line command is (inr same) = sym same ∙ is

-- where the world is that of the history, so is the answer
outcome_in : (v w : World) (o : Outcome) (r : Option Refusal) (labels : List Label) (reply : Reply) → v ≡ w → refusal w (label_of w o) ≡ r → Outcomes w o r labels reply
    → Outcomes v o (refusal v (label_of v o)) labels reply
outcome_in v w o r labels reply e is h =
    subst (λ (u : World). Outcomes u o (refusal u (label_of u o)) labels reply) (sym e) (subst (λ (q : Option Refusal). Outcomes w o q labels reply) (sym is) h)

-- a beginning of one label is nothing or the label
begins_one : (part : List Label) (l : Label) → Begins part (l ∷ []) → (part ≡ []) ⊎ (part ≡ l ∷ [])
begins_one [] l b = inl refl
begins_one (x ∷ []) l b = let e : l ∷ [] ≡ x ∷ b.rest = b.joined in inr (cc)
begins_one (x ∷ y ∷ ys) l b = let e : l ∷ [] ≡ x ∷ y ∷ (ys ++ b.rest) = b.joined in absurd (cc)

pub begins_none : (part : List Label) → Begins part [] → part ≡ []
begins_none [] b = refl
begins_none (x ∷ xs) b = let e : [] ≡ x ∷ (xs ++ b.rest) = b.joined in absurd (cc)

-- the faults of the engine: what a caller knows of them is known of the answer
usable_or_memory : (T : Type 0) (fault : EngineFault) (P : Type 0) → WhereUsable {T = T} (Err fault) P → WhereUsable (or_memory fault) P
usable_or_memory T Store P h = tt
usable_or_memory T (Damaged at) P h = tt
usable_or_memory T (Full size) P h = tt
usable_or_memory T OutOfMemory P h = h

cause_or_memory : (T : Type 0) (fault : EngineFault) (before now : ℕ) → EngineCause {T = T} before now (Err fault) → EngineCause before now (or_memory fault)
cause_or_memory T Store before now h = h
cause_or_memory T (Damaged at) before now h = h
cause_or_memory T (Full size) before now h = h
cause_or_memory T OutOfMemory before now h = h

pub or_memory_usable : (T : Type 0) (fault : EngineFault) (r : Result Reply EngineFault) (P : Type 0) → r ≡ or_memory fault → WhereUsable {T = T} (Err fault) P → WhereUsable r P
or_memory_usable T fault r P e h = subst (λ (x : Result Reply EngineFault). WhereUsable x P) (sym e) (usable_or_memory T fault P h)

pub or_memory_cause : (T : Type 0) (fault : EngineFault) (r : Result Reply EngineFault) (before now : ℕ) → r ≡ or_memory fault → EngineCause {T = T} before now (Err fault) → EngineCause before now r
or_memory_cause T fault r before now e h = subst (λ (x : Result Reply EngineFault). EngineCause before now x) (sym e) (cause_or_memory T fault before now h)

-- an engine that may be used again, whatever it answered
pub query_usable : (fault : EngineFault) (r : Result Reply EngineFault) (P : Type 0) → r ≡ or_memory fault → P → WhereUsable r P
query_usable fault r P e h = subst (λ (x : Result Reply EngineFault). WhereUsable x P) (sym e) (by fault)
  where
    by : (fault : EngineFault) → WhereUsable (or_memory fault) P
    by Store = tt
    by (Damaged at) = tt
    by (Full size) = tt
    by OutOfMemory = h

-- of a query nothing is left but a fault of the store, damage or a full journal
pub query_breaks : (fault : EngineFault) → IsBreak (or_memory fault)
query_breaks Store = tt
query_breaks (Damaged at) = tt
query_breaks (Full size) = tt
query_breaks OutOfMemory = tt

pub sayable_or_memory : (fault : EngineFault) → IfOk (or_memory fault) IsSayable
sayable_or_memory Store = tt
sayable_or_memory (Damaged at) = tt
sayable_or_memory (Full size) = tt
sayable_or_memory OutOfMemory = tt

-- the reply to an outcome that was handed in, and to a settling
abbrev pub submit_reply : Outcome → Result Submitted EngineFault → Result Reply EngineFault
submit_reply o (Ok (Accepted i)) = Ok (accepted o i.place i.taken)
submit_reply o (Ok (Refused r)) = Ok (refused r)
submit_reply o (Err fault) = or_memory fault

abbrev pub settled_reply : ℕ → Result HasSettled EngineFault → Result Reply EngineFault
settled_reply limit (Ok settled) = Ok (settle_reply settled.quiet settled.steps limit)
settled_reply limit (Err fault) = or_memory fault

abbrev pub answer_of : Result (Result Answer QueryFault) EngineFault → Result Reply EngineFault
answer_of (Ok r) = Ok (queried r)
answer_of (Err fault) = or_memory fault

found_reply : (o : Option Value) → queried (found o) ≡ query_reply (found o)
found_reply None = refl
found_reply (Some v) = refl

pub answer_reply : (history : List Label) (w : World) (q : Query) → queried (answer history w q) ≡ query_reply (answer history w q)
answer_reply history w (OfStatus id) = found_reply (status w id)
answer_reply history w OfPending = refl
answer_reply history w (OfOutbox n) = refl
answer_reply history w (OfHistory place) = refl

-- a settling's numbers fit
pub settled_sayable : (quiet : Bool) (steps limit : ℕ) → limit ≤ 1000000 → (quiet ≡ true → steps ≤ limit) → IsSayable (settle_reply quiet steps limit)
settled_sayable true steps limit m h = let le : steps ≤ limit = h refl in omega (arith, le, m)
settled_sayable false steps limit m h = omega (arith, m)

-- what a settling answers, where the worlds are those of the history without and with its labels
settled_in : (http : Bool) (history labels : List Label) (limit : ℕ) (called : List Called) (v w : World) (settled : HasSettled) → world_at history ≡ v → world_at (history ++ labels) ≡ w → AreTaken v labels called
    → length (steps_in labels) ≡ settled.steps → settled.steps ≤ limit → settled.quiet ≡ is_settled http w → (settled.quiet ≡ false → settled.steps ≡ limit)
    → Settled http history limit called labels (settle_reply settled.quiet settled.steps limit)
settled_in http history labels limit called v w settled d e are count most quiet enough =
    let same : is_settled http (world_at (history ++ labels)) ≡ settled.quiet = ap (is_settled http) e ∙ sym quiet in
    record {
      settling = subst (λ (x : World). AreSettling x labels limit called) (sym d) (settling_of_all v labels limit called are (omega (arith, most, count)));
      enough = λ is. count ∙ enough (sym same ∙ is);
      told = ap (λ (b : Bool). settle_reply b settled.steps limit) (sym same) ∙ ap (λ (n : ℕ). settle_reply (is_settled http (world_at (history ++ labels))) n limit) (sym count);
    }

module _ {S : Type 0} (moment : S → ℕ) (left_since : S → ℕ → Image → List Piece → Type 0) (said : S → Option (List Piece)) (may_leave : S → Image → Type 0) (seen : S → Option Image)
    (only_now : (s : S) (image : Image) (pieces : List Piece) → left_since s (moment s) image pieces → may_leave s image × IsSaid (said s) pieces) where
  -- labels were added
  pub done_by : (May : List Label → Type 0) (Next : List Label → Label → Type 0) (Does : List Label → Reply → Type 0) (old new : S) (before after : Core) (image : Image) (history labels : List Label) (reply : Reply)
      → Adds moment left_since said may_leave seen old new before after labels → seen old ≡ Some image → StandFor image (may_leave old) before history → Does labels reply
      → CommandDone moment left_since said may_leave seen May Next Does history old new after (Ok reply)
  done_by May Next Does old new before after image history labels reply a is stands does =
      let there = some_of (seen new) (seen old) image a.honest is in
      (labels, does, a.passes image is history stands, (there.0, there.1, a.stands image is history stands there.0 there.1))

  -- the store failed behind some labels
  broken_by : (May : List Label → Type 0) (Next : List Label → Label → Type 0) (Does : List Label → Reply → Type 0) (old new : S) (before after : Core) (image : Image) (history labels : List Label)
      → Breaks moment left_since said may_leave seen old new before labels → seen old ≡ Some image → StandFor image (may_leave old) before history
      → ((part : List Label) → Begins part labels → May part)
      → CommandDone moment left_since said may_leave seen May Next Does history old new after (Err Store)
  broken_by May Next Does old new before after image history labels b is stands may = (labels, may, b.passes image is history stands)

  -- the journal is full behind some labels
  full_by : (May : List Label → Type 0) (Next : List Label → Label → Type 0) (Does : List Label → Reply → Type 0) (old new : S) (before after : Core) (image : Image) (history labels : List Label) (size : ℕ)
      → Adds moment left_since said may_leave seen old new before after labels → seen old ≡ Some image → StandFor image (may_leave old) before history
      → ((part : List Label) → Begins part labels → May part) → IsFilled (Next labels) after size
      → CommandDone moment left_since said may_leave seen May Next Does history old new after (Err (Full size))
  full_by May Next Does old new before after image history labels size a is stands may filled =
      let there = some_of (seen new) (seen old) image a.honest is in
      (labels, may, a.passes image is history stands, (there.0, there.1, a.stands image is history stands there.0 there.1), filled)

  adds_none : (old new : S) (before after : Core) → Stays old new before after → Adds moment left_since said may_leave seen old new before after []
  adds_none old new before after s =
      subst (λ (n : S). Adds moment left_since said may_leave seen old n before after []) (sym s.0)
      (subst (λ (e : Core). Adds moment left_since said may_leave seen old old before e []) (sym s.1) (stays_adds moment left_since said may_leave seen only_now old before))

  pub submit_breaks : (o : Outcome) (old new : S) (before after : Core) (fault : EngineFault) → Submits moment left_since said may_leave seen old new before after (label_of before.world o) (Err fault) → IsBreak (or_memory fault)
  submit_breaks o old new before after Store h = tt
  submit_breaks o old new before after (Damaged at) h = absurd h
  submit_breaks o old new before after (Full size) h = tt
  submit_breaks o old new before after OutOfMemory h = tt

  pub settle_breaks : (calls : S → Option (List Call)) (http : Bool) (called : List Called) (limit : ℕ) (old new : S) (before after : Core) (fault : EngineFault) → Settles moment left_since said may_leave seen calls http called old new before after limit (Err fault) → IsBreak (or_memory fault)
  settle_breaks calls http called limit old new before after Store h = tt
  settle_breaks calls http called limit old new before after (Damaged at) h = absurd h
  settle_breaks calls http called limit old new before after (Full size) h = tt
  settle_breaks calls http called limit old new before after OutOfMemory h = tt

  -- nor is it damage
  pub submit_faults : (o : Outcome) (old new : S) (before after : Core) (fault : EngineFault) → Submits moment left_since said may_leave seen old new before after (label_of before.world o) (Err fault) → MayAddFault (or_memory fault)
  submit_faults o old new before after Store h = tt
  submit_faults o old new before after (Damaged at) h = h
  submit_faults o old new before after (Full size) h = tt
  submit_faults o old new before after OutOfMemory h = tt

  pub settle_faults : (calls : S → Option (List Call)) (http : Bool) (called : List Called) (limit : ℕ) (old new : S) (before after : Core) (fault : EngineFault) → Settles moment left_since said may_leave seen calls http called old new before after limit (Err fault) → MayAddFault (or_memory fault)
  settle_faults calls http called limit old new before after Store h = tt
  settle_faults calls http called limit old new before after (Damaged at) h = absurd h
  settle_faults calls http called limit old new before after (Full size) h = tt
  settle_faults calls http called limit old new before after OutOfMemory h = tt

  -- a call that only reads leaves what there was
  read_passes : (old new : S) (before : Core) (image : Image) (history : List Label) → StandFor image (may_leave old) before history → LeavesOnly moment left_since said old new (may_leave old)
      → Passes moment left_since said may_leave seen old new history []
  read_passes old new before image history stands only =
      weaker_only moment left_since said old new (may_leave old) (IsGrown history []) only (λ left may. not_grown history [] left (left_history image (may_leave old) before history stands left may))

  read_stand : (old new : S) (before after : Core) (image : Image) (history : List Label) → StandFor image (may_leave old) before history → seen old ≡ Some image → after ≡ before → seen new ≡ seen old
      → NothingNew (may_leave old) (may_leave new) → Stand moment left_since said may_leave seen new after (history ++ [])
  read_stand old new before after image history stands is same unseen stop =
      let stood : StandFor image (may_leave new) before history = record {
        bodies = stands.bodies;
        settled = record { ready = stands.settled.ready; durable = λ other may. stands.settled.durable other (stop other may) };
        holds = stands.holds;
        run = stands.run;
      } in
      (image, unseen ∙ is, subst (λ (c : Core). StandFor image (may_leave new) c (history ++ [])) (sym same) (subst (λ (l : List Label). StandFor image (may_leave new) before l) (sym (append-nil history)) stood))

-- by the words of the program, and what the board answered
module _ (words : Words) (answers : List Called) where
  pub may_outcome : (history : List Label) (w : World) (o : Outcome) (part : List Label) → world_at history ≡ w → refusal w (label_of w o) ≡ None → Begins part (label_of w o ∷ [])
      → MayAdd words None answers history (Ok (Do o)) part
  may_outcome history w o part e is b =
      let P : World → Type 0 = λ v. (part ≡ []) ⊎ ((refusal v (label_of v o) ≡ None) × (part ≡ label_of v o ∷ [])) in
      subst P (sym e) (⊎_elim (λ none. inl none) (λ all. inr (is, all)) (begins_one part (label_of w o) b))

  -- what a query is answered behind a history
  asked_turn : (history : List Label) (w : World) (q : Query) (r : Result Answer QueryFault) → world_at history ≡ w → (r ≡ Err NoMemory) ⊎ (r ≡ answer history w q) → CommandTurn words None answers history (Ok (Ask q)) [] (queried r)
  asked_turn history w q r e (inl none) = inr (ap queried none, refl)
  asked_turn history w q r e (inr is) =
      inl (refl, ap queried is ∙ answer_reply history w q ∙ ap (λ (v : World). query_reply (answer history v q)) (sym e))

  -- an engine's group behind a history
  group_in : (history : List Label) (before : Core) (labels : List Label) (limit : ℕ) → run history ≡ Some before.world → IsGroup before.world labels limit answers → AreSettling (world_at history) labels limit answers
  group_in history before labels limit is g =
      subst (λ (w : World). AreSettling w labels limit answers) (sym (world_of_run history before.world is)) (settling_of_group before.world labels limit answers g)

  module _ {S : Type 0} (moment : S → ℕ) (left_since : S → ℕ → Image → List Piece → Type 0) (said : S → Option (List Piece)) (may_leave : S → Image → Type 0) (seen : S → Option Image)
      (only_now : (s : S) (image : Image) (pieces : List Piece) → left_since s (moment s) image pieces → may_leave s image × IsSaid (said s) pieces) where
    -- a line that adds nothing
    pub line_stays : (command : Result Command CommandFault) (old : S) (engine : Core) (reply : Reply) → ((history : List Label) → run history ≡ Some engine.world → CommandTurn words None answers history command [] reply)
        → LineDone words None answers moment left_since said may_leave seen command old old engine engine (Ok reply)
    line_stays command old engine reply does = λ image is history stands.
        done_by moment left_since said may_leave seen only_now (MayAdd words None answers history command) (AddsNext words None answers history command) (CommandTurn words None answers history command) old old engine engine image history [] reply (stays_adds moment left_since said may_leave seen only_now old engine) is stands (does history stands.run)

    pub submit_done : (o : Outcome) (old new : S) (before after : Core) (result : Result Submitted EngineFault)
        → Submits moment left_since said may_leave seen old new before after (label_of before.world o) result
        → LineDone words None answers moment left_since said may_leave seen (Ok (Do o)) old new before after (submit_reply o result)
    submit_done o old new before after (Ok (Accepted i)) h = λ image is history stands.
        let l = label_of before.world o in
        let e : world_at history ≡ before.world = world_of_run history before.world stands.run in
        done_by moment left_since said may_leave seen only_now (MayAdd words None answers history (Ok (Do o))) (AddsNext words None answers history (Ok (Do o))) (CommandTurn words None answers history (Ok (Do o))) old new before after image history (l ∷ []) (accepted o i.place i.taken) h.0 is stands
        (inl (outcome_in (world_at history) before.world o None (l ∷ []) (accepted o i.place i.taken) e h.1 (refl, ap (λ (n : ℕ). accepted o n i.taken) h.3 ∙ ap (accepted o before.world.count) h.4)))
    submit_done o old new before after (Ok (Refused r)) h = λ image is history stands.
        let e : world_at history ≡ before.world = world_of_run history before.world stands.run in
        done_by moment left_since said may_leave seen only_now (MayAdd words None answers history (Ok (Do o))) (AddsNext words None answers history (Ok (Do o))) (CommandTurn words None answers history (Ok (Do o))) old new before after image history [] (refused r) (adds_none moment left_since said may_leave seen only_now old new before after h.2) is stands
        (inl (outcome_in (world_at history) before.world o (Some r) [] (refused r) e h.0 (refl, refl)))
    submit_done o old new before after (Err Store) h = λ image is history stands.
        let e : world_at history ≡ before.world = world_of_run history before.world stands.run in
        broken_by moment left_since said may_leave seen only_now (MayAdd words None answers history (Ok (Do o))) (AddsNext words None answers history (Ok (Do o))) (CommandTurn words None answers history (Ok (Do o))) old new before after image history (label_of before.world o ∷ []) h.0 is stands
        (λ part b. may_outcome history before.world o part e h.1 b)
    submit_done o old new before after (Err (Damaged at)) h = absurd h
    submit_done o old new before after (Err (Full size)) h = λ image is history stands.
        full_by moment left_since said may_leave seen only_now (MayAdd words None answers history (Ok (Do o))) (AddsNext words None answers history (Ok (Do o))) (CommandTurn words None answers history (Ok (Do o))) old new before after image history [] size (adds_none moment left_since said may_leave seen only_now old new before after h.2) is stands
        (λ part b. inl (begins_none part b))
        (subst (λ (c : Core). IsFilled (AddsNext words None answers history (Ok (Do o)) []) c size) (sym h.2.1)
        (record { label = label_of before.world o; next = inr (ap (λ (w : World). label_of w o ∷ []) (sym (world_of_run history before.world stands.run))); legal = h.1; full = h.0 }))
    submit_done o old new before after (Err OutOfMemory) h = λ image is history stands.
        done_by moment left_since said may_leave seen only_now (MayAdd words None answers history (Ok (Do o))) (AddsNext words None answers history (Ok (Do o))) (CommandTurn words None answers history (Ok (Do o))) old new before after image history [] Memory (adds_none moment left_since said may_leave seen only_now old new before after h) is stands (inr (refl, refl))

    pub submit_done_as : (o : Outcome) (old new : S) (before after : Core) (result : Result Submitted EngineFault) (r : Result Reply EngineFault)
        → Submits moment left_since said may_leave seen old new before after (label_of before.world o) result → submit_reply o result ≡ r
        → LineDone words None answers moment left_since said may_leave seen (Ok (Do o)) old new before after r
    submit_done_as o old new before after result r h e =
        subst (λ (x : Result Reply EngineFault). LineDone words None answers moment left_since said may_leave seen (Ok (Do o)) old new before after x) e (submit_done o old new before after result h)

    pub settle_done : (calls : S → Option (List Call)) (limit : ℕ) (old new : S) (before after : Core) (result : Result HasSettled EngineFault)
        → Settles moment left_since said may_leave seen calls words.http answers old new before after limit result
        → LineDone words None answers moment left_since said may_leave seen (Ok (Settle (Some limit))) old new before after (settled_reply limit result)
    settle_done calls limit old new before after (Ok settled) h = λ image is history stands.
        let went = h.0 in
        let there = some_of (seen new) (seen old) image went.adds.honest is in
        let stood = went.adds.stands image is history stands there.0 there.1 in
        done_by moment left_since said may_leave seen only_now (MayAdd words None answers history (Ok (Settle (Some limit)))) (AddsNext words None answers history (Ok (Settle (Some limit)))) (CommandTurn words None answers history (Ok (Settle (Some limit)))) old new before after image history went.labels (settle_reply settled.quiet settled.steps limit) went.adds is stands
        (inl (settled_in words.http history went.labels limit answers before.world after.world settled (world_of_run history before.world stands.run) (world_of_run (history ++ went.labels) after.world stood.run) went.taken went.count h.1 h.2 h.3))
    settle_done calls limit old new before after (Err Store) h = λ image is history stands.
        broken_by moment left_since said may_leave seen only_now (MayAdd words None answers history (Ok (Settle (Some limit)))) (AddsNext words None answers history (Ok (Settle (Some limit)))) (CommandTurn words None answers history (Ok (Settle (Some limit)))) old new before after image history h.0 h.2 is stands
        (λ part b. settling_begin (world_at history) part h.0 limit answers (group_in history before h.0 limit stands.run h.1) b)
    settle_done calls limit old new before after (Err (Damaged at)) h = absurd h
    settle_done calls limit old new before after (Err (Full size)) h = λ image is history stands.
        let all = group_in history before (h.0 ++ h.1 ∷ []) limit stands.run h.3 in
        full_by moment left_since said may_leave seen only_now (MayAdd words None answers history (Ok (Settle (Some limit)))) (AddsNext words None answers history (Ok (Settle (Some limit)))) (CommandTurn words None answers history (Ok (Settle (Some limit)))) old new before after image history h.0 size h.4 is stands
        (λ part b. settling_begin (world_at history) part h.0 limit answers (settling_begin (world_at history) h.0 (h.0 ++ h.1 ∷ []) limit answers all (record { rest = h.1 ∷ []; joined = refl })) b)
        (record { label = h.1; next = all; legal = h.2; full = h.6 })
    settle_done calls limit old new before after (Err OutOfMemory) h = λ image is history stands.
        done_by moment left_since said may_leave seen only_now (MayAdd words None answers history (Ok (Settle (Some limit)))) (AddsNext words None answers history (Ok (Settle (Some limit)))) (CommandTurn words None answers history (Ok (Settle (Some limit)))) old new before after image history h.0 Memory h.2 is stands (inr (refl, group_in history before h.0 limit stands.run h.1))

    pub settle_done_as : (calls : S → Option (List Call)) (limit : ℕ) (old new : S) (before after : Core) (result : Result HasSettled EngineFault) (r : Result Reply EngineFault)
        → Settles moment left_since said may_leave seen calls words.http answers old new before after limit result → settled_reply limit result ≡ r
        → LineDone words None answers moment left_since said may_leave seen (Ok (Settle (Some limit))) old new before after r
    settle_done_as calls limit old new before after result r h e =
        subst (λ (x : Result Reply EngineFault). LineDone words None answers moment left_since said may_leave seen (Ok (Settle (Some limit))) old new before after x) e (settle_done calls limit old new before after result h)

    -- a line without a number settles with as many steps as the words say
    limit_as : (l : Option ℕ) (old new : S) (before after : Core) (r : Result Reply EngineFault) → LineDone words None answers moment left_since said may_leave seen (Ok (Settle (Some (unwrap_or l words.steps)))) old new before after r
        → LineDone words None answers moment left_since said may_leave seen (Ok (Settle l)) old new before after r
    limit_as None old new before after r h = h
    limit_as (Some n) old new before after r h = h

    pub settle_line_as : (calls : S → Option (List Call)) (l : Option ℕ) (limit : ℕ) (old new : S) (before after : Core) (result : Result HasSettled EngineFault) (r : Result Reply EngineFault) → limit ≡ unwrap_or l words.steps
        → Settles moment left_since said may_leave seen calls words.http answers old new before after limit result → settled_reply limit result ≡ r
        → LineDone words None answers moment left_since said may_leave seen (Ok (Settle l)) old new before after r
    settle_line_as calls l limit old new before after result r is h e =
        limit_as l old new before after r
        (subst (λ (n : ℕ). LineDone words None answers moment left_since said may_leave seen (Ok (Settle (Some n))) old new before after r) is (settle_done_as calls limit old new before after result r h e))

    -- a query was answered
    pub asked_done : (q : Query) (old new : S) (before after : Core) (result : Result (Result Answer QueryFault) EngineFault) → after ≡ before → seen new ≡ seen old → NothingNew (may_leave old) (may_leave new)
        → LeavesOnly moment left_since said old new (may_leave old)
        → ForSome (seen old) (λ image. (history : List Label) → StandFor image (may_leave old) before history → AnswersQuery history before.world q result)
        → LineDone words None answers moment left_since said may_leave seen (Ok (Ask q)) old new before after (answer_of result)
    asked_done q old new before after (Ok r) same unseen stop only replies = λ image is history stands. (
      [],
      asked_turn history before.world q r (world_of_run history before.world stands.run) (replies image is history stands),
      read_passes moment left_since said may_leave seen only_now old new before image history stands only,
      read_stand moment left_since said may_leave seen only_now old new before after image history stands is same unseen stop,
    )
    asked_done q old new before after (Err Store) same unseen stop only replies = λ image is history stands. ([], (λ part b. begins_none part b), read_passes moment left_since said may_leave seen only_now old new before image history stands only)
    asked_done q old new before after (Err (Damaged at)) same unseen stop only replies = λ image is history stands. replies image is history stands
    asked_done q old new before after (Err (Full size)) same unseen stop only replies = λ image is history stands. absurd (replies image is history stands)
    asked_done q old new before after (Err OutOfMemory) same unseen stop only replies = λ image is history stands. (
      [],
      inr (refl, refl),
      read_passes moment left_since said may_leave seen only_now old new before image history stands only,
      read_stand moment left_since said may_leave seen only_now old new before after image history stands is same unseen stop,
    )

    pub asked_done_as : (q : Query) (old new : S) (before after : Core) (result : Result (Result Answer QueryFault) EngineFault) (r : Result Reply EngineFault) → after ≡ before → seen new ≡ seen old
        → NothingNew (may_leave old) (may_leave new) → LeavesOnly moment left_since said old new (may_leave old)
        → ForSome (seen old) (λ image. (history : List Label) → StandFor image (may_leave old) before history → AnswersQuery history before.world q result) → answer_of result ≡ r
        → LineDone words None answers moment left_since said may_leave seen (Ok (Ask q)) old new before after r
    asked_done_as q old new before after result r same unseen stop only replies e =
        subst (λ (x : Result Reply EngineFault). LineDone words None answers moment left_since said may_leave seen (Ok (Ask q)) old new before after x) e (asked_done q old new before after result same unseen stop only replies)

    -- the same of equal commands and answers
    pub line_as : (a b : Result Command CommandFault) (old new : S) (before after : Core) (r s : Result Reply EngineFault) → a ≡ b → r ≡ s
        → LineDone words None answers moment left_since said may_leave seen b old new before after r → LineDone words None answers moment left_since said may_leave seen a old new before after s
    line_as a b old new before after r s e f h =
        subst (λ (c : Result Command CommandFault). LineDone words None answers moment left_since said may_leave seen c old new before after s) (sym e)
        (subst (λ (x : Result Reply EngineFault). LineDone words None answers moment left_since said may_leave seen b old new before after x) f h)

  -- no settling takes more than a million steps
  pub limit_small : (l : Option ℕ) (limit : ℕ) → limit ≡ unwrap_or l words.steps → words.steps ≤ 1000000 → IsModest (Settle l) → limit ≤ 1000000
  limit_small None limit is small m = omega (arith, is, small)
  limit_small (Some n) limit is small m = omega (arith, is, m)

  pub lacks_none : (history : List Label) (command : Result Command CommandFault) → is_quit command ≡ false → Lacks words None answers history command []
  lacks_none history (Err f) e = refl
  lacks_none history (Ok (Do o)) e = refl
  lacks_none history (Ok (Ask q)) e = refl
  lacks_none history (Ok (Settle limit)) e = settling_of_none (world_at history) (unwrap_or limit words.steps) answers
  lacks_none history (Ok Quit) e = absurd (cc)

  -- a line that spells no command adds nothing, and its fault is said; so is want of memory
  pub unread_turn : (history : List Label) (command read : Result Command CommandFault) (fault : CommandFault) → read ≡ Err fault → Reads read command → (read ≡ Err faults.OutOfMemory → is_quit command ≡ false)
      → CommandTurn words None answers history command [] (fault_reply fault)
  unread_turn history command read fault is (inl none) memory =
      let e : fault ≡ faults.OutOfMemory = cc in
      inr (ap fault_reply e, lacks_none history command (memory none))
  unread_turn history command read fault is (inr same) memory =
      subst (λ (c : Result Command CommandFault). CommandTurn words None answers history c [] (fault_reply fault)) (sym is ∙ same) (inl (refl, refl))
