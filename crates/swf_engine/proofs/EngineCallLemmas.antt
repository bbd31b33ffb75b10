-- The calls of appends one after the other, and of frames that are read one after the other.
use Rattle.std.proofs.Common.{◌≡◌, ◌∙◌, ap, sym, refl, subst, inl, inr, ⊎_elim, ℕ, ◌+◌, nat_lt, true, false, List, [], ◌∷◌, ◌++◌, append_assoc, length, map, Option, Some, None, Vec, Global, Result, Ok, Err}
use Rattle.std.specs.Option.{MatchOption}
use Rattle.std.specs.Prelude.{IfOk, OnOk, OnErr}
use Rattle.std.proofs.lemmas.List.{map-append}
use Rattle.swf_store.specs.declared.call.Call.{Call}
use Rattle.swf_store.specs.declared.call.Call.TheVariants.{Read, Sync}
use Rattle.swf_store.specs.declared.image.File.{File}
use Rattle.swf_store.specs.declared.image.File.TheVariants.{Journal}
use Rattle.swf_store.specs.Calls.{and_calls, Begins}
use Rattle.swf_store.proofs.CallLemmas.{and_none, begins_all, begins_longer, begins_after, done_after}
use Rattle.swf_journal.specs.JournalCalls.{append_calls, header_calls, frame_calls, IsBegun, IsFrameRead}
use Rattle.swf_journal.specs.Place.{Place}
use Rattle.swf_journal.specs.declared.fault.AppendFault.{AppendFault}
use Rattle.swf_journal.specs.declared.fault.AppendFault.TheVariants.{Store as AppendStore, Full as AppendFull}
use Rattle.swf_journal.specs.declared.fault.OpenFault.{OpenFault}
use Rattle.swf_meaning.specs.declared.label.Label.{Label}
use Rattle.swf_meaning.specs.declared.label.Answer.{Answer}
use Rattle.swf_meaning.specs.declared.label.Query.{Query}
use Rattle.swf_meaning.specs.declared.label.Query.TheVariants.{History as OfHistory}
use Rattle.swf_record.specs.Encodes.{Encodes}
use Rattle.swf_world.specs.declared.query.QueryFault.{QueryFault}
use Rattle.swf_world.specs.declared.refusal.PrepareFault.{PrepareFault}
use Rattle.swf_world.specs.declared.refusal.PrepareFault.TheVariants as unready
use Rattle.swf_engine.specs.declared.fault.EngineFault.{EngineFault}
use Rattle.swf_engine.specs.Answers.{unprepared}
use Rattle.swf_engine.specs.Causes.{of_append}
use Rattle.swf_engine.specs.Core.{Core}
use Rattle.swf_engine.specs.EngineCalls.{gate_behind, label_length, label_calls, appends_calls, Appends, AppendsLast, SubmitCalls, frames_calls, reading_calls, AllRead, SomeRead, ReadingBegun, OpenCalls, QueryCalls, FrameCalls}

pub gate_push : (gate : ℕ) (lens : List ℕ) (len : ℕ) → gate_behind gate (lens ++ len ∷ []) ≡ gate_behind gate lens + 9 + len
gate_push gate [] len = refl
gate_push gate (l ∷ lens) len = gate_push (gate + 9 + l) lens len

-- and of some more
gate_join : (gate : ℕ) (lens more : List ℕ) → gate_behind gate (lens ++ more) ≡ gate_behind (gate_behind gate lens) more
gate_join gate [] more = refl
gate_join gate (l ∷ lens) more = gate_join (gate + 9 + l) lens more

-- some appends more
appends_more : (gate : ℕ) (labels more : List Label) → appends_calls gate (labels ++ more) ≡ appends_calls gate labels ++ appends_calls (gate_behind gate (map label_length labels)) more
appends_more gate [] more = refl
appends_more gate (l ∷ labels) more =
    ap (λ (cs : List Call). label_calls gate l ++ cs) (appends_more (gate + 9 + label_length l) labels more)
    ∙ sym (append_assoc (label_calls gate l) (appends_calls (gate + 9 + label_length l) labels) (appends_calls (gate_behind (gate + 9 + label_length l) (map label_length labels)) more))

pub none_appended : (calls : Option (List Call)) (gate : ℕ) → Appends calls calls gate gate []
none_appended calls gate = record { made = and_none calls; here = refl }

-- some labels more were appended
pub appends_join : (old mid new : Option (List Call)) (gate here next : ℕ) (labels more : List Label) → Appends old mid gate here labels → Appends mid new here next more → Appends old new gate next (labels ++ more)
appends_join old mid new gate here next labels more a b =
    let rest : new ≡ and_calls (appends_calls (gate_behind gate (map label_length labels)) more) mid = subst (λ n. new ≡ and_calls (appends_calls n more) mid) a.here b.made in
    record {
      made = done_after (appends_calls gate labels) (appends_calls (gate_behind gate (map label_length labels)) more) old mid new a.made rest
          ∙ ap (λ (cs : List Call). and_calls cs old) (sym (appends_more gate labels more));
      here = b.here ∙ ap (λ n. gate_behind n (map label_length more)) a.here
          ∙ sym (ap (gate_behind gate) (map-append label_length labels more) ∙ gate_join gate (map label_length labels) (map label_length more));
    }

-- the append of one label more was begun
pub appends_last : (old mid new : Option (List Call)) (gate here : ℕ) (labels : List Label) (label : Label) → Appends old mid gate here labels → Begins (label_calls here label) mid new → AppendsLast old new gate (labels ++ label ∷ [])
appends_last old mid new gate here labels label a b = record {
  first = labels;
  last = label;
  joined = refl;
  begun = subst (λ (cs : Option (List Call)). Begins (label_calls (gate_behind gate (map label_length labels)) label) cs new) a.made (subst (λ n. Begins (label_calls n label) mid new) a.here b);
}

-- some labels more were appended, the last of them not to its end
pub appends_last_join : (old mid new : Option (List Call)) (gate here : ℕ) (labels more : List Label) → Appends old mid gate here labels → AppendsLast mid new here more → AppendsLast old new gate (labels ++ more)
appends_last_join old mid new gate here labels more a b =
    let then : Appends mid (and_calls (appends_calls here b.first) mid) here (gate_behind here (map label_length b.first)) b.first = record { made = refl; here = refl } in
    let all = appends_join old mid (and_calls (appends_calls here b.first) mid) gate here (gate_behind here (map label_length b.first)) labels b.first a then in
    subst (λ ls. AppendsLast old new gate ls) (append_assoc labels b.first (b.last ∷ []) ∙ ap (λ ls. labels ++ ls) (sym b.joined))
    (appends_last old (and_calls (appends_calls here b.first) mid) new gate (gate_behind here (map label_length b.first)) (labels ++ b.first) b.last all b.begun)

-- nothing was called since
pub appends_same : (old mid new : Option (List Call)) (gate here next : ℕ) (labels : List Label) → new ≡ mid → next ≡ here → Appends old mid gate here labels → Appends old new gate next labels
appends_same old mid new gate here next labels same stays a = record { made = same ∙ a.made; here = stays ∙ a.here }

-- the label of a frame that was appended
pub appended_label : (file : File) (old new : Option (List Call)) (gate next : ℕ) (body : List ℕ) (label : Label) → file ≡ Journal → Encodes (label ∷ []) body → new ≡ and_calls (append_calls file gate body) old → next ≡ gate + 9 + length body
    → Appends old new gate next (label ∷ [])
appended_label file old new gate next body label is encodes made here = record {
  made = subst (λ (b : List ℕ). new ≡ and_calls (append_calls Journal gate b) old) encodes.spelled (subst (λ (f : File). new ≡ and_calls (append_calls f gate body) old) is made);
  here = subst (λ (b : List ℕ). next ≡ gate + 9 + length b) encodes.spelled here;
}

-- an append that was refused or failed, by its fault
pub failed_calls : (file : File) (old new : Option (List Call)) (gate next : ℕ) (body : List ℕ) (label : Label) (fault : AppendFault) → file ≡ Journal → Encodes (label ∷ []) body
    → Begins (append_calls file gate body) old new → ((size : ℕ) → ◌≡◌ {A = Result (Unit {0}) AppendFault} (Err fault) (Err (AppendFull size)) → new ≡ old) → SubmitCalls old new gate next label (Err (of_append fault))
failed_calls file old new gate next body label AppendStore is encodes begun same =
    subst (λ (b : List ℕ). Begins (append_calls Journal gate b) old new) encodes.spelled (subst (λ (f : File). Begins (append_calls f gate body) old new) is begun)
failed_calls file old new gate next body label (AppendFull size) is encodes begun same = same size refl

pub unprepared_calls : (old : Option (List Call)) (gate next : ℕ) (label : Label) (fault : PrepareFault) → SubmitCalls old old gate next label (unprepared fault)
unprepared_calls old gate next label (unready.Refused r) = refl
unprepared_calls old gate next label unready.OutOfMemory = refl

frames_push : (gate : ℕ) (lens : List ℕ) (len : ℕ) → frames_calls gate (lens ++ len ∷ []) ≡ frames_calls gate lens ++ frame_calls Journal (gate_behind gate lens) len
frames_push gate [] len = refl
frames_push gate (l ∷ lens) len = ap (λ (cs : List Call). frame_calls Journal gate l ++ cs) (frames_push (gate + 9 + l) lens len)

-- so many frames were read from a gate on
pub record FramesRead (gate next : ℕ) (old new : Option (List Call)) : Type 0 where
  pub lens : List ℕ
  pub made : new ≡ and_calls (frames_calls gate lens) old
  pub here : next ≡ gate_behind gate lens

pub none_read : (gate : ℕ) (calls : Option (List Call)) → FramesRead gate gate calls calls
none_read gate calls = record { lens = []; made = and_none calls; here = refl }

pub one_read : (gate here next : ℕ) (old mid new : Option (List Call)) → FramesRead gate here old mid → FrameCalls here next mid new (Ok true) → FramesRead gate next old new
one_read gate here next old mid new r f =
    let one : new ≡ and_calls (frame_calls Journal (gate_behind gate r.lens) f.0) mid = subst (λ n. new ≡ and_calls (frame_calls Journal n f.0) mid) r.here f.1 in
    record {
      lens = r.lens ++ f.0 ∷ [];
      made = done_after (frames_calls gate r.lens) (frame_calls Journal (gate_behind gate r.lens) f.0) old mid new r.made one ∙ ap (λ (cs : List Call). and_calls cs old) (sym (frames_push gate r.lens f.0));
      here = f.2 ∙ ap (λ n. n + 9 + f.0) r.here ∙ sym (gate_push gate r.lens f.0);
    }

-- the gate behind them ended the reading
pub all_read : (gate here next : ℕ) (old mid new : Option (List Call)) → FramesRead gate here old mid → FrameCalls here next mid new (Ok false) → AllRead [] gate next old new
all_read gate here next old mid new r f =
    let one : new ≡ and_calls (Read Journal (gate_behind gate r.lens) 9 ∷ []) mid = subst (λ n. new ≡ and_calls (Read Journal n 9 ∷ []) mid) r.here f.0 in
    record { lens = r.lens; made = done_after (frames_calls gate r.lens) (Read Journal (gate_behind gate r.lens) 9 ∷ []) old mid new r.made one; here = f.1 ∙ r.here }

-- no more was read
pub reading_stopped : (gate here : ℕ) (old new : Option (List Call)) → FramesRead gate here old new → ReadingBegun [] gate old new
reading_stopped gate here old new r = record {
  lens = r.lens;
  begun = begins_longer (frames_calls gate r.lens) (Read Journal (gate_behind gate r.lens) 9 ∷ []) old new (begins_all (frames_calls gate r.lens) old new r.made);
}

-- the next frame could not be read
pub reading_broke : (gate here next : ℕ) (old mid new : Option (List Call)) (fault : EngineFault) → FramesRead gate here old mid → FrameCalls here next mid new (Err fault) → ReadingBegun [] gate old new
reading_broke gate here next old mid new fault r f =
    let one : Begins (frame_calls Journal (gate_behind gate r.lens) f.0) mid new = subst (λ n. Begins (frame_calls Journal n f.0) mid new) r.here f.1 in
    let lens = r.lens ++ f.0 ∷ [] in
    let all : Begins (frames_calls gate lens) old new =
    subst (λ (cs : List Call). Begins cs old new) (sym (frames_push gate r.lens f.0)) (begins_after (frames_calls gate r.lens) (frame_calls Journal (gate_behind gate r.lens) f.0) old mid new r.made one) in
    record { lens = lens; begun = begins_longer (frames_calls gate lens) (Read Journal (gate_behind gate lens) 9 ∷ []) old new all }

-- frames were read to the last one, or not
pub some_stopped : (gate here : ℕ) (old new : Option (List Call)) → FramesRead gate here old new → SomeRead [] gate old new
some_stopped gate here old new r = record { lens = r.lens; made = inl r.made }

pub some_all : (first : List Call) (gate next : ℕ) (old new : Option (List Call)) → AllRead first gate next old new → SomeRead first gate old new
some_all first gate next old new a = record { lens = a.lens; made = inr a.made }

pub all_begun : (first : List Call) (gate next : ℕ) (old new : Option (List Call)) → AllRead first gate next old new → ReadingBegun first gate old new
all_begun first gate next old new a = record { lens = a.lens; begun = begins_all (first ++ reading_calls gate a.lens) old new a.made }

-- what the reading of a frame says of the journal
pub frame_told : (file : File) (gate next : ℕ) (old new : Option (List Call)) (o : Option (Vec ℕ Global)) (body : Vec ℕ Global) → file ≡ Journal → o ≡ Some body → IsFrameRead file gate old new (Ok o)
    → MatchOption o (next ≡ gate) (λ b. next ≡ gate + 9 + length b.items) → FrameCalls gate next old new (Ok true)
frame_told file gate next old new o body is same read moves = (
  length body.items,
  subst (λ (f : File). new ≡ and_calls (frame_calls f gate (length body.items)) old) is (subst (λ (p : Option (Vec ℕ Global)). IsFrameRead file gate old new (Ok p)) same read),
  subst (λ (p : Option (Vec ℕ Global)). MatchOption p (next ≡ gate) (λ b. next ≡ gate + 9 + length b.items)) same moves,
)

-- and a body that spells no labels
pub frame_bad : (gate next : ℕ) (old new : Option (List Call)) (fault : EngineFault) → FrameCalls gate next old new (Ok true) → FrameCalls gate next old new (Err fault)
frame_bad gate next old new fault f = (f.0, begins_all (frame_calls Journal gate f.0) old new f.1)

pub frame_none : (file : File) (gate next : ℕ) (old new : Option (List Call)) (o : Option (Vec ℕ Global)) → file ≡ Journal → o ≡ None → IsFrameRead file gate old new (Ok o)
    → MatchOption o (next ≡ gate) (λ b. next ≡ gate + 9 + length b.items) → FrameCalls gate next old new (Ok false)
frame_none file gate next old new o is same read moves = (
  subst (λ (f : File). new ≡ and_calls (Read f gate 9 ∷ []) old) is (subst (λ (p : Option (Vec ℕ Global)). IsFrameRead file gate old new (Ok p)) same read),
  subst (λ (p : Option (Vec ℕ Global)). MatchOption p (next ≡ gate) (λ b. next ≡ gate + 9 + length b.items)) same moves,
)

pub frame_failed : (file : File) (gate next : ℕ) (old new : Option (List Call)) (fault : OpenFault) (answer : EngineFault) → file ≡ Journal → IsFrameRead file gate old new (Err fault) → FrameCalls gate next old new (Err answer)
frame_failed file gate next old new fault answer is read = subst (λ (f : File). (len : ℕ) × Begins (frame_calls f gate len) old new) is read

-- a reading that was begun by these calls, from a gate on
pub read_behind : (first : List Call) (gate here next : ℕ) (old mid new : Option (List Call)) → here ≡ gate → mid ≡ and_calls first old → AllRead [] here next mid new → AllRead first gate next old new
read_behind first gate here next old mid new is begun a = record {
  lens = a.lens;
  made = subst (λ n. new ≡ and_calls (first ++ reading_calls n a.lens) old) is (done_after first (reading_calls here a.lens) old mid new begun a.made);
  here = subst (λ n. next ≡ gate_behind n a.lens) is a.here;
}

pub some_behind : (first : List Call) (gate here : ℕ) (old mid new : Option (List Call)) → here ≡ gate → mid ≡ and_calls first old → SomeRead [] here mid new → SomeRead first gate old new
some_behind first gate here old mid new is begun s = record {
  lens = s.lens;
  made = ⊎_elim
      (λ some. inl (subst (λ n. new ≡ and_calls (first ++ frames_calls n s.lens) old) is (done_after first (frames_calls here s.lens) old mid new begun some)))
      (λ all. inr (subst (λ n. new ≡ and_calls (first ++ reading_calls n s.lens) old) is (done_after first (reading_calls here s.lens) old mid new begun all)))
      s.made;
}

pub begun_behind : (first : List Call) (gate here : ℕ) (old mid new : Option (List Call)) → here ≡ gate → mid ≡ and_calls first old → ReadingBegun [] here mid new → ReadingBegun first gate old new
begun_behind first gate here old mid new is begun r = record {
  lens = r.lens;
  begun = subst (λ n. Begins (first ++ reading_calls n r.lens) old new) is (begins_after first (reading_calls here r.lens) old mid new begun r.begun);
}

-- the calls in front of the frames were begun
pub begun_short : (first : List Call) (gate : ℕ) (old new : Option (List Call)) → Begins first old new → ReadingBegun first gate old new
begun_short first gate old new begun = record { lens = []; begun = begins_longer first (reading_calls gate []) old new begun }

-- the opening of an engine, by the calls of its beginning and of the reading of its frames
pub opened_calls : (old mid new : Option (List Call)) (reading : Place) (r : Result Core EngineFault) → reading.gate ≡ 16 → IsBegun old mid (Ok reading)
    → IfOk r (λ engine. AllRead [] reading.gate engine.gate mid new) → OnErr r (ReadingBegun [] reading.gate mid new) → OpenCalls old new r
opened_calls old mid new reading (Ok engine) here begun all broke =
    let short = nat_lt reading.size 25 in
    (short, read_behind (Sync ∷ header_calls short) 16 reading.gate engine.gate old mid new here begun all)
opened_calls old mid new reading (Err fault) here begun all broke =
    let short = nat_lt reading.size 25 in
    (short, begun_behind (Sync ∷ header_calls short) 16 reading.gate old mid new here begun broke)

pub not_opened_calls : (old new : Option (List Call)) (fault : OpenFault) (answer : EngineFault) → IsBegun old new (Err fault) → OpenCalls old new (Err answer)
not_opened_calls old new fault answer begun = (begun.0, begun_short (Sync ∷ header_calls begun.0) 16 old new begun.1)

-- a query for a history
pub told_calls : (old new : Option (List Call)) (query : Query) (place : ℕ) (answer : Result Answer QueryFault) → query ≡ OfHistory place → SomeRead (header_calls false) 16 old new → QueryCalls query old new (Ok answer)
told_calls old new query place answer is read = subst (λ (q : Query). QueryCalls q old new (Ok answer)) (sym is) read

pub not_told_calls : (old new : Option (List Call)) (query : Query) (place : ℕ) (fault : EngineFault) → query ≡ OfHistory place → ReadingBegun (header_calls false) 16 old new → QueryCalls query old new (Err fault)
not_told_calls old new query place fault is begun = subst (λ (q : Query). QueryCalls q old new (Err fault)) (sym is) begun

-- what is told of a journal, by the calls of its beginning and of the reading of its frames
pub some_again : {T : Type 0} (r : Result T EngineFault) (gate : ℕ) (old mid new : Option (List Call)) → gate ≡ 16 → mid ≡ and_calls (header_calls false) old → OnOk r (SomeRead [] gate mid new) → OnOk r (SomeRead (header_calls false) 16 old new)
some_again (Ok x) gate old mid new here begun read = some_behind (header_calls false) 16 gate old mid new here begun read
some_again (Err e) gate old mid new here begun read = tt

pub begun_again : {T : Type 0} (r : Result T EngineFault) (gate : ℕ) (old mid new : Option (List Call)) → gate ≡ 16 → mid ≡ and_calls (header_calls false) old → OnErr r (ReadingBegun [] gate mid new) → OnErr r (ReadingBegun (header_calls false) 16 old new)
begun_again (Ok x) gate old mid new here begun broke = tt
begun_again (Err e) gate old mid new here begun broke = begun_behind (header_calls false) 16 gate old mid new here begun broke

-- what holds anyway holds of each answer
pub on_ok : {T E : Type 0} (r : Result T E) (P : Type 0) → P → OnOk r P
on_ok (Ok x) P p = p
on_ok (Err e) P p = tt

pub on_err : {T E : Type 0} (r : Result T E) (P : Type 0) → P → OnErr r P
on_err (Ok x) P p = tt
on_err (Err e) P p = p
