-- How labels are told one after another, and that what is told of a journal is told of its history.
use Rattle.std.proofs.Common.{◌≡◌, ◌∙◌, ap, sym, refl, subst, inl, inr, ⊎_elim, ℕ, ◌+◌, ◌-◌, ◌<◌, ◌≤◌, min, List, [], ◌∷◌, ◌++◌, length, map, take, drop, get_or, false, Option, Vec, Global, Result, Ok, Err, append_assoc, length-append, length-take, length-drop, arith}
use Rattle.std.proofs.lemmas.List.{append_cancel_left, drop_all, take_all, take_more, drop-append-le, take-append-le, map-append, length-map}
use Rattle.swf_value.specs.Value.{Value}
use Rattle.swf_store.specs.declared.image.File.TheVariants.{Journal}
use Rattle.swf_store.specs.declared.image.Image.{Image}
use Rattle.swf_journal.specs.Frames.{header, open_gate, frames_bytes, next_gate}
use Rattle.swf_journal.specs.Opening.{HasNoHeader, IsDamage}
use Rattle.swf_journal.specs.Place.{Place, HasRead}
use Rattle.swf_journal.specs.Stands.{IsShutAfter}
use Rattle.swf_journal.specs.declared.fault.OpenFault.{OpenFault}
use Rattle.swf_journal.specs.declared.fault.OpenFault.TheVariants.{Store as OpenStore, Damaged as OpenDamaged, OutOfMemory as OpenOutOfMemory}
use Rattle.swf_journal.proofs.FrameLemmas.{length-header}
use Rattle.swf_journal.proofs.StandsLemmas.{behind_is, no_damage, shut_stands, stands_for_one}
use Rattle.swf_meaning.specs.declared.label.Label.{Label}
use Rattle.swf_meaning.specs.declared.label.Answer.TheVariants.{History}
use Rattle.swf_meaning.specs.declared.label.Query.{Query}
use Rattle.swf_meaning.specs.declared.label.Query.TheVariants.{History as OfHistory}
use Rattle.swf_meaning.specs.Printed.{printed, most_told, told_from, history_value, labels_value}
use Rattle.swf_record.specs.Encodes.{Encodes}
use Rattle.swf_world.specs.Answers.{answer}
use Rattle.swf_record.proofs.Laws.{encodes_decoded}
use Rattle.swf_engine.specs.declared.fault.EngineFault.{EngineFault}
use Rattle.swf_engine.specs.declared.fault.EngineFault.TheVariants.{Store, Damaged, Full, OutOfMemory}
use Rattle.swf_engine.specs.Causes.{of_open}
use Rattle.swf_engine.specs.Core.{Core, StandFor}
use Rattle.swf_engine.specs.Damage.{IsMisspelled}
use Rattle.swf_engine.specs.History.{HoldLabels}
use Rattle.swf_engine.specs.Retelling.{IsTold, HasTold, IsRetold, IsBadSpelling, IsMisreadFrame, IsMisread, TellsFrame, ListsValues, Retells, Queries, AnswersQuery}
use Rattle.swf_engine.proofs.HistoryLemmas.{holds_push}
use Rattle.swf_engine.proofs.LawLemmas.{holds_one, split, Further, further, first_frame, header_first}
use Rattle.swf_engine.proofs.OpenLemmas.{frame_there}

-- a label in front of the place is passed over
pub told_passes : (place : ℕ) (labels : List Label) (l : Label) (pass rest : ℕ) (values : List Value) → IsTold place labels pass values → 0 < pass → rest ≡ pass - 1 → IsTold place (labels ++ l ∷ []) rest values
told_passes place labels l pass rest values t some less =
    let many = length-append labels (l ∷ []) in
    let short : length labels < place = omega (arith, t.pass_is, some) in
    let none : told_from place labels ≡ [] = ap (λ (ls : List Label). take most_told ls) (drop_all place labels (omega (arith, short))) in
    let still : told_from place (labels ++ l ∷ []) ≡ [] = ap (λ (ls : List Label). take most_told ls) (drop_all place (labels ++ l ∷ []) (omega (arith, short, many))) in
    record { pass_is = omega (arith, t.pass_is, less, many, short); values_are = t.values_are ∙ ap (λ (ls : List Label). map printed ls) (none ∙ sym still) }

-- how many are told
pub told_many : (place : ℕ) (labels : List Label) (pass : ℕ) (values : List Value) → IsTold place labels pass values → length values ≡ min most_told (length labels - place)
told_many place labels pass values t =
    ap (λ (vs : List Value). length vs) t.values_are ∙ length-map (told_from place labels) printed ∙ length-take most_told (drop place labels) ∙ ap (λ n. min most_told n) (length-drop place labels)

-- what is told with one label more
told_after : (place : ℕ) (labels : List Label) (l : Label) → place ≤ length labels → told_from place (labels ++ l ∷ []) ≡ take most_told (drop place labels ++ l ∷ [])
told_after place labels l past = ap (λ (ls : List Label). take most_told ls) (drop-append-le place labels (l ∷ []) past)

-- a label is told
pub told_more : (place : ℕ) (labels : List Label) (l : Label) (pass rest : ℕ) (values : List Value) (value : Value) → IsTold place labels pass values → pass ≡ 0 → rest ≡ pass → length values < most_told → value ≡ printed l
    → IsTold place (labels ++ l ∷ []) rest (values ++ value ∷ [])
told_more place labels l pass rest values value t none same few is =
    let many = length-append labels (l ∷ []) in
    let past : place ≤ length labels = omega (arith, t.pass_is, none) in
    let told = told_many place labels pass values t in
    let short : length (drop place labels) < most_told = omega (arith, told, few, length-drop place labels) in
    let ds = drop place labels in
    let before : told_from place labels ≡ ds = take_all most_told ds (omega (arith, short)) in
    let after : told_from place (labels ++ l ∷ []) ≡ ds ++ l ∷ [] = told_after place labels l past ∙ take_all most_told (ds ++ l ∷ []) (omega (arith, short, length-append ds (l ∷ []))) in
    record {
      pass_is = omega (arith, t.pass_is, none, same, many);
      values_are = ap (λ (vs : List Value). vs ++ value ∷ []) (t.values_are ∙ ap (λ (ls : List Label). map printed ls) before)
          ∙ ap (λ (v : Value). map printed ds ++ v ∷ []) is
          ∙ sym (map-append printed ds (l ∷ []))
          ∙ ap (λ (ls : List Label). map printed ls) (sym after);
    }

-- as many are told as are told at most
pub told_enough : (place : ℕ) (labels : List Label) (l : Label) (pass rest : ℕ) (values : List Value) → IsTold place labels pass values → pass ≡ 0 → rest ≡ pass → most_told ≤ length values → IsTold place (labels ++ l ∷ []) rest values
told_enough place labels l pass rest values t none same all =
    let many = length-append labels (l ∷ []) in
    let past : place ≤ length labels = omega (arith, t.pass_is, none) in
    let told = told_many place labels pass values t in
    let ds = drop place labels in
    let long : most_told ≤ length ds = omega (arith, told, all, length-drop place labels) in
    record {
      pass_is = omega (arith, t.pass_is, none, same, many);
      values_are = t.values_are ∙ ap (λ (ls : List Label). map printed ls) (sym (told_after place labels l past ∙ take-append-le most_told ds (l ∷ []) long));
    }

-- no label yet
pub told_none : (place : ℕ) (values : List Value) → values ≡ [] → IsTold place [] place values
told_none place values is =
    let none : told_from place [] ≡ [] = ap (λ (ls : List Label). take most_told ls) (drop_all place [] (omega arith)) in
    record { pass_is = omega arith; values_are = is ∙ ap (λ (ls : List Label). map printed ls) (sym none) }

-- the labels of a body so far, and one more
pub told_step : (place : ℕ) (before labels : List Label) (n : ℕ) (l : Label) (pass : ℕ) (values : List Value) → n < length labels → l ≡ get_or labels n l
    → IsTold place ((before ++ take n labels) ++ l ∷ []) pass values → IsTold place (before ++ take (n + 1) labels) pass values
told_step place before labels n l pass values lt is t =
    subst (λ (ls : List Label). IsTold place ls pass values)
    (append_assoc before (take n labels) (l ∷ []) ∙ ap (λ (ls : List Label). before ++ ls) (ap (λ (x : Label). take n labels ++ x ∷ []) is ∙ sym (take_more labels n l lt)))
    t

-- frames that were read are the first of those that stand in front of a shut gate
pub read_begins : (journal front : List ℕ) (reading : Place) (bodies hs : List (List ℕ)) → (read : HasRead journal reading front bodies) → (shut : IsShutAfter front journal hs)
    → Further bodies hs (read.gate ∷ read.rest) shut.gate shut.rest
read_begins journal front reading bodies hs read shut =
    further bodies hs (read.gate ∷ read.rest) shut.gate shut.rest read.fit shut.fit shut.shut (append_cancel_left front _ _ (sym read.laid ∙ shut.laid))

-- what is told of the first labels is told of all, where they are enough
enough_told : (place : ℕ) (labels rest : List Label) → place + most_told ≤ length labels → told_from place (labels ++ rest) ≡ told_from place labels
enough_told place labels rest enough =
    ap (λ (ls : List Label). take most_told ls) (drop-append-le place labels rest (omega (arith, enough)))
    ∙ take-append-le most_told (drop place labels) rest (omega (arith, enough, length-drop place labels))

-- what is told of a journal is told of the history that it stands for
pub retold_history : (image : Image) (may_leave : Image → Type 0) (engine : Core) (history : List Label) (place : ℕ) (value : Value) → StandFor image may_leave engine history → IsRetold image.journal header place value
    → value ≡ history_value history place
retold_history image may_leave engine history place value s r =
    let holds = s.settled.ready.holds in
    r.value_is ∙ ⊎_elim
    (λ enough.
    let go = read_begins image.journal header r.reading r.bodies s.bodies r.read holds in
    let parts = split r.bodies go.more history (subst (λ (l : List (List ℕ)). HoldLabels l history) go.joined s.holds) in
    let same : parts.first ≡ r.labels = holds_one r.bodies parts.first r.labels parts.of_front r.holds in
    let all : history ≡ r.labels ++ parts.rest = parts.joined ∙ ap (λ (l : List Label). l ++ parts.rest) same in
    ap (λ (ls : List Label). labels_value (map printed ls)) (sym (enough_told place r.labels parts.rest enough) ∙ ap (λ (l : List Label). told_from place l) (sym all)))
    (λ shut.
    let same : r.bodies ≡ s.bodies = stands_for_one image.journal r.bodies s.bodies (shut_stands image.journal r.bodies shut) (shut_stands image.journal s.bodies holds) in
    let is : r.labels ≡ history = holds_one s.bodies r.labels history (subst (λ (l : List (List ℕ)). HoldLabels l r.labels) same r.holds) s.holds in
    ap (λ (l : List Label). history_value l place) is)
    r.enough

-- one frame more is told
pub told_frame : (journal front : List ℕ) (old new : Place) (place pass rest : ℕ) (values later : List Value) (t : HasTold journal front old place pass values) (body slice : List ℕ)
    → HasRead journal new front (t.bodies ++ body ∷ []) → slice ≡ body
    → ((labels : List Label) × Encodes labels slice × ((p : ℕ) (before : List Label) → IsTold p before pass values → IsTold p (before ++ labels) rest later))
    → HasTold journal front new place rest later
told_frame journal front old new place pass rest values later t body slice read is found = record {
  bodies = t.bodies ++ body ∷ [];
  labels = t.labels ++ found.0;
  read = read;
  holds = holds_push t.bodies t.labels body found.0 t.holds (subst (λ (l : List ℕ). Encodes found.0 l) is found.1);
  told = found.2 place t.labels t.told;
}

-- a bad frame at the place of a reading, behind fewer labels than are asked for
misread_there : (journal front : List ℕ) (old : Place) (place pass at : ℕ) (values : List Value) → (t : HasTold journal front old place pass values) → length values < most_told → IsBadSpelling old.gate (drop old.gate journal) at → IsMisreadFrame journal front place at
misread_there journal front old place pass at values t few bad =
    let behind = behind_is journal old front t.bodies t.read in
    record {
      bodies = t.bodies;
      labels = t.labels;
      behind = drop old.gate journal;
      laid = t.read.laid ∙ ap (λ (l : List ℕ). front ++ (frames_bytes t.bodies ++ l)) (sym behind);
      fit = t.read.fit;
      holds = t.holds;
      wanted = omega (arith, few, told_many place t.labels pass values t.told);
      bad = subst (λ n. IsBadSpelling n (drop old.gate journal) at) t.read.here bad;
    }

-- a body that spells no labels
pub told_bad : (journal front : List ℕ) (old new : Place) (place pass rest : ℕ) (values later : List Value) (t : HasTold journal front old place pass values) (body slice : List ℕ) (gate : ℕ) (fault : EngineFault)
    → length values < most_told → HasRead journal new front (t.bodies ++ body ∷ []) → slice ≡ body → gate ≡ old.gate
    → ((at : ℕ) → ◌≡◌ {A = Result (Unit {0}) EngineFault} (Err fault) (Err (Damaged at)) → IsMisspelled gate slice at)
    → ((size : ℕ) → ◌≡◌ {A = Result (Unit {0}) EngineFault} (Err fault) (Err (Full size)) → ⊥)
    → TellsFrame journal front new place rest later (Err fault)
told_bad journal front old new place pass rest values later t body slice gate Store few read is here bad full = tt
told_bad journal front old new place pass rest values later t body slice gate (Damaged at) few read is here bad full =
    let there : IsMisspelled old.gate body at = subst (λ n. IsMisspelled n body at) here (subst (λ (l : List ℕ). IsMisspelled gate l at) is (bad at refl)) in
    misread_there journal front old place pass at values t few (inr (body, read.gate ∷ read.rest, frame_there journal old new front t.bodies body t.read read, there))
told_bad journal front old new place pass rest values later t body slice gate (Full size) few read is here bad full = full size refl
told_bad journal front old new place pass rest values later t body slice gate OutOfMemory few read is here bad full = tt

-- no frame more
pub told_ended : (journal front : List ℕ) (old new : Place) (place pass : ℕ) (values : List Value) (t : HasTold journal front old place pass values) → HasRead journal new front t.bodies → IsShutAfter front journal t.bodies
    → TellsFrame journal front new place pass values (Ok false)
told_ended journal front old new place pass values t read shut = (record { bodies = t.bodies; labels = t.labels; read = read; holds = t.holds; told = t.told }, shut)

-- a frame that is none
pub told_failed : (journal front : List ℕ) (old new : Place) (place pass rest : ℕ) (values later : List Value) (t : HasTold journal front old place pass values) (fault : OpenFault) → length values < most_told
    → ((at : ℕ) → ◌≡◌ {A = Result (Option (Vec ℕ Global)) OpenFault} (Err fault) (Err (OpenDamaged at)) → (at ≡ old.gate + 1) × IsDamage (drop old.gate journal))
    → TellsFrame journal front new place rest later (Err (of_open fault))
told_failed journal front old new place pass rest values later t OpenStore few bad = tt
told_failed journal front old new place pass rest values later t (OpenDamaged at) few bad = let b = bad at refl in misread_there journal front old place pass at values t few (inl (b.1, b.0))
told_failed journal front old new place pass rest values later t OpenOutOfMemory few bad = tt

-- nothing is told yet
pub told_first : (journal front : List ℕ) (reading : Place) (place pass : ℕ) (values : List Value) → pass ≡ place → values ≡ [] → HasRead journal reading front [] → HasTold journal front reading place pass values
told_first journal front reading place pass values same none read = record { bodies = []; labels = []; read = read; holds = refl; told = subst (λ n. IsTold place [] n values) (sym same) (told_none place values none) }

-- as many labels are told as are told at most
pub retold_full : (journal front : List ℕ) (reading : Place) (place pass : ℕ) (values : List Value) (value : Value) → HasTold journal front reading place pass values → most_told ≤ length values → value ≡ labels_value values
    → IsRetold journal front place value
retold_full journal front reading place pass values value t all is = record {
  reading = reading;
  bodies = t.bodies;
  labels = t.labels;
  read = t.read;
  holds = t.holds;
  enough = inl (omega (arith, all, told_many place t.labels pass values t.told));
  value_is = is ∙ ap labels_value t.told.values_are;
}

-- all frames are told
pub retold_end : (journal front : List ℕ) (reading : Place) (place pass : ℕ) (values : List Value) (value : Value) → TellsFrame journal front reading place pass values (Ok false) → value ≡ labels_value values → IsRetold journal front place value
retold_end journal front reading place pass values value t is = record {
  reading = reading;
  bodies = t.0.bodies;
  labels = t.0.labels;
  read = t.0.read;
  holds = t.0.holds;
  enough = inr t.1;
  value_is = is ∙ ap labels_value t.0.told.values_are;
}

-- the answers
pub retold_full_as : (journal front : List ℕ) (reading : Place) (place pass : ℕ) (values : List Value) (r : Result Value EngineFault) → HasTold journal front reading place pass values → most_told ≤ length values → ListsValues values r → Retells journal front place r
retold_full_as journal front reading place pass values (Ok value) t all is = retold_full journal front reading place pass values value t all is
retold_full_as journal front reading place pass values (Err Store) t all is = tt
retold_full_as journal front reading place pass values (Err (Damaged at)) t all is = absurd is
retold_full_as journal front reading place pass values (Err (Full size)) t all is = is
retold_full_as journal front reading place pass values (Err OutOfMemory) t all is = tt

pub retold_end_as : (journal front : List ℕ) (reading : Place) (place pass : ℕ) (values : List Value) (r : Result Value EngineFault) → TellsFrame journal front reading place pass values (Ok false) → ListsValues values r → Retells journal front place r
retold_end_as journal front reading place pass values (Ok value) t is = retold_end journal front reading place pass values value t is
retold_end_as journal front reading place pass values (Err Store) t is = tt
retold_end_as journal front reading place pass values (Err (Damaged at)) t is = absurd is
retold_end_as journal front reading place pass values (Err (Full size)) t is = is
retold_end_as journal front reading place pass values (Err OutOfMemory) t is = tt

-- a frame could not be told
pub retold_failed : (journal front : List ℕ) (reading : Place) (place pass : ℕ) (values : List Value) (fault : EngineFault) → TellsFrame journal front reading place pass values (Err fault) → Retells journal front place (Err fault)
retold_failed journal front reading place pass values Store t = tt
retold_failed journal front reading place pass values (Damaged at) t = inr t
retold_failed journal front reading place pass values (Full size) t = t
retold_failed journal front reading place pass values OutOfMemory t = tt

-- the header could not be read again
pub not_begun : (journal front : List ℕ) (place : ℕ) (fault : OpenFault) → ((at : ℕ) → ◌≡◌ {A = Result Place OpenFault} (Err fault) (Err (OpenDamaged at)) → (at ≡ 0) × HasNoHeader journal) → Retells journal front place (Err (of_open fault))
not_begun journal front place OpenStore bad = tt
not_begun journal front place (OpenDamaged at) bad = let b = bad at refl in inl (b.1, b.0)
not_begun journal front place OpenOutOfMemory bad = tt

-- a frame of a journal that stands for a history is not misread
misread_frame : (journal : List ℕ) (history : List Label) (hs : List (List ℕ)) (place at : ℕ) → IsShutAfter header journal hs → HoldLabels hs history → (d : IsMisreadFrame journal header place at)
    → IsBadSpelling (next_gate header d.bodies) d.behind at → ⊥
misread_frame journal history hs place at shut holds d (inl cut) =
    let here : Place = record { file = Journal; gate = next_gate header d.bodies; size = 0; limit = 0; ended = false } in
    let read : HasRead journal here header d.bodies = record {
      gate = open_gate;
      rest = cut.0.rest;
      laid = d.laid ∙ ap (λ (l : List ℕ). header ++ (frames_bytes d.bodies ++ l)) cut.0.opened;
      fit = d.fit;
      here = refl;
      ended = λ e. absurd (cc);
    } in
    let there : drop here.gate journal ≡ d.behind = behind_is journal here header d.bodies read ∙ sym cut.0.opened in
    no_damage journal here header d.bodies hs read shut (subst IsDamage (sym there) cut.0)
misread_frame journal history hs place at shut holds d (inr frame) =
    let go = further d.bodies hs d.behind shut.gate shut.rest d.fit shut.fit shut.shut (append_cancel_left header _ _ (sym d.laid ∙ shut.laid)) in
    let here = first_frame go.more d.behind frame.0 frame.1 shut.gate shut.rest go.fit shut.shut frame.2 go.behind_is in
    let all : HoldLabels (d.bodies ++ frame.0 ∷ here.0) history = subst (λ (l : List (List ℕ)). HoldLabels l history) (go.joined ∙ ap (λ (l : List (List ℕ)). d.bodies ++ l) here.1) holds in
    let s = split d.bodies (frame.0 ∷ here.0) history all in
    let spelled = encodes_decoded s.of_more.0 frame.0 s.of_more.3 in
    let none = frame.3.spells_none in
    absurd (cc)

misread_none : (image : Image) (may_leave : Image → Type 0) (engine : Core) (history : List Label) (place at : ℕ) → StandFor image may_leave engine history → IsMisread image.journal header place at → ⊥
misread_none image may_leave engine history place at s (inl h) =
    let holds = s.settled.ready.holds in
    let rest = frames_bytes s.bodies ++ holds.gate ∷ holds.rest in
    ⊎_elim
    (λ other. other (header_first image.journal rest holds.laid))
    (λ short. omega (arith, short, ap (λ (l : List ℕ). length l) holds.laid, length-append header rest, length-append (frames_bytes s.bodies) (holds.gate ∷ holds.rest), length-header))
    h.0
misread_none image may_leave engine history place at s (inr d) = misread_frame image.journal history s.bodies place at s.settled.ready.holds s.holds d d.bad

-- a query for a history is answered
pub queries_told : (journal : List ℕ) (query : Query) (place : ℕ) (value : Value) → query ≡ OfHistory place → IsRetold journal header place value → Queries journal query (Ok (Ok (History value)))
queries_told journal query place value is r = subst (λ (q : Query). Queries journal q (Ok (Ok (History value)))) (sym is) r

queries_of : (journal : List ℕ) (place : ℕ) (fault : EngineFault) → Retells journal header place (Err fault) → Queries journal (OfHistory place) (Err fault)
queries_of journal place Store r = tt
queries_of journal place (Damaged at) r = r
queries_of journal place (Full size) r = r
queries_of journal place OutOfMemory r = tt

pub queries_failed : (journal : List ℕ) (query : Query) (place : ℕ) (fault : EngineFault) → query ≡ OfHistory place → Retells journal header place (Err fault) → Queries journal query (Err fault)
queries_failed journal query place fault is r = subst (λ (q : Query). Queries journal q (Err fault)) (sym is) (queries_of journal place fault r)

-- and it is the history's
pub answered_told : (image : Image) (may_leave : Image → Type 0) (engine : Core) (history : List Label) (query : Query) (place : ℕ) (value : Value) → query ≡ OfHistory place → StandFor image may_leave engine history
    → IsRetold image.journal header place value → AnswersQuery history engine.world query (Ok (Ok (History value)))
answered_told image may_leave engine history query place value is s r =
    inr (ap (λ (v : Value). Ok (History v)) (retold_history image may_leave engine history place value s r) ∙ ap (answer history engine.world) (sym is))

pub answered_failed : (image : Image) (may_leave : Image → Type 0) (engine : Core) (history : List Label) (query : Query) (place : ℕ) (fault : EngineFault) → StandFor image may_leave engine history
    → Retells image.journal header place (Err fault) → AnswersQuery history engine.world query (Err fault)
answered_failed image may_leave engine history query place Store s r = tt
answered_failed image may_leave engine history query place (Damaged at) s r = misread_none image may_leave engine history place at s r
answered_failed image may_leave engine history query place (Full size) s r = r
answered_failed image may_leave engine history query place OutOfMemory s r = tt
