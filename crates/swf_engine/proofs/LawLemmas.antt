-- An image stands for at most one history, and a damaged one for none.
use Rattle.std.proofs.Common.{◌≡◌, ◌≢◌, ◌≤◌, ◌∙◌, ap, sym, refl, subst, inl, inr, ⊎_elim, ℕ, List, [], ◌∷◌, ◌++◌, length, take, drop, true, false, Option, Some, None, is_some, option_and_then, append_assoc, arith}
use Rattle.std.specs.List.{AllByRecursion}
use Rattle.std.proofs.lemmas.List.{append_cancel_left, take_at}
use Rattle.swf_store.specs.declared.image.Image.{Image}
use Rattle.swf_store.specs.declared.image.File.TheVariants.{Journal}
use Rattle.swf_journal.specs.Frames.{header, open_gate, length_bytes, frames_bytes, next_gate}
use Rattle.swf_journal.specs.Opening.{IsFrame, IsDamage}
use Rattle.swf_journal.specs.Place.{Place, HasRead}
use Rattle.swf_journal.specs.Stands.{Fits, IsShutAfter}
use Rattle.swf_journal.proofs.FrameLemmas.{length-header, nested}
use Rattle.swf_journal.proofs.StandsLemmas.{stands_for_one, first_is, peeled, no_damage, behind_is}
use Rattle.swf_meaning.specs.declared.label.Label.{Label}
use Rattle.swf_runs.specs.After.{after}
use Rattle.swf_runs.specs.Runs.{run, run_from}
use Rattle.swf_meaning.specs.World.{World, empty}
use Rattle.swf_record.specs.Encodes.{Encodes}
use Rattle.swf_record.proofs.Laws.{encodes_decoded, one_list}
use Rattle.swf_engine.specs.Damage.{IsBadBody, IsBadFrame, IsFrameDamage, IsDamaged}
use Rattle.swf_engine.specs.History.{HoldLabels, IsHistory}
use Rattle.swf_engine.proofs.MoveLemmas.{run_joined}

-- bodies hold at most one list of labels
pub holds_one : (bodies : List (List ℕ)) (a b : List Label) → HoldLabels bodies a → HoldLabels bodies b → a ≡ b
holds_one [] a b p q = p ∙ sym q
holds_one (body ∷ bodies) a b p q =
    p.2 ∙ ap (λ (l : List Label). l ++ p.1) (one_list p.0 q.0 body p.3 q.3) ∙ ap (λ (l : List Label). q.0 ++ l) (holds_one bodies p.1 q.1 p.4 q.4) ∙ sym q.2

-- an image stands for at most one history
pub history_one : (image : Image) (a b : List Label) → IsHistory image a → IsHistory image b → a ≡ b
history_one image a b p q =
    let same : p.bodies ≡ q.bodies = stands_for_one image.journal p.bodies q.bodies p.stands q.stands in
    holds_one q.bodies a b (subst (λ (l : List (List ℕ)). HoldLabels l a) same p.holds) q.holds

-- what the first bodies hold, and what the others do
pub record Split (front more : List (List ℕ)) (labels : List Label) : Type 0 where
  pub first : List Label
  pub rest : List Label
  pub joined : labels ≡ first ++ rest
  pub of_front : HoldLabels front first
  pub of_more : HoldLabels more rest

pub split : (front more : List (List ℕ)) (labels : List Label) → HoldLabels (front ++ more) labels → Split front more labels
split [] more labels h = record { first = []; rest = labels; joined = refl; of_front = refl; of_more = h }
split (f ∷ front) more labels h =
    let s = split front more h.1 h.4 in
    record {
      first = h.0 ++ s.first;
      rest = s.rest;
      joined = h.2 ∙ ap (λ (l : List Label). h.0 ++ l) s.joined ∙ sym (append_assoc h.0 s.first s.rest);
      of_front = (h.0, s.first, refl, h.3, s.of_front);
      of_more = s.of_more;
    }

-- frames that stand in front of some bytes are the first of those that stand in front of a shut gate
pub record Further (fs h : List (List ℕ)) (behind : List ℕ) (x : ℕ) (r : List ℕ) : Type 0 where
  pub more : List (List ℕ)
  pub joined : h ≡ fs ++ more
  pub behind_is : behind ≡ frames_bytes more ++ x ∷ r
  pub fit : AllByRecursion Fits more

pub further : (fs h : List (List ℕ)) (behind : List ℕ) (x : ℕ) (r : List ℕ) → AllByRecursion Fits fs → AllByRecursion Fits h → x ≢ open_gate
    → frames_bytes fs ++ behind ≡ frames_bytes h ++ x ∷ r → Further fs h behind x r
further [] h behind x r fit fit' shut is = record { more = h; joined = refl; behind_is = is; fit = fit' }
further (f ∷ fs) [] behind x r fit fit' shut is = let e : x ≡ open_gate = cc in absurd (shut e)
further (f ∷ fs) (b ∷ h) behind x r fit fit' shut is =
    let both = first_is f b (frames_bytes fs ++ behind) (frames_bytes h ++ x ∷ r) fit.0 fit'.0 (peeled f fs b h behind (x ∷ r) is) in
    let go = further fs h behind x r fit.1 fit'.1 shut both.rest in
    record {
      more = go.more;
      joined = ap (λ (l : List ℕ). l ∷ h) (sym both.same) ∙ ap (λ (l : List (List ℕ)). f ∷ l) go.joined;
      behind_is = go.behind_is;
      fit = go.fit;
    }

-- the first of more frames is the one that stands there
pub first_frame : (more : List (List ℕ)) (behind body after : List ℕ) (x : ℕ) (r : List ℕ) → AllByRecursion Fits more → x ≢ open_gate → IsFrame behind body after → behind ≡ frames_bytes more ++ x ∷ r
    → (others : List (List ℕ)) × (more ≡ body ∷ others)
first_frame [] behind body after x r fit shut frame is = let b = frame.bytes in let e : x ≡ open_gate = cc in absurd (shut e)
first_frame (m ∷ ms) behind body after x r fit shut frame is =
    let lb = length_bytes (length body) in
    let lm = length_bytes (length m) in
    let b = frame.bytes in
    let inner : lb ++ (body ++ after) ≡ lm ++ (m ++ frames_bytes ms) ++ x ∷ r = cc in
    let both = first_is body m after (frames_bytes ms ++ x ∷ r) frame.fits fit.0 (inner ∙ nested lm m (frames_bytes ms) (x ∷ r)) in
    (ms, ap (λ (l : List ℕ). l ∷ ms) (sym both.same))

-- a run that meets a label whose condition does not hold is none
stuck : (w middle : World) (first more : List Label) (l : Label) → run_from w first ≡ Some middle → after middle l ≡ None → run_from w (first ++ l ∷ more) ≡ None
stuck w middle first more l legal refused = run_joined w middle first (l ∷ more) legal ∙ ap (λ (o : Option World). option_and_then (λ m. run_from m more) o) refused

pub bad_body : (w : World) (gate at : ℕ) (body : List ℕ) (labels rest : List Label) → Encodes labels body → is_some (run_from w (labels ++ rest)) ≡ true → IsBadBody w gate body at → ⊥
bad_body w gate at body labels rest e legal (inl bad) = let d = encodes_decoded labels body e in let b = bad.spells_none in absurd (cc)
bad_body w gate at body labels rest e legal (inr bad) =
    let d = encodes_decoded labels body e in
    let b = bad.spelled in
    let same : labels ≡ bad.first ++ bad.label ∷ bad.more = cc in
    let all : labels ++ rest ≡ bad.first ++ bad.label ∷ (bad.more ++ rest) = ap (λ (l : List Label). l ++ rest) same ∙ append_assoc bad.first (bad.label ∷ bad.more) rest in
    let none : run_from w (labels ++ rest) ≡ None = ap (run_from w) all ∙ stuck w bad.middle bad.first (bad.more ++ rest) bad.label bad.legal bad.refused in
    let no : is_some (run_from w (labels ++ rest)) ≡ false = ap is_some none in
    absurd (cc)

pub header_first : (journal rest : List ℕ) → journal ≡ header ++ rest → take 16 journal ≡ header
header_first journal rest is = ap (λ (l : List ℕ). take 16 l) is ∙ take_at header rest 16 length-header

bad_frame : (image : Image) (history : List Label) (at : ℕ) (h : IsHistory image history) (shut : IsShutAfter header image.journal h.bodies) (d : IsFrameDamage image.journal header empty at)
    → IsBadFrame d.world (next_gate header d.bodies) d.behind at → ⊥
bad_frame image history at h shut d (inl cut) =
    let place : Place = record { file = Journal; gate = next_gate header d.bodies; size = 0; limit = 0; ended = false } in
    let read : HasRead image.journal place header d.bodies = record {
      gate = open_gate;
      rest = cut.0.rest;
      laid = d.ahead.laid ∙ ap (λ (l : List ℕ). header ++ (frames_bytes d.bodies ++ l)) cut.0.opened;
      fit = d.ahead.fit;
      here = refl;
      ended = λ e. absurd (cc);
    } in
    let there : drop place.gate image.journal ≡ d.behind = behind_is image.journal place header d.bodies read ∙ sym cut.0.opened in
    no_damage image.journal place header d.bodies h.bodies read shut (subst IsDamage (sym there) cut.0)
bad_frame image history at h shut d (inr frame) =
    let go = further d.bodies h.bodies d.behind shut.gate shut.rest d.ahead.fit shut.fit shut.shut (append_cancel_left header _ _ (sym d.ahead.laid ∙ shut.laid)) in
    let here = first_frame go.more d.behind frame.0 frame.1 shut.gate shut.rest go.fit shut.shut frame.2 go.behind_is in
    let holds : HoldLabels (d.bodies ++ frame.0 ∷ here.0) history = subst (λ (l : List (List ℕ)). HoldLabels l history) (go.joined ∙ ap (λ (l : List (List ℕ)). d.bodies ++ l) here.1) h.holds in
    let s = split d.bodies (frame.0 ∷ here.0) history holds in
    let same : s.first ≡ d.ahead.labels = holds_one d.bodies s.first d.ahead.labels s.of_front d.ahead.holds in
    let labels = s.of_more.0 in
    let rest = s.of_more.1 in
    let all : history ≡ d.ahead.labels ++ (labels ++ rest) = s.joined ∙ ap (λ (l : List Label). l ++ s.rest) same ∙ ap (λ (l : List Label). d.ahead.labels ++ l) s.of_more.2 in
    let runs : run history ≡ run_from d.world (labels ++ rest) = ap run all ∙ run_joined empty d.world d.ahead.labels (labels ++ rest) d.ahead.run in
    let legal : is_some (run_from d.world (labels ++ rest)) ≡ true = ap is_some (sym runs) ∙ h.legal in
    bad_body d.world (next_gate header d.bodies) at frame.0 labels rest s.of_more.3 legal frame.3

-- a damaged image stands for no history
pub damaged_none : (image : Image) (history : List Label) (at : ℕ) → IsHistory image history → IsDamaged image at → ⊥
damaged_none image history at h damaged = ⊎_elim
    (λ d. ⊎_elim
    (λ short. absurd (omega (arith, short.0, d.long)))
    (λ long. d.other (header_first image.journal _ long.1.laid))
    h.stands)
    (λ d. ⊎_elim
    (λ short. absurd (omega (arith, short.0, d.0)))
    (λ long. bad_frame image history at h long.1 d.1 d.1.bad)
    h.stands)
    damaged

-- a damaged journal has room for a frame
pub damaged_long : (image : Image) (at : ℕ) → IsDamaged image at → 25 ≤ length image.journal
damaged_long image at (inl header) = header.long
damaged_long image at (inr frame) = frame.0
