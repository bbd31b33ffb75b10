-- How an opening goes on from frame to frame, and what it stands for at its end.
use Rattle.std.proofs.Common.{◌≡◌, ◌≢◌, ◌∙◌, ap, sym, refl, subst, inl, inr, ⊎_elim, ℕ, ◌+◌, ◌≤◌, List, [], ◌∷◌, ◌++◌, length, take, drop, Option, Some, true, Vec, Global, Result, Ok, Err, IfOk, append_assoc, arith}
use Rattle.std.specs.List.{AllByRecursion}
use Rattle.std.specs.Option.{MatchOption}
use Rattle.std.proofs.lemmas.Bool.{cases_lt}
use Rattle.std.proofs.lemmas.List.{append_cancel_left}
use Rattle.swf_store.specs.declared.image.Image.{Image}
use Rattle.swf_store.specs.declared.image.File.{File}
use Rattle.swf_store.specs.declared.image.File.TheVariants.{Journal}
use Rattle.swf_store.specs.Disk.{Only}
use Rattle.swf_store.specs.Files.{bytes_of}
use Rattle.swf_journal.specs.Frames.{header, open_gate, length_bytes, frames_bytes, next_gate}
use Rattle.swf_journal.specs.Opening.{begun, opened, KeepsFrames, IsFrame, IsDamage, Opens}
use Rattle.swf_journal.specs.Place.{Place, HasRead, IsReady}
use Rattle.swf_journal.specs.Stands.{Fits, StandsFor, IsShutAfter}
use Rattle.swf_journal.proofs.OpenLemmas.{begun_short, begun_long, begun_holds, keeps_begun}
use Rattle.swf_journal.proofs.FrameLemmas.{frames_push}
use Rattle.swf_journal.proofs.StandsLemmas.{shut_stands, stands_for_one, behind_is}
use Rattle.swf_journal.specs.declared.fault.OpenFault.{OpenFault}
use Rattle.swf_journal.specs.declared.fault.OpenFault.TheVariants.{Store as OpenStore, Damaged as OpenDamaged, OutOfMemory as OpenOutOfMemory}
use Rattle.swf_store.specs.declared.said.Piece.{Piece}
use Rattle.swf_store.specs.Stops.{LeavesOnly}
use Rattle.swf_store.proofs.Moments.{goes_on_only, weaker_only}
use Rattle.swf_meaning.specs.declared.label.Label.{Label}
use Rattle.swf_runs.specs.Runs.{run_from}
use Rattle.swf_meaning.specs.World.{World, empty}
use Rattle.swf_runs.proofs.RunLemmas.{legal_run}
use Rattle.swf_record.specs.Encodes.{Encodes}
use Rattle.swf_engine.specs.Core.{Core, StandFor}
use Rattle.swf_engine.specs.Damage.{IsBadBody, IsBadFrame, IsFrameDamage, IsDamaged}
use Rattle.swf_engine.specs.History.{IsHistory}
use Rattle.swf_engine.specs.declared.fault.EngineFault.{EngineFault}
use Rattle.swf_engine.specs.declared.fault.EngineFault.TheVariants.{Store, Damaged, Full, OutOfMemory}
use Rattle.swf_engine.specs.Causes.{of_open}
use Rattle.swf_engine.specs.Opening.{OpensHistory, IsOpened}
use Rattle.swf_engine.specs.Reading.{HasReplayed, HasReadAll, Reads, ReadsAll}
use Rattle.swf_engine.proofs.HistoryLemmas.{holds_push}
use Rattle.swf_engine.proofs.MoveLemmas.{run_joined}

-- what the reading found, of the journal
pub of_journal : (image : Image) (file : File) (new : Place) (front : List ℕ) (bodies : List (List ℕ)) (o p : Option (Vec ℕ Global)) → file ≡ Journal → o ≡ p
    → MatchOption o (HasRead (bytes_of image file) new front bodies × IsShutAfter front (bytes_of image file) bodies) (λ body. HasRead (bytes_of image file) new front (bodies ++ body.items ∷ []))
    → MatchOption p (HasRead image.journal new front bodies × IsShutAfter front image.journal bodies) (λ body. HasRead image.journal new front (bodies ++ body.items ∷ []))
of_journal image file new front bodies o p is same found =
    subst (λ (f : File). MatchOption p (HasRead (bytes_of image f) new front bodies × IsShutAfter front (bytes_of image f) bodies) (λ body. HasRead (bytes_of image f) new front (bodies ++ body.items ∷ []))) is
    (subst (λ (q : Option (Vec ℕ Global)). MatchOption q (HasRead (bytes_of image file) new front bodies × IsShutAfter front (bytes_of image file) bodies) (λ body. HasRead (bytes_of image file) new front (bodies ++ body.items ∷ []))) same found)

pub in_file : (image : Image) (file : File) (place : Place) (front : List ℕ) (bodies : List (List ℕ)) → file ≡ Journal → HasRead image.journal place front bodies → HasRead (bytes_of image file) place front bodies
in_file image file place front bodies is read = subst (λ (f : File). HasRead (bytes_of image f) place front bodies) (sym is) read

-- no frame yet
pub replayed_none : (journal front : List ℕ) (first : World) (place : Place) → HasRead journal place front [] → HasReplayed journal front first place first
replayed_none journal front first place read = record { bodies = []; labels = []; read = read; holds = refl; run = refl }

-- one frame more
pub replayed_more : (journal front : List ℕ) (first : World) (old new : Place) (w m : World) (s : HasReplayed journal front first old w) (body : List ℕ) (labels : List Label)
    → HasRead journal new front (s.bodies ++ body ∷ []) → Encodes labels body → run_from w labels ≡ Some m → HasReplayed journal front first new m
replayed_more journal front first old new w m s body labels read encodes legal = record {
  bodies = s.bodies ++ body ∷ [];
  labels = s.labels ++ labels;
  read = read;
  holds = holds_push s.bodies s.labels body labels s.holds encodes;
  run = run_joined first w s.labels labels s.run ∙ legal;
}

-- the frames of an opened journal are those of the journal before
pub was_standing : (journal : List ℕ) (frames : List (List ℕ)) → IsShutAfter header (begun journal) frames → StandsFor journal frames
was_standing journal frames shut = ⊎_elim
    (λ short.
    let none : IsShutAfter header (begun journal) [] = begun_holds journal [] (inl (short, refl)) in
    inl (short, stands_for_one (begun journal) frames [] (shut_stands (begun journal) frames shut) (shut_stands (begun journal) [] none)))
    (λ long. shut_stands journal frames (subst (λ (l : List ℕ). IsShutAfter header l frames) (begun_long journal long) shut))
    (cases_lt (length journal) 25)

-- a stop that keeps the frames keeps the history
pub keeps_history : (image left : Image) (history : List Label) → IsHistory image history → KeepsFrames image left → IsHistory left history
keeps_history image left history h keeps = record { bodies = h.bodies; stands = keeps.stands h.bodies h.stands; holds = h.holds; legal = h.legal }

-- what is left of an opened store
pub opened_history : (image left : Image) (history : List Label) → IsHistory image history → left ≡ opened image → IsHistory left history
opened_history image left history h is = subst (λ (i : Image). IsHistory i history) (sym is) (keeps_history image (opened image) history h (keeps_begun image))

-- the history of an image whose journal was read to its end
pub history_read : (image : Image) (place : Place) (w : World) (s : HasReplayed (begun image.journal) header empty place w) → IsShutAfter header (begun image.journal) s.bodies → IsHistory image s.labels
history_read image place w s shut = record { bodies = s.bodies; stands = was_standing image.journal s.bodies shut; holds = s.holds; legal = legal_run s.labels w s.run }

-- the engine stands for it
pub engine_stands : (image : Image) (may_leave : Image → Type 0) (place : Place) (w : World) (s : HasReplayed (begun image.journal) header empty place w) (gate : ℕ)
    → IsReady (begun image.journal) gate header s.bodies → Only (opened image) may_leave → StandFor (opened image) may_leave (record { world = w; gate = gate }) s.labels
engine_stands image may_leave place w s gate ready durable = record { bodies = s.bodies; settled = record { ready = ready; durable = durable }; holds = s.holds; run = s.run }

-- a bad frame at the place of a reading is damage behind what was replayed
pub damaged_there : (journal front : List ℕ) (first : World) (place : Place) (w : World) (s : HasReplayed journal front first place w) (at : ℕ) → IsBadFrame w place.gate (drop place.gate journal) at
    → IsFrameDamage journal front first at
damaged_there journal front first place w s at bad =
    let behind = behind_is journal place front s.bodies s.read in
    record {
      bodies = s.bodies;
      world = w;
      behind = drop place.gate journal;
      ahead = record {
        labels = s.labels;
        laid = s.read.laid ∙ ap (λ (l : List ℕ). front ++ (frames_bytes s.bodies ++ l)) (sym behind);
        fit = s.read.fit;
        holds = s.holds;
        run = s.run;
      };
      bad = subst (λ n. IsBadFrame w n (drop place.gate journal) at) s.read.here bad;
    }

-- a journal that was just begun has no open gate
begun_shut : (behind rest : List ℕ) (w : World) (gate at : ℕ) → behind ≡ 0 ∷ rest → IsBadFrame w gate behind at → ⊥
begun_shut behind rest w gate at is (inl cut) = let e : 0 ≡ open_gate = let o = cut.0.opened in cc in absurd (cc)
begun_shut behind rest w gate at is (inr frame) = let e : 0 ≡ open_gate = let o = frame.2.bytes in cc in absurd (cc)

behind_begun : (bodies : List (List ℕ)) (behind rest : List ℕ) (w : World) (gate at : ℕ) → 0 ∷ rest ≡ frames_bytes bodies ++ behind → IsBadFrame w gate behind at → ⊥
behind_begun [] behind rest w gate at is bad = begun_shut behind rest w gate at (sym is) bad
behind_begun (b ∷ bodies) behind rest w gate at is bad = let e : 0 ≡ open_gate = cc in absurd (cc)

-- damage of an opened journal is damage of the journal before
pub was_damaged : (image : Image) (at : ℕ) → IsFrameDamage (begun image.journal) header empty at → IsDamaged image at
was_damaged image at d = ⊎_elim
    (λ short.
    let is : header ++ 0 ∷ [] ++ drop 17 image.journal ≡ header ++ (frames_bytes d.bodies ++ d.behind) = sym (begun_short image.journal short) ∙ d.ahead.laid in
    absurd (behind_begun d.bodies d.behind (drop 17 image.journal) d.world (next_gate header d.bodies) at (append_cancel_left header _ _ (sym (append_assoc header (0 ∷ []) (drop 17 image.journal)) ∙ is)) d.bad))
    (λ long. inr (long, subst (λ (l : List ℕ). IsFrameDamage l header empty at) (begun_long image.journal long) d))
    (cases_lt (length image.journal) 25)

last_fits : (frames : List (List ℕ)) (body : List ℕ) → AllByRecursion Fits (frames ++ body ∷ []) → Fits body
last_fits [] body f = f.0
last_fits (x ∷ frames) body f = last_fits frames body f.1

-- the frame that was read stands at the gate where the reading stood
pub frame_there : (bytes : List ℕ) (old new : Place) (front : List ℕ) (frames : List (List ℕ)) (body : List ℕ) → HasRead bytes old front frames → (now : HasRead bytes new front (frames ++ body ∷ []))
    → IsFrame (drop old.gate bytes) body (now.gate ∷ now.rest)
frame_there bytes old new front frames body was now =
    let rest = now.gate ∷ now.rest in
    let same = append_cancel_left front (frames_bytes frames ++ was.gate ∷ was.rest) (frames_bytes (frames ++ body ∷ []) ++ rest) (sym was.laid ∙ now.laid) ∙ frames_push frames body rest in
    let is = append_cancel_left (frames_bytes frames) (was.gate ∷ was.rest) (open_gate ∷ (length_bytes (length body) ++ (body ++ rest))) same in
    record { bytes = behind_is bytes old front frames was ∙ is; gate = omega arith; fits = last_fits frames body now.fit }

-- a body that was replayed
pub read_more : (journal front : List ℕ) (first : World) (old new : Place) (w m : World) (s : HasReplayed journal front first old w) (body slice : List ℕ) → HasRead journal new front (s.bodies ++ body ∷ []) → slice ≡ body
    → ((labels : List Label) × Encodes labels slice × (run_from w labels ≡ Some m)) → HasReplayed journal front first new m
read_more journal front first old new w m s body slice read is found = replayed_more journal front first old new w m s body found.0 read (subst (λ (l : List ℕ). Encodes found.0 l) is found.1) found.2

-- a body that is bad
pub read_bad : (journal front : List ℕ) (first : World) (old new : Place) (w m : World) (s : HasReplayed journal front first old w) (body slice : List ℕ) (gate : ℕ) (fault : EngineFault) → HasRead journal new front (s.bodies ++ body ∷ []) → slice ≡ body → gate ≡ old.gate
    → ((at : ℕ) → ◌≡◌ {A = Result (Unit {0}) EngineFault} (Err fault) (Err (Damaged at)) → IsBadBody w gate slice at)
    → ((size : ℕ) → ◌≡◌ {A = Result (Unit {0}) EngineFault} (Err fault) (Err (Full size)) → ⊥)
    → Reads journal front first new m (Err fault)
read_bad journal front first old new w m s body slice gate Store read is here bad full = tt
read_bad journal front first old new w m s body slice gate (Damaged at) read is here bad full =
    let there : IsBadBody w old.gate body at = subst (λ n. IsBadBody w n body at) here (subst (λ (l : List ℕ). IsBadBody w gate l at) is (bad at refl)) in
    damaged_there journal front first old w s at (inr (body, read.gate ∷ read.rest, frame_there journal old new front s.bodies body s.read read, there))
read_bad journal front first old new w m s body slice gate (Full size) read is here bad full = full size refl
read_bad journal front first old new w m s body slice gate OutOfMemory read is here bad full = tt

-- no frame more
pub read_ended : (journal front : List ℕ) (first : World) (old new : Place) (w : World) (s : HasReplayed journal front first old w) → HasRead journal new front s.bodies → IsShutAfter front journal s.bodies → new.ended ≡ true → HasReadAll journal front first new w
read_ended journal front first old new w s read shut ended = record { replayed = record { bodies = s.bodies; labels = s.labels; read = read; holds = s.holds; run = s.run }; shut = shut; ended = ended }

-- a frame that is none
pub read_failed : (journal front : List ℕ) (first : World) (old new : Place) (w m : World) (s : HasReplayed journal front first old w) (fault : OpenFault)
    → ((at : ℕ) → ◌≡◌ {A = Result (Option (Vec ℕ Global)) OpenFault} (Err fault) (Err (OpenDamaged at)) → (at ≡ old.gate + 1) × IsDamage (drop old.gate journal)) → Reads journal front first new m (Err (of_open fault))
read_failed journal front first old new w m s OpenStore bad = tt
read_failed journal front first old new w m s (OpenDamaged at) bad = let b = bad at refl in damaged_there journal front first old w s at (inl (b.1, b.0))
read_failed journal front first old new w m s OpenOutOfMemory bad = tt

pub all_failed : (journal front : List ℕ) (first : World) (place : Place) (w : World) (fault : EngineFault) → Reads journal front first place w (Err fault) → ReadsAll journal front first (Err fault)
all_failed journal front first place w Store r = tt
all_failed journal front first place w (Damaged at) r = r
all_failed journal front first place w (Full size) r = r
all_failed journal front first place w OutOfMemory r = tt

-- damage of what was opened
pub all_damaged : (image : Image) (r : Result Core EngineFault) (at : ℕ) → ReadsAll (begun image.journal) header empty r → r ≡ Err (Damaged at) → IsDamaged image at
all_damaged image (Ok e) at r is = absurd (cc)
all_damaged image (Err Store) at r is = absurd (cc)
all_damaged image (Err (Damaged there)) at r is = let same : there ≡ at = cc in was_damaged image at (subst (λ n. IsFrameDamage (begun image.journal) header empty n) same r)
all_damaged image (Err (Full size)) at r is = absurd (cc)
all_damaged image (Err OutOfMemory) at r is = absurd (cc)

module _ {S : Type 0} (moment : S → ℕ) (left_since : S → ℕ → Image → List Piece → Type 0) (said : S → Option (List Piece)) (may_leave : S → Image → Type 0) (seen : S → Option Image) where
  -- the engine of all frames
  pub all_opened : (image : Image) (new : S) (r : Result Core EngineFault) → seen new ≡ Some (opened image) → Only (opened image) (may_leave new) → ReadsAll (begun image.journal) header empty r
      → IfOk r (λ engine. IsOpened moment left_since said may_leave seen image new engine)
  all_opened image new (Ok e) told durable r =
      let all = r.2 in
      let s = all.replayed in
      let ready : IsReady (begun image.journal) r.0.gate header s.bodies = record { holds = all.shut; here = s.read.here } in
      subst (λ (x : Core). IsOpened moment left_since said may_leave seen image new x) (sym r.3) (record {
        history = s.labels;
        was = history_read image r.0 r.1 s all.shut;
        now = opened image;
        seen_now = told;
        stands = engine_stands image (may_leave new) r.0 r.1 s r.0.gate ready durable;
      })
  all_opened image new (Err f) told durable r = tt

  -- the opening was begun, and then the frames were read
  pub opens_on : (old mid new : S) (image : Image) (history : List Label) → IsHistory image history → said mid ≡ said old → Opens moment left_since said may_leave old mid image
      → Only (opened image) (may_leave mid) → LeavesOnly moment left_since said mid new (may_leave mid) → OpensHistory moment left_since said may_leave seen old new history
  opens_on old mid new image history h silent (inl first) durable second =
      inr (mid, silent, first, weaker_only moment left_since said mid new (may_leave mid) (λ i. IsHistory i history) second (λ left may. opened_history image left history h (durable left may)))
  opens_on old mid new image history h silent (inr later) durable second =
      inr (
        later.0,
        later.1,
        later.2,
        goes_on_only moment left_since said later.0 mid new (KeepsFrames image) (may_leave mid) (λ i. IsHistory i history) (silent ∙ sym later.1) later.3 second
            (λ left keeps. keeps_history image left history h keeps)
            (λ left may. opened_history image left history h (durable left may)),
      )

  -- the opening ended at its beginning
  pub opens_short : (old new : S) (image : Image) (history : List Label) → IsHistory image history → Opens moment left_since said may_leave old new image → OpensHistory moment left_since said may_leave seen old new history
  opens_short old new image history h (inl first) = inl first
  opens_short old new image history h (inr later) =
      inr (later.0, later.1, later.2, weaker_only moment left_since said later.0 new (KeepsFrames image) (λ i. IsHistory i history) later.3 (λ left keeps. keeps_history image left history h keeps))

-- a header that is not right
pub failed_damage : (image : Image) (fault : OpenFault) (answer : EngineFault) (at : ℕ) → answer ≡ of_open fault → ◌≡◌ {A = Result Core EngineFault} (Err answer) (Err (Damaged at))
    → ((at : ℕ) → ◌≡◌ {A = Result Place OpenFault} (Err fault) (Err (OpenDamaged at)) → (at ≡ 0) × (25 ≤ length image.journal) × (take 16 image.journal ≢ header)) → IsDamaged image at
failed_damage image OpenStore answer at is damaged bad = absurd (cc)
failed_damage image (OpenDamaged there) answer at is damaged bad =
    let same : there ≡ at = cc in
    let b = bad there refl in
    inl (record { long = b.1; other = b.2; place = sym same ∙ b.0 })
failed_damage image OpenOutOfMemory answer at is damaged bad = absurd (cc)
