-- Reading from a front in the middle of a journal, with the world of the labels in front of it, is reading from where these labels begin.
use Rattle.std.proofs.Common.{◌≡◌, ◌∙◌, ◌↔◌, ap, sym, refl, subst, inl, inr, ◌⊎◌, ⊎_elim, ℕ, ◌≤◌, List, [], ◌∷◌, ◌++◌, length, take, true, Option, Some, None, is_some, Result, Ok, Err, append_assoc, length-append, arith}
use Rattle.std.specs.List.{AllByRecursion}
use Rattle.std.proofs.lemmas.List.{append_cancel_left, take_at}
use Rattle.swf_store.specs.declared.image.Image.{Image}
use Rattle.swf_journal.specs.Frames.{header, open_gate, length_bytes, frames_bytes, next_gate}
use Rattle.swf_journal.specs.Opening.{IsFrame}
use Rattle.swf_journal.specs.Place.{Place, HasRead}
use Rattle.swf_journal.specs.Stands.{Fits, IsShutAfter}
use Rattle.swf_journal.proofs.FrameLemmas.{nested}
use Rattle.swf_journal.proofs.StandsLemmas.{first_is, peeled}
use Rattle.swf_meaning.specs.declared.label.Label.{Label}
use Rattle.swf_meaning.specs.World.{World, empty}
use Rattle.swf_runs.specs.Runs.{run_from}
use Rattle.swf_runs.proofs.RunLemmas.{legal_run}
use Rattle.swf_engine.specs.declared.fault.EngineFault.{EngineFault}
use Rattle.swf_engine.specs.declared.fault.EngineFault.TheVariants.{Store, Damaged, Full, OutOfMemory}
use Rattle.swf_engine.specs.Core.{Core}
use Rattle.swf_engine.specs.Damage.{IsBadBody, IsBadFrame, IsFrameDamage}
use Rattle.swf_engine.specs.History.{HoldLabels, IsHistory, IsRest}
use Rattle.swf_engine.specs.Reading.{HasReplayed, HasReadAll, ReadsAll}
use Rattle.swf_engine.proofs.LawLemmas.{holds_one, split, Further, bad_body}
use Rattle.swf_engine.proofs.MoveLemmas.{run_joined}
use Rattle.swf_engine.proofs.RetellLemmas.{read_begins}

-- the bytes of two lists of frames
frames_joined : (fs more : List (List ℕ)) (tail : List ℕ) → frames_bytes (fs ++ more) ++ tail ≡ frames_bytes fs ++ (frames_bytes more ++ tail)
frames_joined [] more tail = refl
frames_joined (f ∷ fs) more tail =
    let len = length_bytes (length f) in
    ap (λ (l : List ℕ). open_gate ∷ l) (nested len f (frames_bytes (fs ++ more)) tail ∙ ap (λ (l : List ℕ). len ++ (f ++ l)) (frames_joined fs more tail) ∙ sym (nested len f (frames_bytes fs) (frames_bytes more ++ tail)))

fit_joined : (fs more : List (List ℕ)) → AllByRecursion Fits fs → AllByRecursion Fits more → AllByRecursion Fits (fs ++ more)
fit_joined [] more a b = b
fit_joined (f ∷ fs) more a b = (a.0, fit_joined fs more a.1 b)

holds_joined : (fs more : List (List ℕ)) (a b : List Label) → HoldLabels fs a → HoldLabels more b → HoldLabels (fs ++ more) (a ++ b)
holds_joined [] more a b p q = subst (λ (l : List Label). HoldLabels more (l ++ b)) (sym p) q
holds_joined (f ∷ fs) more a b p q = (p.0, p.1 ++ b, ap (λ (l : List Label). l ++ b) p.2 ∙ append_assoc p.0 p.1 b, p.3, holds_joined fs more p.1 b p.4 q)

-- frames behind others
behind_front : (front : List ℕ) (fs more : List (List ℕ)) (tail : List ℕ) → front ++ (frames_bytes (fs ++ more) ++ tail) ≡ (front ++ frames_bytes fs) ++ (frames_bytes more ++ tail)
behind_front front fs more tail = ap (λ (l : List ℕ). front ++ l) (frames_joined fs more tail) ∙ sym (append_assoc front (frames_bytes fs) (frames_bytes more ++ tail))

gate_front : (front : List ℕ) (fs more : List (List ℕ)) → next_gate front (fs ++ more) ≡ next_gate (front ++ frames_bytes fs) more
gate_front front fs more =
    let whole = ap (λ (l : List ℕ). length l) (frames_joined fs more []) in
    omega (arith, whole, length-append (frames_bytes (fs ++ more)) [], length-append (frames_bytes more) [], length-append (frames_bytes fs) (frames_bytes more ++ []), length-append front (frames_bytes fs))

-- the front at the gate where a reading stands
front_is : (journal front : List ℕ) (here : Place) (bodies : List (List ℕ)) → HasRead journal here front bodies → take here.gate journal ≡ front ++ frames_bytes bodies
front_is journal front here bodies read =
    let ahead = front ++ frames_bytes bodies in
    let cut : journal ≡ ahead ++ read.gate ∷ read.rest = read.laid ∙ sym (append_assoc front (frames_bytes bodies) (read.gate ∷ read.rest)) in
    let size : length ahead ≡ here.gate = omega (arith, read.here, length-append front (frames_bytes bodies)) in
    ap (λ (l : List ℕ). take here.gate l) cut ∙ take_at ahead (read.gate ∷ read.rest) here.gate size

-- one list of whole frames goes on behind the other
pub record Beyond (fs ds : List (List ℕ)) (behind : List ℕ) : Type 0 where
  pub more : List (List ℕ)
  pub joined : ds ≡ fs ++ more
  pub fit : AllByRecursion Fits more

-- or ends before a frame of it
pub record Within (fs ds : List (List ℕ)) (tail behind : List ℕ) : Type 0 where
  pub body : List ℕ
  pub others : List (List ℕ)
  pub joined : fs ≡ ds ++ body ∷ others
  pub behind_is : behind ≡ frames_bytes (body ∷ others) ++ tail
  pub fits : Fits body

meet : (fs ds : List (List ℕ)) (tail behind : List ℕ) → AllByRecursion Fits fs → AllByRecursion Fits ds → frames_bytes fs ++ tail ≡ frames_bytes ds ++ behind → Beyond fs ds behind ⊎ Within fs ds tail behind
meet [] ds tail behind fit fit' is = inl (record { more = ds; joined = refl; fit = fit' })
meet (f ∷ fs) [] tail behind fit fit' is = inr (record { body = f; others = fs; joined = refl; behind_is = sym is; fits = fit.0 })
meet (f ∷ fs) (d ∷ ds) tail behind fit fit' is =
    let both = first_is f d (frames_bytes fs ++ tail) (frames_bytes ds ++ behind) fit.0 fit'.0 (peeled f fs d ds tail behind is) in
    ⊎_elim
    (λ b. inl (record { more = b.more; joined = ap (λ (l : List ℕ). l ∷ ds) (sym both.same) ∙ ap (λ (l : List (List ℕ)). f ∷ l) b.joined; fit = b.fit }))
    (λ w. inr (record { body = w.body; others = w.others; joined = ap (λ (l : List (List ℕ)). f ∷ l) w.joined ∙ ap (λ (l : List ℕ). l ∷ (ds ++ w.body ∷ w.others)) both.same; behind_is = w.behind_is; fits = w.fits }))
    (meet fs ds tail behind fit.1 fit'.1 both.rest)

module _ (journal front : List ℕ) (first middle : World) (here : Place) (reached : HasReplayed journal front first here middle) where
  -- the bytes in front of the gate that was reached
  abbrev ahead : List ℕ
  ahead = front ++ frames_bytes reached.bodies

  -- frames up to a shut gate begin with those that were read
  more_of : (bs : List (List ℕ)) → (shut : IsShutAfter front journal bs) → Further reached.bodies bs (reached.read.gate ∷ reached.read.rest) shut.gate shut.rest
  more_of bs shut = read_begins journal front here reached.bodies bs reached.read shut

  shut_ahead : (more : List (List ℕ)) → IsShutAfter front journal (reached.bodies ++ more) → AllByRecursion Fits more → IsShutAfter ahead journal more
  shut_ahead more shut fit = record { gate = shut.gate; rest = shut.rest; laid = shut.laid ∙ behind_front front reached.bodies more (shut.gate ∷ shut.rest); shut = shut.shut; fit = fit }

  shut_back : (more : List (List ℕ)) → IsShutAfter ahead journal more → IsShutAfter front journal (reached.bodies ++ more)
  shut_back more shut = record {
    gate = shut.gate;
    rest = shut.rest;
    laid = shut.laid ∙ sym (behind_front front reached.bodies more (shut.gate ∷ shut.rest));
    shut = shut.shut;
    fit = fit_joined reached.bodies more reached.read.fit shut.fit;
  }

  -- the labels behind the front
  pub record RestOf (more : List (List ℕ)) (labels : List Label) : Type 0 where
    pub rest : List Label
    pub joined : labels ≡ reached.labels ++ rest
    pub holds : HoldLabels more rest

  after_front : (more : List (List ℕ)) (labels : List Label) → HoldLabels (reached.bodies ++ more) labels → RestOf more labels
  after_front more labels holds =
      let s = split reached.bodies more labels holds in
      let same : s.first ≡ reached.labels = holds_one reached.bodies s.first reached.labels s.of_front reached.holds in
      record { rest = s.rest; joined = s.joined ∙ ap (λ (l : List Label). l ++ s.rest) same; holds = s.of_more }

  run_on : (labels rest : List Label) → labels ≡ reached.labels ++ rest → run_from first labels ≡ run_from middle rest
  run_on labels rest is = ap (run_from first) is ∙ run_joined first middle reached.labels rest reached.run

  rest_ahead : (labels : List Label) (last : World) → IsRest journal front first (reached.labels ++ labels) last → IsRest journal ahead middle labels last
  rest_ahead labels last r =
      let go = more_of r.bodies r.shut in
      let a = after_front go.more (reached.labels ++ labels) (subst (λ (l : List (List ℕ)). HoldLabels l (reached.labels ++ labels)) go.joined r.holds) in
      let same : a.rest ≡ labels = append_cancel_left reached.labels a.rest labels (sym a.joined) in
      record {
        bodies = go.more;
        shut = shut_ahead go.more (subst (λ (l : List (List ℕ)). IsShutAfter front journal l) go.joined r.shut) go.fit;
        holds = subst (λ (l : List Label). HoldLabels go.more l) same a.holds;
        run = sym (run_on (reached.labels ++ labels) labels refl) ∙ r.run;
      }

  rest_back : (labels : List Label) (last : World) → IsRest journal ahead middle labels last → IsRest journal front first (reached.labels ++ labels) last
  rest_back labels last r = record {
    bodies = reached.bodies ++ r.bodies;
    shut = shut_back r.bodies r.shut;
    holds = holds_joined reached.bodies r.bodies reached.labels labels reached.holds r.holds;
    run = run_on (reached.labels ++ labels) labels refl ∙ r.run;
  }

  all_ahead : (there : Place) (last : World) → HasReadAll journal front first there last → HasReadAll journal ahead middle there last
  all_ahead there last a =
      let s = a.replayed in
      let go = more_of s.bodies a.shut in
      let read : HasRead journal there front (reached.bodies ++ go.more) = subst (λ (l : List (List ℕ)). HasRead journal there front l) go.joined s.read in
      let rest = after_front go.more s.labels (subst (λ (l : List (List ℕ)). HoldLabels l s.labels) go.joined s.holds) in
      record {
        replayed = record {
          bodies = go.more;
          labels = rest.rest;
          read = record {
            gate = read.gate;
            rest = read.rest;
            laid = read.laid ∙ behind_front front reached.bodies go.more (read.gate ∷ read.rest);
            fit = go.fit;
            here = read.here ∙ gate_front front reached.bodies go.more;
            ended = read.ended;
          };
          holds = rest.holds;
          run = sym (run_on s.labels rest.rest rest.joined) ∙ s.run;
        };
        shut = shut_ahead go.more (subst (λ (l : List (List ℕ)). IsShutAfter front journal l) go.joined a.shut) go.fit;
        ended = a.ended;
      }

  all_back : (there : Place) (last : World) → HasReadAll journal ahead middle there last → HasReadAll journal front first there last
  all_back there last a =
      let s = a.replayed in
      record {
        replayed = record {
          bodies = reached.bodies ++ s.bodies;
          labels = reached.labels ++ s.labels;
          read = record {
            gate = s.read.gate;
            rest = s.read.rest;
            laid = s.read.laid ∙ sym (behind_front front reached.bodies s.bodies (s.read.gate ∷ s.read.rest));
            fit = fit_joined reached.bodies s.bodies reached.read.fit s.read.fit;
            here = s.read.here ∙ sym (gate_front front reached.bodies s.bodies);
            ended = s.read.ended;
          };
          holds = holds_joined reached.bodies s.bodies reached.labels s.labels reached.holds s.holds;
          run = run_on (reached.labels ++ s.labels) s.labels refl ∙ s.run;
        };
        shut = shut_back s.bodies a.shut;
        ended = a.ended;
      }

  damage_back : (at : ℕ) → IsFrameDamage journal ahead middle at → IsFrameDamage journal front first at
  damage_back at d = record {
    bodies = reached.bodies ++ d.bodies;
    world = d.world;
    behind = d.behind;
    ahead = record {
      labels = reached.labels ++ d.ahead.labels;
      laid = d.ahead.laid ∙ sym (behind_front front reached.bodies d.bodies d.behind);
      fit = fit_joined reached.bodies d.bodies reached.read.fit d.ahead.fit;
      holds = holds_joined reached.bodies d.bodies reached.labels d.ahead.labels reached.holds d.ahead.holds;
      run = run_on (reached.labels ++ d.ahead.labels) d.ahead.labels refl ∙ d.ahead.run;
    };
    bad = subst (λ n. IsBadFrame d.world n d.behind at) (sym (gate_front front reached.bodies d.bodies)) d.bad;
  }

  -- a frame that was read is not bad
  read_well : (at : ℕ) (d : IsFrameDamage journal front first at) → Within reached.bodies d.bodies (reached.read.gate ∷ reached.read.rest) d.behind → IsBadFrame d.world (next_gate front d.bodies) d.behind at → ⊥
  read_well at d w bad =
      let tail = reached.read.gate ∷ reached.read.rest in
      let len = length_bytes (length w.body) in
      let after = frames_bytes w.others ++ tail in
      let frame : IsFrame d.behind w.body after = record {
        bytes = w.behind_is ∙ ap (λ (l : List ℕ). open_gate ∷ l) (nested len w.body (frames_bytes w.others) tail);
        gate = omega (arith, length-append (frames_bytes w.others) tail);
        fits = w.fits;
      } in
      let s = split d.bodies (w.body ∷ w.others) reached.labels (subst (λ (l : List (List ℕ)). HoldLabels l reached.labels) w.joined reached.holds) in
      let same : s.first ≡ d.ahead.labels = holds_one d.bodies s.first d.ahead.labels s.of_front d.ahead.holds in
      let labels = s.of_more.0 in
      let rest = s.of_more.1 in
      let all : reached.labels ≡ d.ahead.labels ++ (labels ++ rest) = s.joined ∙ ap (λ (l : List Label). l ++ s.rest) same ∙ ap (λ (l : List Label). d.ahead.labels ++ l) s.of_more.2 in
      let runs : run_from d.world (labels ++ rest) ≡ Some middle = sym (ap (run_from first) all ∙ run_joined first d.world d.ahead.labels (labels ++ rest) d.ahead.run) ∙ reached.run in
      let legal : is_some (run_from d.world (labels ++ rest)) ≡ true = ap is_some runs in
      ⊎_elim
      (λ cut. cut.0.no_frame w.body after frame)
      (λ other.
      let is = sym other.2.bytes ∙ frame.bytes in
      let inner : length_bytes (length other.0) ++ (other.0 ++ other.1) ≡ len ++ (w.body ++ after) = cc in
      let both = first_is other.0 w.body other.1 after other.2.fits w.fits inner in
      bad_body d.world (next_gate front d.bodies) at w.body labels rest s.of_more.3 legal (subst (λ (l : List ℕ). IsBadBody d.world (next_gate front d.bodies) l at) both.same other.3))
      bad

  damage_ahead : (at : ℕ) → IsFrameDamage journal front first at → IsFrameDamage journal ahead middle at
  damage_ahead at d =
      let tail = reached.read.gate ∷ reached.read.rest in
      ⊎_elim
      (λ b.
      let rest = after_front b.more d.ahead.labels (subst (λ (l : List (List ℕ)). HoldLabels l d.ahead.labels) b.joined d.ahead.holds) in
      record {
        bodies = b.more;
        world = d.world;
        behind = d.behind;
        ahead = record {
          labels = rest.rest;
          laid = d.ahead.laid ∙ ap (λ (l : List (List ℕ)). front ++ (frames_bytes l ++ d.behind)) b.joined ∙ behind_front front reached.bodies b.more d.behind;
          fit = b.fit;
          holds = rest.holds;
          run = sym (run_on d.ahead.labels rest.rest rest.joined) ∙ d.ahead.run;
        };
        bad = subst (λ n. IsBadFrame d.world n d.behind at) (ap (next_gate front) b.joined ∙ gate_front front reached.bodies b.more) d.bad;
      })
      (λ w. absurd (read_well at d w d.bad))
      (meet reached.bodies d.bodies tail d.behind reached.read.fit d.ahead.fit (append_cancel_left front _ _ (sym reached.read.laid ∙ d.ahead.laid)))

  reads_ahead : (answer : Result Core EngineFault) → ReadsAll journal front first answer → ReadsAll journal ahead middle answer
  reads_ahead (Ok engine) r = (r.0, r.1, all_ahead r.0 r.1 r.2, r.3)
  reads_ahead (Err Store) r = tt
  reads_ahead (Err (Damaged at)) r = damage_ahead at r
  reads_ahead (Err (Full size)) r = r
  reads_ahead (Err OutOfMemory) r = tt

  reads_back : (answer : Result Core EngineFault) → ReadsAll journal ahead middle answer → ReadsAll journal front first answer
  reads_back (Ok engine) r = (r.0, r.1, all_back r.0 r.1 r.2, r.3)
  reads_back (Err Store) r = tt
  reads_back (Err (Damaged at)) r = damage_back at r
  reads_back (Err (Full size)) r = r
  reads_back (Err OutOfMemory) r = tt

  -- reading on from the gate that was reached answers as reading from the front does
  pub reads_on : (answer : Result Core EngineFault) → ReadsAll journal front first answer ↔ ReadsAll journal (take here.gate journal) middle answer
  reads_on answer =
      subst (λ (f : List ℕ). ReadsAll journal front first answer ↔ ReadsAll journal f middle answer) (sym (front_is journal front here reached.bodies reached.read)) (reads_ahead answer, reads_back answer)

  -- and what stands behind that gate is the rest
  pub rest_on : (labels : List Label) (last : World) → IsRest journal front first (reached.labels ++ labels) last ↔ IsRest journal (take here.gate journal) middle labels last
  rest_on labels last =
      subst (λ (f : List ℕ). IsRest journal front first (reached.labels ++ labels) last ↔ IsRest journal f middle labels last) (sym (front_is journal front here reached.bodies reached.read))
      (rest_ahead labels last, rest_back labels last)

some_world : (o : Option World) → is_some o ≡ true → (w : World) × (o ≡ Some w)
some_world None is = absurd (cc)
some_world (Some w) is = (w, refl)

-- a history is what stands behind the header, from the empty world on
pub whole_history : (image : Image) (history : List Label) → 25 ≤ length image.journal → IsHistory image history ↔ ((last : World) × IsRest image.journal header empty history last)
whole_history image history long = (
  (λ h.
      let last = some_world (run_from empty history) h.legal in
      ⊎_elim
      (λ short. absurd (omega (arith, short.0, long)))
      (λ both. (last.0, record { bodies = h.bodies; shut = both.1; holds = h.holds; run = last.1 }))
      h.stands),
  (λ r. record { bodies = r.1.bodies; stands = inr (long, r.1.shut); holds = r.1.holds; legal = legal_run history r.0 r.1.run }),
)
