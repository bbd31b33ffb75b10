-- How histories grow, and what stands for them.
use Rattle.std.proofs.Common.{◌≡◌, ◌∙◌, ap, sym, refl, subst, ℕ, List, [], ◌∷◌, ◌++◌, append-nil, append_assoc, Some}
use Rattle.swf_store.specs.declared.image.Image.{Image}
use Rattle.swf_journal.specs.Frames.{header}
use Rattle.swf_journal.specs.Stands.{IsShutAfter}
use Rattle.swf_journal.proofs.StandsLemmas.{shut_stands}
use Rattle.swf_meaning.specs.declared.label.Label.{Label}
use Rattle.swf_runs.specs.Runs.{run}
use Rattle.swf_meaning.specs.World.{World}
use Rattle.swf_runs.proofs.RunLemmas.{legal_run}
use Rattle.swf_record.specs.Encodes.{Encodes}
use Rattle.swf_engine.specs.Core.{Core, StandFor}
use Rattle.swf_engine.specs.History.{HoldLabels, IsHistory, IsGrown}

-- one frame more holds its labels behind those before
pub holds_push : (bodies : List (List ℕ)) (labels : List Label) (body : List ℕ) (more : List Label) → HoldLabels bodies labels → Encodes more body → HoldLabels (bodies ++ body ∷ []) (labels ++ more)
holds_push [] labels body more none e = (more, [], ap (λ (l : List Label). l ++ more) none ∙ sym (append-nil more), e, refl)
holds_push (b ∷ bodies) labels body more h e = (
  h.0,
  h.1 ++ more,
  ap (λ (l : List Label). l ++ more) h.2 ∙ append_assoc h.0 h.1 more,
  h.3,
  holds_push bodies h.1 body more h.4 e,
)

-- whole frames behind the header whose labels are a run
pub history_of : (image : Image) (bodies : List (List ℕ)) (labels : List Label) (w : World) → IsShutAfter header image.journal bodies → HoldLabels bodies labels → run labels ≡ Some w → IsHistory image labels
history_of image bodies labels w shut holds is = record { bodies = bodies; stands = shut_stands image.journal bodies shut; holds = holds; legal = legal_run labels w is }

-- what a stop leaves of a store that an engine stands for
pub left_history : (image : Image) (may_leave : Image → Type 0) (engine : Core) (history : List Label) → StandFor image may_leave engine history → (left : Image) → may_leave left → IsHistory left history
left_history image may_leave engine history s left may =
    subst (λ (i : Image). IsHistory i history) (sym (s.settled.durable left may))
    (history_of image s.bodies history engine.world s.settled.ready.holds s.holds s.run)

-- nothing of the group is there yet
pub not_grown : (history group : List Label) (image : Image) → IsHistory image history → IsGrown history group image
not_grown history group image h = record {
  part = [];
  begins = record { rest = group; joined = refl };
  stands = subst (λ (l : List Label). IsHistory image l) (sym (append-nil history)) h;
}

-- all of it is there
pub all_grown : (history group : List Label) (image : Image) → IsHistory image (history ++ group) → IsGrown history group image
all_grown history group image h = record { part = group; begins = record { rest = []; joined = sym (append-nil group) }; stands = h }

-- a longer group
pub grown_first : (history first second : List Label) (image : Image) → IsGrown history first image → IsGrown history (first ++ second) image
grown_first history first second image g = record {
  part = g.part;
  begins = record { rest = g.begins.rest ++ second; joined = ap (λ (l : List Label). l ++ second) g.begins.joined ∙ append_assoc g.part g.begins.rest second };
  stands = g.stands;
}

-- the labels behind the first ones
pub grown_second : (history first second : List Label) (image : Image) → IsGrown (history ++ first) second image → IsGrown history (first ++ second) image
grown_second history first second image g = record {
  part = first ++ g.part;
  begins = record { rest = g.begins.rest; joined = ap (λ (l : List Label). first ++ l) g.begins.joined ∙ sym (append_assoc first g.part g.begins.rest) };
  stands = subst (λ (l : List Label). IsHistory image l) (append_assoc history first g.part) g.stands;
}
