-- Groups of a settling, and their beginnings.
use Rattle.std.proofs.Common.{◌≡◌, ◌∙◌, ap, sym, refl, subst, ℕ, ◌≤◌, List, [], ◌∷◌, ◌++◌, append_assoc, append-nil, length, length-append, Bool, Some, arith}
use Rattle.std.specs.Prelude.{IsPermutation}
use Rattle.std.proofs.lemmas.List.Elements.{filter-append}
use Rattle.std.proofs.lemmas.List.Sorted.{IsPermutation-refl}
use Rattle.swf_connect.specs.Parties.{Party}
use Rattle.swf_meaning.specs.World.{World}
use Rattle.swf_meaning.specs.declared.label.Label.{Label}
use Rattle.swf_meaning.specs.declared.label.Label.TheVariants.{Load, Start, Event, Reply, Moment, Step}
use Rattle.swf_engine.specs.History.{Begins}
use Rattle.swf_engine.specs.Settling.{Called, Takes, AreAsked, AreTaken, AsksBoard, IsGroup, behind, is_step, steps_in}
use Rattle.swf_turns.specs.Settling.{AreSettling}

-- what was given to labels, of which the first take a beginning
record IsBegun (w : World) (labels : List Label) (given : List Called) : Type 0 where
  pub first : List Called
  pub rest : List Called
  pub joined : given ≡ first ++ rest
  pub taken : AreTaken w labels first

-- a label in front of a beginning
one_begun : (w : World) (l : Label) (ls : List Label) (given rest : List Called) → Takes w l given rest → IsBegun (behind w l) ls rest → IsBegun w (l ∷ ls) given
one_begun w (Load v) ls given rest t b = absurd t
one_begun w (Start id key input) ls given rest t b = absurd t
one_begun w (Event e) ls given rest t b = absurd t
one_begun w (Reply a r) ls given rest t b =
    let c : Called = record { activity = a; request = t.0; reply = Some r } in
    record { first = c ∷ b.first; rest = b.rest; joined = t.1 ∙ ap (λ (l : List Called). c ∷ l) b.joined; taken = (b.first, (t.0, refl, t.2), b.taken) }
one_begun w (Moment moment) ls given rest t b = absurd t
one_begun w (Step id strand) ls given rest t b = record { first = b.first; rest = b.rest; joined = t ∙ b.joined; taken = (b.first, refl, b.taken) }

taken_first : (w : World) (a b : List Label) (given : List Called) → AreTaken w (a ++ b) given → IsBegun w a given
taken_first w [] b given t = record { first = []; rest = given; joined = refl; taken = refl }
taken_first w (l ∷ a) b given t = one_begun w l a given t.0 t.1 (taken_first (behind w l) a b t.0 t.2)

-- a beginning of a settling's group is one
settling_first : (w : World) (a b : List Label) (limit : ℕ) (answers : List Called) → AreSettling w (a ++ b) limit answers → AreSettling w a limit answers
settling_first w a b limit answers s =
    let steps : length (steps_in (a ++ b)) ≡ length (steps_in a ++ steps_in b) = ap length (filter-append is_step a b) in
    let begun = taken_first w a b s.used s.taken in
    record {
      used = begun.first;
      unused = begun.rest ++ s.unused;
      among = subst (IsPermutation answers) (ap (λ (l : List Called). l ++ s.unused) begun.joined ∙ append_assoc begun.first begun.rest s.unused) s.among;
      taken = begun.taken;
      most = omega (arith, s.most, steps, length-append (steps_in a) (steps_in b));
    }

pub settling_begin : (w : World) (part labels : List Label) (limit : ℕ) (answers : List Called) → AreSettling w labels limit answers → Begins part labels → AreSettling w part limit answers
settling_begin w part labels limit answers s b = settling_first w part b.rest limit answers (subst (λ (l : List Label). AreSettling w l limit answers) b.joined s)

-- what an engine's settling adds is one
pub settling_of_group : (w : World) (labels : List Label) (limit : ℕ) (answers : List Called) → IsGroup w labels limit answers → AreSettling w labels limit answers
settling_of_group w labels limit answers g = record {
  used = g.used;
  unused = g.left;
  among = subst (IsPermutation answers) g.called_are (IsPermutation-refl answers);
  taken = g.taken;
  most = g.most;
}

pub settling_of_all : (w : World) (labels : List Label) (limit : ℕ) (answers : List Called) → AreTaken w labels answers → length (steps_in labels) ≤ limit → AreSettling w labels limit answers
settling_of_all w labels limit answers t most = record {
  used = answers;
  unused = [];
  among = subst (IsPermutation answers) (sym (append-nil answers)) (IsPermutation-refl answers);
  taken = t;
  most = most;
}

-- and so is nothing
pub settling_of_none : (w : World) (limit : ℕ) (answers : List Called) → AreSettling w [] limit answers
settling_of_none w limit answers = record { used = []; unused = answers; among = IsPermutation-refl answers; taken = refl; most = omega arith }

-- nobody was asked
pub asks_none : (http : Bool) (parties : List Party) → AsksBoard http [] parties parties
asks_none http parties = record { asked = refl; by_hand = λ e. refl }

-- one call after another
are_asked_join : (a b : List Called) (old middle new : List Party) → AreAsked a old middle → AreAsked b middle new → AreAsked (a ++ b) old new
are_asked_join [] b old middle new first second = subst (λ (ps : List Party). AreAsked b ps new) first second
are_asked_join (c ∷ a) b old middle new first second = (first.0, first.1, are_asked_join a b first.0 middle new first.2 second)

pub asks_join : (http : Bool) (a b : List Called) (old middle new : List Party) → AsksBoard http a old middle → AsksBoard http b middle new → AsksBoard http (a ++ b) old new
asks_join http a b old middle new first second = record {
  asked = are_asked_join a b old middle new first.asked second.asked;
  by_hand = λ e. ap (λ (l : List Called). l ++ b) (first.by_hand e) ∙ second.by_hand e;
}
