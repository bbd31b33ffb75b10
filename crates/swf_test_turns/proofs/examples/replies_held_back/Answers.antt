use Rattle.std.proofs.Common.{◌≡◌, ap, refl, inl, ℕ, List, [], ◌∷◌, None, arith}
use Rattle.std.specs.Prelude.{codes}
use Rattle.swf_store.specs.declared.said.Piece.{Piece}
use Rattle.swf_turns.specs.Turns.{AreTurns}
use Rattle.swf_words.specs.declared.words.Words.{Words}
use Rattle.swf_test_turns.specs.Bell.{bell, read}
use Rattle.swf_test_turns.specs.Examples.{both_held}
use Rattle.swf_test_turns.proofs.examples.replies_held_back.Goals as goal

both_allowed : (words : Words) → AreTurns bell words None [] both_held
both_allowed words = ((read (codes "fifth"), refl, inl (refl, refl)), tt, tt, ((read (codes "seventh"), refl, inl (refl, refl)), tt, tt, tt))

abbrev first_number : List Piece → ℕ
first_number [] = 0
first_number (p ∷ ps) = p.inputs

pub returns : goal.returns
returns c = record {
  unsaid = λ words. record {
    answered = [];
    unsaid = both_held;
    «open» = [];
    part = [];
    heard = [];
    allowed = both_allowed words;
    going = (refl, refl);
    inputs_are = refl;
    answers_are = refl;
    labels_are = refl;
    replies_are = refl;
  };
  said = λ words. record {
    answered = both_held;
    unsaid = [];
    «open» = [];
    part = [];
    heard = [];
    allowed = both_allowed words;
    going = (refl, refl);
    inputs_are = refl;
    answers_are = refl;
    labels_are = refl;
    replies_are = refl;
  };
  order = (refl, refl, omega arith, omega arith, (refl, refl, omega arith, omega arith, tt));
  late = λ e. let two_is_one : 2 ≡ 1 = ap first_number e in omega (arith, two_is_one);
  early = λ s. omega (arith, s.2);
}
