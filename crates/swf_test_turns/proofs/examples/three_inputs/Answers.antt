use Rattle.std.proofs.Common.{refl, inl, [], ◌∷◌, arith}
use Rattle.std.specs.Prelude.{codes}
use Rattle.std.proofs.lemmas.List.Sorted.{IsPermutation-refl}
use Rattle.swf_test_turns.specs.Examples.{given}
use Rattle.swf_test_turns.specs.Bell.{read}
use Rattle.swf_test_turns.proofs.examples.three_inputs.Goals as goal

pub returns : goal.returns
returns c = record {
  turn = λ words call request reply.
      let all = given call request reply ∷ [] in (
        (
          read (codes "go"),
          refl,
          inl (record {
            settling = record { used = all; unused = []; among = IsPermutation-refl all; taken = (all, refl, ([], (request, refl, λ legal. cc), ([], refl, refl))); most = omega arith };
            enough = λ e. refl;
            told = refl;
          }),
        ),
        (refl, (refl, tt)),
        tt,
        tt,
      );
  other = λ more. cc;
}
