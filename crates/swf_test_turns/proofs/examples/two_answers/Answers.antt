use Rattle.std.proofs.Common.{ap, refl, inl, [], ◌∷◌, ◌++◌, length, length-append, arith}
use Rattle.std.specs.Prelude.{codes}
use Rattle.std.proofs.lemmas.List.Sorted.{length_permutation}
use Rattle.swf_test_turns.specs.Examples.{given}
use Rattle.swf_test_turns.specs.Bell.{read}
use Rattle.swf_test_turns.proofs.examples.two_answers.Goals as goal

-- the first of the three answers changes places with the last, and is left over
pub returns : goal.returns
returns c = record {
  turn = λ words a b d request reply.
      let one = given b request reply ∷ [] in
      let both = given d request reply ∷ one in (
        (
          read (codes "go"),
          refl,
          inl (record {
            settling = record {
              used = both;
              unused = given a request reply ∷ [];
              among = record { moves = (0, 2) ∷ []; below = (omega arith, omega arith, tt); is = refl };
              taken = (one, (request, refl, λ legal. cc), (one, refl, ([], (request, refl, λ legal. cc), ([], refl, refl))));
              most = omega arith;
            };
            enough = λ e. refl;
            told = refl;
          }),
        ),
        tt,
        tt,
        tt,
      );
  once = λ w call request reply s.
      let first = ap length s.taken.1.1 in
      let second = ap length s.taken.2.1.1 in
      omega (arith, length_permutation (given call request reply ∷ []) (s.used ++ s.unused) s.among, length-append s.used s.unused, first, second);
  steps = λ w answers s. omega (arith, s.most);
}
