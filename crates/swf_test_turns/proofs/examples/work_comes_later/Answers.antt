use Rattle.std.proofs.Common.{refl, inl, [], arith}
use Rattle.std.specs.Prelude.{codes}
use Rattle.std.proofs.lemmas.List.Sorted.{IsPermutation-refl}
use Rattle.swf_test_turns.specs.Bell.{read}
use Rattle.swf_test_turns.proofs.examples.work_comes_later.Goals as goal

pub returns : goal.returns
returns c = record {
  turn = λ words a b. (
    (
      read (codes "go"),
      refl,
      inl (record {
        settling = record { used = []; unused = []; among = IsPermutation-refl []; taken = ([], refl, ([], refl, refl)); most = omega arith };
        enough = λ e. refl;
        told = refl;
      }),
    ),
    (refl, (refl, (refl, tt))),
    tt,
    tt,
  );
  early = λ words a t. t.0;
}
