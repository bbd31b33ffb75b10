-- The branches with which a `fork` begins.
use Rattle.std.proofs.Common.{◌≡◌, List, [], ◌∷◌, length, false, Ok, refl, ap, sym, arith}
use Rattle.std.specs.Prelude.{◌==◌, Result}
use Rattle.swf_value.specs.Value.{Value}
use Rattle.swf_document.specs.Task.{Tasks}
use Rattle.swf_document.specs.TaskNode.{tasks_of}
use Rattle.swf_document.specs.declared.error.Problem.{Problem}
use Rattle.swf_document.specs.declared.tasks.Named.{Named}
use Rattle.swf_meaning.specs.Complete.{Stepped, becomes}
use Rattle.swf_meaning.specs.Fork.{branches_of, count, fresh, split}
use Rattle.swf_meaning.specs.Line.{Line}
use Rattle.swf_meaning.specs.Node.{Live, Forked, Running}

-- as many branches as tasks
pub count_fresh : (ns : List Named) (u : Value) → count (fresh (tasks_of ns) u) ≡ length ns
count_fresh [] u = refl
count_fresh (n ∷ ns) u = omega (arith, count_fresh ns u)

abbrev begins : Line → Running → Tasks → Result Stepped Problem
begins l r ts = Ok (becomes l (Live r (Forked (fresh ts r.input))))

-- some of them
pub split-some : (l : Line) (r : Running) (ns : List Named) → (length ns == 0) ≡ false → branches_of r.task ≡ tasks_of ns → split l r (fresh (tasks_of ns) r.input) ≡ begins l r (branches_of r.task)
split-some l r [] some e = cc
split-some l r (n ∷ ns) some e = ap (begins l r) (sym e)
