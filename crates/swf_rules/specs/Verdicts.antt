-- What a verdict of the code stands for.
use Rattle.std.specs.Prelude.{◌≡◌, Result, Ok, Err}
use Rattle.swf_document.specs.declared.error.Problem.{Problem}
use Rattle.swf_meaning.specs.Try.{Verdict, Pass, Again, Handle, Stay, Give}
use Rattle.swf_rules.specs.declared.try_.Verdict.{Verdict as DeclaredVerdict}
use Rattle.swf_rules.specs.declared.try_.Verdict.TheVariants as verdicts
use Rattle.swf_scene.specs.declared.halt.Halt.{Halt}
use Rattle.swf_scene.specs.declared.halt.Halt.TheVariants as halts

abbrev pub verdict_of : DeclaredVerdict → Verdict
verdict_of verdicts.Pass = Pass
verdict_of (verdicts.Again delay) = Again delay
verdict_of verdicts.Handle = Handle
verdict_of verdicts.Stay = Stay
verdict_of verdicts.Give = Give

-- the verdict of a rule
abbrev pub Finds : Result Verdict Problem → Result DeclaredVerdict Halt → Type 0
Finds m (Ok v) = m ≡ Ok (verdict_of v)
Finds m (Err (halts.Fault p)) = m ≡ Err p
Finds m (Err halts.OutOfMemory) = Unit {0}
