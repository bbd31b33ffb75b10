-- The variables that expressions see.
use Rattle.std.specs.Prelude.{List}
use Rattle.swf_evaluation.specs.declared.vars.Variable.{Variable}
use Rattle.swf_scene.specs.declared.sight.Sight.{Sight}
use Rattle.swf_scene.specs.declared.sight.Sight.TheVariants as sights

-- whether made before or now
abbrev pub vars_of : Sight → List Variable
vars_of (sights.Lent v) = v.now
vars_of (sights.Made v) = v
