-- The scope that a `Scope` stands for.
use Rattle.swf_document.specs.Task.{Catch}
use Rattle.swf_document.specs.declared.tasks.TrySpec.{TrySpec}
use Rattle.swf_scope.specs.Scope.{Known, Scope}
use Rattle.swf_scope.specs.NamesView.{places_in}
use Rattle.swf_scope.specs.VariablesView.{names_in}
use Rattle.swf_scope.specs.declared.scope.Known.{Known as KnownNames}
use Rattle.swf_scope.specs.declared.scope.Scope.{Scope as View}

abbrev pub known_of : KnownNames → Known
known_of k = record { functions = places_in k.functions; errors = places_in k.errors; retries = places_in k.retries }

abbrev pub scope_of : View → Scope
scope_of s = record { known = known_of s.known.now; targets = places_in s.targets.now; in_branch = s.in_branch; around = names_in s.around.now }

-- what a `try` catches
abbrev pub caught_by : TrySpec → Catch
caught_by s = record { errors = s.errors; name = s.name; cond = s.cond; except = s.except; retry = s.retry }
