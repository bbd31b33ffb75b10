use Rattle.std.proofs.Common.{◌≡◌, drop}
use Rattle.swf_meaning.specs.Raise.{error_named}
use Rattle.swf_rules.proofs.raise.error_named.Given as goal

abbrev pub invariant-loop-named : goal.invariant-loop-named
invariant-loop-named l = error_named l.name (drop l.named-index l.errors) ≡ error_named l.name l.errors
