use Rattle.std.proofs.Common.{◌≡◌, drop}
use Rattle.swf_meaning.specs.Try.{retry_named}
use Rattle.swf_rules.proofs.try_.retry_named.Given as goal

abbrev pub invariant-loop-named : goal.invariant-loop-named
invariant-loop-named l = retry_named l.name (drop l.named-index l.retries) ≡ retry_named l.name l.retries
