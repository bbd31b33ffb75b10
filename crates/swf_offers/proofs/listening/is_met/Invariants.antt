use Rattle.std.proofs.Common.{◌≡◌, drop}
use Rattle.swf_meaning.specs.Listen.{is_met}
use Rattle.swf_offers.proofs.listening.is_met.Given as goal

-- those from this one on decide
abbrev pub invariant-loop-one : goal.invariant-loop-one
invariant-loop-one l = is_met l.place l.heard ≡ is_met l.place (drop l.one-index l.heard)
