use Rattle.std.proofs.Common.{◌≡◌, drop}
use Rattle.swf_meaning.specs.Listen.{taken_from}
use Rattle.swf_offers.proofs.listening.takes.Given as goal

-- no filter before this one takes the event
abbrev pub invariant-loop-place : goal.invariant-loop-place
invariant-loop-place l = taken_from 0 l.filters l.bound l.heard l.offer ≡ taken_from l.place (drop l.place l.filters) l.bound l.heard l.offer
