use Rattle.std.proofs.Common.{◌≡◌, take}
use Rattle.swf_offers.proofs.hear.with_heard.Given as goal

-- what was heard up to here
abbrev pub invariant-loop-earlier : goal.invariant-loop-earlier
invariant-loop-earlier l = l.copies.items ≡ take l.earlier-index l.heard
