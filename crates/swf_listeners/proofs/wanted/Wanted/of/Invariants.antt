use Rattle.std.proofs.Common.{◌≡◌, fold, drop}
use Rattle.swf_listeners.specs.Wanted.{with_listen, wanted_of}
use Rattle.swf_listeners.proofs.wanted.Wanted.of.Given as goal

-- the listens that are left
abbrev pub invariant-loop-listen : goal.invariant-loop-listen
invariant-loop-listen l = fold with_listen l.wanted (drop l.listen-index l.listens) ≡ wanted_of l.listens
