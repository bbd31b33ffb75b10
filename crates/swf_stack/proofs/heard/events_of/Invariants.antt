use Rattle.std.proofs.Common.{◌≡◌, map, take}
use Rattle.swf_meaning.specs.Listen.{read_as}
use Rattle.swf_meaning.specs.declared.heard.Heard.{Heard}
use Rattle.swf_stack.proofs.heard.events_of.Given as goal

-- the events so far
abbrev pub invariant-loop-one : goal.invariant-loop-one
invariant-loop-one l = l.events.items ≡ map (λ (h : Heard). read_as l.spec.envelope h.event) (take l.one-index l.heard)
