use Rattle.std.proofs.Common.{◌≡◌, drop}
use Rattle.swf_value.specs.Node.{members_of}
use Rattle.swf_shapes.specs.Layout.{seen_in}
use Rattle.swf_shapes.specs.declared.layout.Seen.TheVariants.{Nothing}
use Rattle.swf_shapes.proofs.layout.seen_in.Given as goal

-- what the members that are left add decides
abbrev pub invariant-loop-member : goal.invariant-loop-member
invariant-loop-member l = seen_in l.beside_for Nothing (members_of l.members) ≡ seen_in l.beside_for l.seen (members_of (drop l.member-index l.members))
