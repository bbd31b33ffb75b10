use Rattle.std.proofs.Common.{◌≡◌, drop}
use Rattle.swf_value.specs.Node.{members_of}
use Rattle.swf_templates.specs.Uris.{query_text}
use Rattle.swf_transform.proofs.Joined.{behind}
use Rattle.swf_transform.proofs.uris.query_text.Given as goal

abbrev pub invariant-loop-member : goal.invariant-loop-member
invariant-loop-member l = behind l.out (query_text l.later (members_of (drop l.member-index l.query))) ≡ query_text l.fn.later (members_of l.query)
