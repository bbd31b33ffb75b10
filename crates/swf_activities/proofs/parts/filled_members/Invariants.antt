use Rattle.std.proofs.Common.{◌≡◌, drop}
use Rattle.swf_value.specs.Value.{no_members}
use Rattle.swf_meaning.specs.Call.{filled_members}
use Rattle.swf_meaning.specs.Line.{within}
use Rattle.swf_rule.specs.Rules.{line_in}
use Rattle.swf_activities.proofs.parts.filled_members.Given as goal

-- the other fields decide
abbrev pub invariant-loop-field : goal.invariant-loop-field
invariant-loop-field l =
    let r = l.rule.running.now in
    filled_members r.task (within (line_in l.rule) r) r.input (drop l.field-index l.fields) l.members ≡ filled_members r.task (within (line_in l.rule) r) r.input l.fields no_members
