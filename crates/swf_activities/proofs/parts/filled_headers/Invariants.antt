use Rattle.std.proofs.Common.{◌≡◌, [], drop}
use Rattle.swf_meaning.specs.Call.{headers_by}
use Rattle.swf_meaning.specs.Line.{within}
use Rattle.swf_rule.specs.Rules.{line_in}
use Rattle.swf_activities.proofs.parts.filled_headers.Given as goal

-- the other fields decide
abbrev pub invariant-loop-field : goal.invariant-loop-field
invariant-loop-field l =
    let r = l.rule.running.now in
    headers_by r.task (within (line_in l.rule) r) r.input (drop l.field-index l.fields) l.headers ≡ headers_by r.task (within (line_in l.rule) r) r.input l.fields []
