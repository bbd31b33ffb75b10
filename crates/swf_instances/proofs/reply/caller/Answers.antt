use Rattle.std.proofs.Common.{◌∙◌, ap, sym, Some}
use Rattle.swf_meaning.specs.Reply.{before_last}
use Rattle.swf_instances.proofs.CallerLemmas.{none_before, split_before}
use Rattle.swf_instances.proofs.reply.caller.Goals as goal

pub returns-in_ok-copy_of-in-Some : goal.returns-in_ok-copy_of-in-Some
returns-in_ok-copy_of-in-Some c =
    let bs = c.as_str.result.now in
    let s = c.in-Some.ensures.cases in
    ap (λ t. Some t) c.in_ok-copy_of-in-Some.ensures ∙ sym (split_before bs c.in-Some.id.now c.in-Some.field-0-1.now s.0 s.1 c.as_str.utf8 s.2 s.3 s.4) ∙ ap (before_last 47) c.as_str.ensures.chars

pub returns-in-None : goal.returns-in-None
returns-in-None c = sym (none_before c.as_str.result.now c.as_str.utf8 c.in-None.ensures.cases) ∙ ap (before_last 47) c.as_str.ensures.chars
