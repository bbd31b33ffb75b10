use Rattle.std.proofs.Common.{◌∙◌, ap, sym, List}
use Rattle.std.proofs.lemmas.List.{drop_all}
use Rattle.swf_value.proofs.Writing.{first_of_rest}
use Rattle.swf_value.specs.Node.{members_of}
use Rattle.swf_value.specs.declared.value.Member.{Member}
use Rattle.swf_reader.specs.Reads.{functions_in}
use Rattle.swf_reader.proofs.TaskLemmas.{before_tasks, functions_step, tasks_all}
use Rattle.swf_reader.proofs.task.functions_in.Goals as goal

pub loop-member-preserved : goal.loop-member-preserved
loop-member-preserved c =
    let ms = c.args.members.now in
    let i = c.loop-member.member-index in
    let m = c.member-item.result in
    functions_step c.args.place.now ms i m c.loop-member.functions.items c.push.new.self.items c.in_ok-function.function _ (first_of_rest ms i m c.loop-member-test.true c.member-item.is)
    (λ j. (c.in_ok-function.ensures.name j, c.in_ok-function.ensures.task j)) c.in_ok-push.ensures.items c.loop-member.invariant

pub returns : goal.returns
returns c =
    let p = c.args.place.now in
    let fs = c.loop-member.functions.items in
    sym (c.loop-member.invariant ∙ ap (λ (l : List Member). before_tasks fs (functions_in p (members_of l))) (drop_all c.loop-member.member-index c.args.members.now c.loop-member-test.false) ∙ tasks_all fs)
