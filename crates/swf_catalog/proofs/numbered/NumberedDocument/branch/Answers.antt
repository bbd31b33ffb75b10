use Rattle.std.proofs.Common.{◌∙◌, ◌<◌, ap, sym}
use Rattle.std.specs.Prelude.{is_some}
use Rattle.swf_meaning.specs.Fork.{branches_of}
use Rattle.swf_meaning.specs.Next.{task_at}
use Rattle.swf_catalog.specs.Numbers.{count, numbered, or_nothing}
use Rattle.swf_catalog.specs.TaskRef.{parts_task}
use Rattle.swf_catalog.proofs.TaskLemmas.{task_at-past}
use Rattle.swf_catalog.proofs.NumberLemmas.{within-list}
use Rattle.swf_catalog.proofs.ChildLemmas.{branch-at, branch-there}
use Rattle.swf_catalog.proofs.numbered.NumberedDocument.branch.Goals as goal

pub returns-then-branch-as_slice-clause-task : goal.returns-then-branch-as_slice-clause-task
returns-then-branch-as_slice-clause-task c =
    let i = c.args.branch in
    sym (ap (λ o. task_at (branches_of (or_nothing o)) i) c.parts.ensures ∙ ap (λ ts. task_at ts i) (sym (c.as_slice.ensures ∙ c.in_ok-tasks.ensures)) ∙ task_at-past c.as_slice.result.now i c.if-branch-as_slice.true)

pub number_at-requires : goal.number_at-requires
number_at-requires c =
    let d = c.args.self.now in
    let t = parts_task c.parts.result in
    let i = c.args.branch in
    let within : i < count (branches_of t) = within-list c.as_slice.result.now c.args.branch (branches_of t) (c.as_slice.ensures ∙ c.in_ok-tasks.ensures) c.if-branch-as_slice.false in
    branch-there d c.args.number t c.begins.result i c.parts.ensures c.begins.ensures within

pub returns-clause-task : goal.returns-clause-task
returns-clause-task c =
    let d = c.args.self.now in
    let t = parts_task c.parts.result in
    let i = c.args.branch in
    let within : i < count (branches_of t) = within-list c.as_slice.result.now c.args.branch (branches_of t) (c.as_slice.ensures ∙ c.in_ok-tasks.ensures) c.if-branch-as_slice.false in
    ap (numbered d) c.number_at.ensures ∙ branch-at d c.args.number t c.begins.result i c.parts.ensures c.begins.ensures within
    ∙ ap (λ o. task_at (branches_of (or_nothing o)) i) (sym c.parts.ensures)

pub returns-clause-there : goal.returns-clause-there
returns-clause-there c =
    let d = c.args.self.now in
    let t = parts_task c.parts.result in
    let i = c.args.branch in
    let within : i < count (branches_of t) = within-list c.as_slice.result.now c.args.branch (branches_of t) (c.as_slice.ensures ∙ c.in_ok-tasks.ensures) c.if-branch-as_slice.false in
    ap (λ n. is_some (numbered d n)) c.number_at.ensures ∙ branch-there d c.args.number t c.begins.result i c.parts.ensures c.begins.ensures within
