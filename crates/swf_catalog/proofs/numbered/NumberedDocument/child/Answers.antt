use Rattle.std.proofs.Common.{◌∙◌, ◌+◌, ◌<◌, ap, sym}
use Rattle.std.specs.Prelude.{is_some}
use Rattle.swf_meaning.specs.Lists.{list_of}
use Rattle.swf_meaning.specs.Next.{task_at}
use Rattle.swf_catalog.specs.Numbers.{count, numbered, or_nothing}
use Rattle.swf_catalog.specs.Rounds.{round_of}
use Rattle.swf_catalog.specs.TaskRef.{parts_task}
use Rattle.swf_catalog.proofs.TaskLemmas.{task_at-past}
use Rattle.swf_catalog.proofs.NumberLemmas.{within-list}
use Rattle.swf_catalog.proofs.ChildLemmas.{child-at, child-there}
use Rattle.swf_catalog.proofs.numbered.NumberedDocument.child.Goals as goal

pub returns-then-place-as_slice-clause-task : goal.returns-then-place-as_slice-clause-task
returns-then-place-as_slice-clause-task c =
    let i = c.args.place in
    let r = round_of c.args.round.now in
    sym (ap (λ o. task_at (list_of (or_nothing o) r) i) c.parts.ensures ∙ ap (λ ts. task_at ts i) (sym (c.as_slice.ensures ∙ c.in_ok-tasks.ensures)) ∙ task_at-past c.as_slice.result.now i c.if-place-as_slice.true)

pub number_at-requires : goal.number_at-requires
number_at-requires c =
    let d = c.args.self.now in
    let t = parts_task c.parts.result in
    let i = c.args.place in
    let r = round_of c.args.round.now in
    let within : i < count (list_of t r) = within-list c.as_slice.result.now c.args.place (list_of t r) (c.as_slice.ensures ∙ c.in_ok-tasks.ensures) c.if-place-as_slice.false in
    ap (λ n. is_some (numbered d (n + i))) c.begin_of.ensures ∙ child-there d c.args.number t c.begins.result r i c.parts.ensures c.begins.ensures within

pub returns-clause-task : goal.returns-clause-task
returns-clause-task c =
    let d = c.args.self.now in
    let t = parts_task c.parts.result in
    let i = c.args.place in
    let r = round_of c.args.round.now in
    let within : i < count (list_of t r) = within-list c.as_slice.result.now c.args.place (list_of t r) (c.as_slice.ensures ∙ c.in_ok-tasks.ensures) c.if-place-as_slice.false in
    ap (numbered d) c.number_at.ensures ∙ ap (λ n. numbered d (n + i)) c.begin_of.ensures ∙ child-at d c.args.number t c.begins.result r i c.parts.ensures c.begins.ensures within
    ∙ ap (λ o. task_at (list_of (or_nothing o) r) i) (sym c.parts.ensures)

pub returns-clause-there : goal.returns-clause-there
returns-clause-there c =
    let d = c.args.self.now in
    let t = parts_task c.parts.result in
    let i = c.args.place in
    let r = round_of c.args.round.now in
    let within : i < count (list_of t r) = within-list c.as_slice.result.now c.args.place (list_of t r) (c.as_slice.ensures ∙ c.in_ok-tasks.ensures) c.if-place-as_slice.false in
    ap (λ n. is_some (numbered d n)) c.number_at.ensures ∙ ap (λ n. is_some (numbered d (n + i))) c.begin_of.ensures ∙ child-there d c.args.number t c.begins.result r i c.parts.ensures c.begins.ensures within
