use Rattle.std.proofs.Common.{◌∙◌, ap}
use Rattle.std.specs.List.{list_any}
use Rattle.swf_queue.specs.Alarms.{is_by}
use Rattle.swf_queue.proofs.AlarmLemmas.{top_any}
use Rattle.swf_queue.proofs.alarms.Alarms.is_over.Goals as goal

pub returns : goal.returns
returns c =
    c.is_by.ensures ∙ ap (is_by c.args.moment) c.node.ensures
    ∙ rw (c.deref.ensures.value, c.deref-2.ensures.value)
    (top_any c.args.moment c.self.inside.inner.items c.self.inside.alarms.items c.self.invariant ∙ ap (λ a. list_any (is_by c.args.moment) a.moments) c.self.view_is)
