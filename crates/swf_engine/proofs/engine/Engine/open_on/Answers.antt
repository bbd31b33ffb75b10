use Rattle.std.proofs.Common.{◌∙◌, subst}
use Rattle.swf_store.specs.Disk.{Only}
use Rattle.swf_journal.specs.Frames.{header}
use Rattle.swf_journal.specs.Opening.{opened, begun}
use Rattle.swf_journal.proofs.OpenLemmas.{looks_untouched}
use Rattle.swf_meaning.specs.World.{World}
use Rattle.swf_engine.specs.Reading.{ReadsAll}
use Rattle.swf_engine.proofs.EngineCallLemmas.{opened_calls, not_opened_calls}
use Rattle.swf_engine.proofs.OpenLemmas.{all_damaged, all_opened, opens_on, opens_short, failed_damage}
use Rattle.swf_engine.proofs.engine.Engine.open_on.Goals as goal

pub returns-in-Ok-clause-opened : goal.returns-in-Ok-clause-opened
returns-in-Ok-clause-opened g c = λ image seen.
    let S = g.S.Store in
    let mid = c.in-Ok.ensures.opened image seen in
    let all = subst (λ (w : World). ReadsAll (begun image.journal) header w c.read_all.result) c.new.ensures (c.read_all.ensures.reads (opened image) mid header (c.in-Ok.ensures.reading image seen)) in
    let durable : Only (opened image) (S.may_leave c.read_all.new.store) = λ other may. c.in-Ok.ensures.durable image seen other (c.read_all.ensures.stop other may) in
    all_opened S.moment S.left_since S.said S.may_leave S.seen image c.read_all.new.store c.read_all.result (c.read_all.ensures.seen ∙ mid) durable all

pub returns-in-Ok-clause-any_moment : goal.returns-in-Ok-clause-any_moment
returns-in-Ok-clause-any_moment g c = λ image seen history h.
    let S = g.S.Store in
    opens_on S.moment S.left_since S.said S.may_leave S.seen c.args.store.now c.begin.new.store c.read_all.new.store image history h c.begin.ensures.said (c.begin.ensures.any_moment image seen) (c.in-Ok.ensures.durable image seen)
    c.read_all.ensures.any_moment

pub returns-in-Ok-clause-damaged : goal.returns-in-Ok-clause-damaged
returns-in-Ok-clause-damaged g c = λ image seen at is.
    let mid = c.in-Ok.ensures.opened image seen in
    all_damaged image c.read_all.result at (subst (λ (w : World). ReadsAll (begun image.journal) header w c.read_all.result) c.new.ensures (c.read_all.ensures.reads (opened image) mid header (c.in-Ok.ensures.reading image seen))) is

pub returns-in-Err-clause-any_moment : goal.returns-in-Err-clause-any_moment
returns-in-Err-clause-any_moment g c = λ image seen history h.
    let S = g.S.Store in
    opens_short S.moment S.left_since S.said S.may_leave S.seen c.args.store.now c.begin.new.store image history h (c.begin.ensures.any_moment image seen)

pub returns-in-Err-clause-damaged : goal.returns-in-Err-clause-damaged
returns-in-Err-clause-damaged g c = λ image seen at is. failed_damage image c.in-Err.fault c.from.result at c.from.ensures is (c.in-Err.ensures.damaged image seen)

pub returns-in-Ok-clause-untouched : goal.returns-in-Ok-clause-untouched
returns-in-Ok-clause-untouched g c = λ image seen long.
    let S = g.S.Store in
    let one = c.begin.ensures.untouched image seen long in
    let two = c.read_all.ensures in
    looks_untouched S.moment S.left_since S.said S.may_leave S.seen c.args.store.now c.begin.new.store c.read_all.new.store c.begin.ensures.said one.same one.stop one.any_moment two.seen two.stop two.any_moment

pub returns-in-Ok-clause-calls : goal.returns-in-Ok-clause-calls
returns-in-Ok-clause-calls g c =
    let S = g.S.Store in
    opened_calls (S.calls c.args.store.now) (S.calls c.begin.new.store) (S.calls c.read_all.new.store) c.in-Ok.reading c.read_all.result c.in-Ok.ensures.gate c.in-Ok.ensures.calls c.read_all.ensures.all_read c.read_all.ensures.begun

pub returns-in-Err-clause-calls : goal.returns-in-Err-clause-calls
returns-in-Err-clause-calls g c = not_opened_calls _ _ c.in-Err.fault c.from.result c.in-Err.ensures.calls
