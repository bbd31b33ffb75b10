use Rattle.std.proofs.Common.{subst}
use Rattle.swf_meaning.specs.declared.label.Label.TheVariants.{Load, Start, Event, Reply, Moment, Step}
use Rattle.swf_world.specs.Prepares.{Prepares}
use Rattle.swf_world.proofs.Checks.{refused_from}
use Rattle.swf_world.proofs.EarlyLemmas.{refusal_early}
use Rattle.swf_world.proofs.world.World.prepare.Goals as goal

pub returns-in-Load-clause-refused : goal.returns-in-Load-clause-refused
returns-in-Load-clause-refused c = refused_from c.make_room.new.self.world c.args.self.now.world (Load c.in-Load.value) c.args.label.now c.prepare_load.result c.make_room.ensures.same c.in-Load.is c.prepare_load.ensures

pub returns-in-Start-clause-refused : goal.returns-in-Start-clause-refused
returns-in-Start-clause-refused c =
    refused_from c.make_room.new.self.world c.args.self.now.world (Start c.in-Start.id c.in-Start.key c.in-Start.input) c.args.label.now c.prepare_start.result c.make_room.ensures.same c.in-Start.is c.prepare_start.ensures

pub returns-in-Step-clause-refused : goal.returns-in-Step-clause-refused
returns-in-Step-clause-refused c =
    refused_from c.make_room.new.self.world c.args.self.now.world (Step c.in-Step.id c.in-Step.strand) c.args.label.now c.prepare_step.result c.make_room.ensures.same c.in-Step.is c.prepare_step.ensures

pub returns-in-Load-clause-early : goal.returns-in-Load-clause-early
returns-in-Load-clause-early c = λ r is.
    let w = c.make_room.new.self.world in
    let label = Load c.in-Load.value in
    refusal_early w label r c.make_room.ensures.early (subst (Prepares w label) is c.prepare_load.ensures)

pub returns-in-Start-clause-early : goal.returns-in-Start-clause-early
returns-in-Start-clause-early c = λ r is.
    let w = c.make_room.new.self.world in
    let label = Start c.in-Start.id c.in-Start.key c.in-Start.input in
    refusal_early w label r c.make_room.ensures.early (subst (Prepares w label) is c.prepare_start.ensures)

pub returns-in-Moment-clause-refused : goal.returns-in-Moment-clause-refused
returns-in-Moment-clause-refused c =
    refused_from c.make_room.new.self.world c.args.self.now.world (Moment c.in-Moment.moment) c.args.label.now c.prepare_moment.result c.make_room.ensures.same c.in-Moment.is c.prepare_moment.ensures

pub returns-in-Moment-clause-early : goal.returns-in-Moment-clause-early
returns-in-Moment-clause-early c = λ r is.
    let w = c.make_room.new.self.world in
    let label = Moment c.in-Moment.moment in
    refusal_early w label r c.make_room.ensures.early (subst (Prepares w label) is c.prepare_moment.ensures)

pub returns-in-Event-clause-refused : goal.returns-in-Event-clause-refused
returns-in-Event-clause-refused c =
    refused_from c.make_room.new.self.world c.args.self.now.world (Event c.in-Event.event) c.args.label.now c.prepare_event.result c.make_room.ensures.same c.in-Event.is c.prepare_event.ensures

pub returns-in-Event-clause-early : goal.returns-in-Event-clause-early
returns-in-Event-clause-early c = λ r is.
    let w = c.make_room.new.self.world in
    let label = Event c.in-Event.event in
    refusal_early w label r c.make_room.ensures.early (subst (Prepares w label) is c.prepare_event.ensures)

pub returns-in-Reply-clause-refused : goal.returns-in-Reply-clause-refused
returns-in-Reply-clause-refused c =
    refused_from c.make_room.new.self.world c.args.self.now.world (Reply c.in-Reply.activity c.in-Reply.reply) c.args.label.now c.prepare_reply.result c.make_room.ensures.same c.in-Reply.is c.prepare_reply.ensures

pub returns-in-Reply-clause-early : goal.returns-in-Reply-clause-early
returns-in-Reply-clause-early c = λ r is.
    let w = c.make_room.new.self.world in
    let label = Reply c.in-Reply.activity c.in-Reply.reply in
    refusal_early w label r c.make_room.ensures.early (subst (Prepares w label) is c.prepare_reply.ensures)
