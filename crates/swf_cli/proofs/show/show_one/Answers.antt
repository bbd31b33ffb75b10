use Rattle.std.proofs.Common.{subst, Result}
use Rattle.swf_meaning.specs.declared.label.Answer.{Answer}
use Rattle.swf_meaning.specs.declared.label.Query.TheVariants.{Status}
use Rattle.swf_world.specs.Answers.{answer}
use Rattle.swf_world.specs.declared.query.QueryFault.{QueryFault}
use Rattle.swf_engine.specs.declared.fault.EngineFault.{EngineFault}
use Rattle.swf_engine.specs.Retelling.{AnswersQuery}
use Rattle.swf_protocol.specs.Spoken.{spoken}
use Rattle.swf_turns.specs.Steps.{Says}
use Rattle.swf_turns.specs.Turns.{query_reply}
use Rattle.swf_turns.specs.declared.saying.After.TheVariants.{GoesOn}
use Rattle.swf_cli.proofs.ShowLemmas.{status_said}
use Rattle.swf_cli.proofs.show.show_one.Goals as goal

pub returns-clause-says : goal.returns-clause-says
returns-clause-says g c = λ labels.
    let H = g.H.Store in
    let w = c.query.ensures.of_world tt in
    let known = subst (λ (r : Result (Result Answer QueryFault) EngineFault). AnswersQuery labels c.args.engine.now.world (Status c.args.id) r) c.in-Ok.is (w.2 labels) in
    subst (λ (s : g.row.H.Denot). Says H.moment H.left_since H.said H.may_leave H.seen g.H.Host.taken s c.say_status.new.host 0 (spoken (query_reply (answer labels c.args.engine.now.world (Status c.args.id)))) GoesOn c.say_status.result) w.0
    (c.say_status.ensures.says (spoken (query_reply (answer labels c.args.engine.now.world (Status c.args.id))))
    (status_said labels c.args.engine.now.world c.args.id c.in-Ok.answer c.queried.result c.queried.ensures.reply known))
