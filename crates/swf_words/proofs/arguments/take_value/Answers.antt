use Rattle.std.proofs.Common.{sym, ap, subst}
use Rattle.swf_words.specs.declared.arguments.Setting.{Setting}
use Rattle.swf_words.specs.Arguments.{TakesValue}
use Rattle.swf_words.specs.Words.{Settings, with_setting}
use Rattle.swf_words.proofs.WordLemmas.{value_refused}
use Rattle.swf_words.proofs.arguments.take_value.Goals as goal

pub returns-in-Steps : goal.returns-in-Steps
returns-in-Steps c = subst (λ (o : Setting). TakesValue c.take_steps.result c.args.progress.now (o, c.args.word.now) c.take_steps.new.progress) (sym c.in-Steps.is) c.take_steps.ensures

pub returns-in-Calls : goal.returns-in-Calls
returns-in-Calls c = subst (λ (o : Setting). TakesValue c.take_calls.result c.args.progress.now (o, c.args.word.now) c.take_calls.new.progress) (sym c.in-Calls.is) c.take_calls.ensures

pub returns-in-Workers : goal.returns-in-Workers
returns-in-Workers c = λ a.
    let old = c.args.progress.now in
    let settings : Settings = record { steps = old.steps; http = old.http } in
    value_refused settings old.mode (c.args.setting, c.args.word.now) a (ap (λ (o : Setting). with_setting settings (o, c.args.word.now)) c.in-Workers.is)
