use Rattle.std.proofs.Common.{◌≡◌, ◌∙◌, ap, sym, refl, Bool, Some, None, Option, option_map}
use Rattle.swf_words.specs.declared.arguments.Setting.TheVariants.{Calls}
use Rattle.swf_words.specs.Words.{Settings, calls_of, once}
use Rattle.swf_words.proofs.WordLemmas.{value_refused, value_set, once_twice, once_first}
use Rattle.swf_words.proofs.arguments.take_calls.Goals as goal

pub returns-then-is_some : goal.returns-then-is_some
returns-then-is_some c = λ a.
    let old = c.args.progress.now in
    let settings : Settings = record { steps = old.steps; http = old.http } in
    value_refused settings old.mode (Calls, c.args.word.now) a (ap (option_map (λ (n : Bool). record settings { http = Some n })) (once_twice old.http (calls_of c.args.word.now) (sym c.is_some.ensures ∙ c.if-is_some.true)))

pub returns-in-Some : goal.returns-in-Some
returns-in-Some c =
    let old = c.args.progress.now in
    let settings : Settings = record { steps = old.steps; http = old.http } in
    let is : calls_of c.args.word.now ≡ Some c.in-Some.http = cc in
    let first = once_first old.http (calls_of c.args.word.now) (sym c.is_some.ensures ∙ c.if-is_some.false) ∙ is in
    (refl, (λ a. value_set settings old.mode (Calls, c.args.word.now) (Some (record settings { http = Some c.in-Some.http })) a (ap (option_map (λ (n : Bool). record settings { http = Some n })) first)))

pub returns-in-None : goal.returns-in-None
returns-in-None c = λ a.
    let old = c.args.progress.now in
    let settings : Settings = record { steps = old.steps; http = old.http } in
    let is : calls_of c.args.word.now ≡ None = cc in
    value_refused settings old.mode (Calls, c.args.word.now) a (ap (option_map (λ (n : Bool). record settings { http = Some n })) (once_first old.http (calls_of c.args.word.now) (sym c.is_some.ensures ∙ c.if-is_some.false) ∙ is))
