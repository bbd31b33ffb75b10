use Rattle.std.proofs.Common.{◌∙◌, ap, sym, inr, List, ℕ, Ok, Err, option_map}
use Rattle.swf_calls.specs.Reply.{reply_of}
use Rattle.swf_meaning.specs.declared.label.Label.{Label}
use Rattle.swf_meaning.specs.declared.label.Label.TheVariants.{Reply}
use Rattle.swf_value.specs.Value.{Value}
use Rattle.swf_record.specs.Decodes.{Reading, ◌>>=◌, meant, text_in, value_in, reply_in}
use Rattle.swf_record.proofs.Read.{passed_on, read, then_tells}
use Rattle.swf_record.proofs.decode.read_answered.Goals as goal

abbrev with_value : List ℕ × List ℕ → Value × List ℕ → Reading Label
with_value a v = meant a.1 v.1 (option_map (Reply a.0) (reply_of v.0))

abbrev with_activity : List ℕ × List ℕ → Reading Label
with_activity a = value_in 65 a.1 >>= with_value a

pub returns-in_err-activity : goal.returns-in_err-activity
unfolding reply_in
returns-in_err-activity c =
    passed_on (λ t. t) (λ l. l) c.from_residual.result c.in_err-activity.field-0.0 c.text.new.self.rest.now (text_in c.args.reader.now.rest.now) with_activity c.from_residual.ensures.1 c.in_err-activity.ensures

pub returns-in_err-value : goal.returns-in_err-value
unfolding reply_in
returns-in_err-value c =
    let rest = c.args.reader.now.rest.now in
    let activity = c.in_ok-activity.activity in
    let field = c.text.new.self.rest.now in
    let result = c.from_residual-in_err-value.result in
    let left = c.value.new.self.rest.now in
    then_tells (λ l. l) result left (text_in rest) (activity, field) with_activity (read (λ t. t) activity field (text_in rest) c.in_ok-activity.ensures)
    (passed_on (λ v. v) (λ l. l) result c.in_err-value.field-0.0 left (value_in 65 field) (with_value (activity, field)) c.from_residual-in_err-value.ensures.1 c.in_err-value.ensures)

pub returns-in-Some : goal.returns-in-Some
unfolding reply_in
returns-in-Some c =
    let rest = c.args.reader.now.rest.now in
    let activity = c.in_ok-activity.activity in
    let field = c.text.new.self.rest.now in
    let value = c.in_ok-value.value in
    let behind = c.value.new.self.rest.now in
    let result = Ok (Reply activity c.in-Some.reply) in
    then_tells (λ l. l) result behind (text_in rest) (activity, field) with_activity (read (λ t. t) activity field (text_in rest) c.in_ok-activity.ensures)
    (then_tells (λ l. l) result behind (value_in 65 field) (value, behind) (with_value (activity, field)) (read (λ v. v) value behind (value_in 65 field) c.in_ok-value.ensures)
    (inr (ap (λ o. meant field behind (option_map (Reply activity) o)) (sym c.in-Some.is ∙ c.in_ok-reply.ensures))))

pub returns-in-None : goal.returns-in-None
unfolding reply_in
returns-in-None c =
    let rest = c.args.reader.now.rest.now in
    let activity = c.in_ok-activity.activity in
    let field = c.text.new.self.rest.now in
    let value = c.in_ok-value.value in
    let behind = c.value.new.self.rest.now in
    then_tells (λ l. l) (Err _) field (text_in rest) (activity, field) with_activity (read (λ t. t) activity field (text_in rest) c.in_ok-activity.ensures)
    (then_tells (λ l. l) (Err _) field (value_in 65 field) (value, behind) (with_value (activity, field)) (read (λ v. v) value behind (value_in 65 field) c.in_ok-value.ensures)
    (inr (ap (λ o. meant field behind (option_map (Reply activity) o)) (sym c.in-None.is ∙ c.in_ok-reply.ensures))))
