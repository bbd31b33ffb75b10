use Rattle.std.proofs.Common.{sym, ◌∙◌, refl}
use Rattle.swf_http.proofs.TargetLemmas.{runs_to_target, ends_in_target-tells}
use Rattle.swf_http.proofs.target.ends_in_target.Goals as goal

pub returns-in-Target : goal.returns-in-Target
returns-in-Target c = (λ _. ends_in_target-tells c.args.bytes.now (sym c.in-Target.ensures), λ _. refl)

pub returns-in_default : goal.returns-in_default
returns-in_default c =
    (λ none. cc, λ ends. absurd (c.in_default.not-Target (c.place_of.ensures ∙ runs_to_target c.args.bytes.now ends)))
