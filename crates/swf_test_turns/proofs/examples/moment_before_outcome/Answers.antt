use Rattle.std.proofs.Common.{◌≡◌, ⊎_elim, refl, subst, inl, [], ◌∷◌, Some, Option, Result}
use Rattle.std.specs.Prelude.{codes}
use Rattle.swf_meaning.specs.declared.label.Label.TheVariants.{Moment}
use Rattle.swf_protocol.specs.declared.command.Command.{Command}
use Rattle.swf_protocol.specs.declared.command.CommandFault.{CommandFault}
use Rattle.swf_protocol.specs.declared.reply.Reply.TheVariants.{Reached}
use Rattle.swf_turns.specs.Turns.{AskTurn}
use Rattle.swf_test_turns.specs.Bell.{read}
use Rattle.swf_test_turns.proofs.examples.moment_before_outcome.Goals as goal

pub returns : goal.returns
returns c = record {
  turns = λ words. ((refl, refl), tt, tt, ((read (codes "twelve bytes"), refl, inl (Moment 12 ∷ [], refl, (refl, refl))), tt, tt, ((read (codes "fifteen of them"), refl, inl (refl, refl)), tt, tt, tt)));
  first = λ words t. ⊎_elim (λ behind. let e : Moment 12 ∷ [] ≡ Moment 9 ∷ behind.0 = behind.1 in cc) (λ none. cc) (subst (λ (r : Option (Result Command CommandFault)). AskTurn words (Some 9) [] [] r (Moment 12 ∷ []) (Reached 0)) t.3.0.1 t.3.0.2);
}
