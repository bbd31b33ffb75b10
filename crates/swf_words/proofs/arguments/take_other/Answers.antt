use Rattle.std.proofs.Common.{◌∙◌, sym, refl}
use Rattle.swf_words.specs.Arguments.{settings_of}
use Rattle.swf_words.proofs.WordLemmas.{other_twice_in, other_taken_in, other_refused_in}
use Rattle.swf_words.proofs.arguments.take_other.Goals as goal

pub returns-then-is_some : goal.returns-then-is_some
returns-then-is_some c = λ a. other_twice_in (settings_of c.args.progress.now) c.args.progress.now.mode c.args.word.now a (sym c.is_some.ensures ∙ c.if-is_some.true)

pub returns-in-Some : goal.returns-in-Some
returns-in-Some c =
    (refl, (λ a. other_taken_in (settings_of c.args.progress.now) c.args.progress.now.mode c.args.word.now c.in-Some.mode a (sym c.is_some.ensures ∙ c.if-is_some.false) (sym c.mode_named.ensures ∙ c.in-Some.is)))

pub returns-in-None : goal.returns-in-None
returns-in-None c = λ a. other_refused_in (settings_of c.args.progress.now) c.args.progress.now.mode c.args.word.now a (sym c.is_some.ensures ∙ c.if-is_some.false) (sym c.mode_named.ensures ∙ c.in-None.is)
