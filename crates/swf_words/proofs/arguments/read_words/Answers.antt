use Rattle.std.proofs.Common.{◌∙◌, ◌+◌, ap, sym, refl, Ok, drop, arith}
use Rattle.swf_words.specs.Words.{texts}
use Rattle.swf_words.proofs.WordLemmas.{meant_first, meant_next}
use Rattle.swf_words.proofs.arguments.read_words.Goals as goal

pub loop-word-init : goal.loop-word-init
loop-word-init c = meant_first _ (texts c.args.words.now) refl refl refl refl

pub loop-word-preserved : goal.loop-word-preserved
loop-word-preserved c =
    let l = c.loop-word in
    let taken = c.if-not-take_word.ensures in
    l.invariant ∙ meant_next l.progress c.args.words.now l.word-index c.word-item.result c.as_str.result.now (omega arith) c.word-item.is c.as_str.ensures.value ∙ taken (drop (l.word-index + 1) (texts c.args.words.now))

pub returns-then-not-take_word : goal.returns-then-not-take_word
returns-then-not-take_word c =
    let l = c.loop-word in
    let taken = c.if-not-take_word.ensures in
    ap Ok (sym (l.invariant ∙ meant_next l.progress c.args.words.now l.word-index c.word-item.result c.as_str.result.now (omega arith) c.word-item.is c.as_str.ensures.value ∙ taken (drop (l.word-index + 1) (texts c.args.words.now))))
