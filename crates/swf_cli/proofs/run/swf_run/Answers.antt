use Rattle.std.proofs.Common.{◌≡◌, Some}
use Rattle.swf_words.specs.Words.{texts, words_of}
use Rattle.swf_words.proofs.WordLemmas.{words_small}
use Rattle.swf_cli.proofs.run.swf_run.Goals as goal

pub run_session-requires : goal.run_session-requires
run_session-requires g c =
    let is : words_of (texts c.args.words.now) ≡ Some c.in-Ok-Some.words = cc in
    words_small (texts c.args.words.now) c.in-Ok-Some.words is
