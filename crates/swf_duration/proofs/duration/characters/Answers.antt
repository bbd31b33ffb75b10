use Rattle.std.proofs.lemmas.Iterator.{items_from_collect, YieldsList-from_chars}
use Rattle.swf_duration.proofs.duration.characters.Goals as goal

pub returns : goal.returns
returns c =
    rw c.as_str.ensures.chars at (items_from_collect c.collect.result c.collect.ensures.ran
    (YieldsList-from_chars c.as_str.result.now c.as_str.utf8 c.chars.ensures.rest))
