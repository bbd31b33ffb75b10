-- The talks that a list which begins with the last of them holds, in order.
use Rattle.std.specs.Prelude.{List, [], ◌∷◌, ◌++◌}
use Rattle.swf_connect.specs.declared.talks.Last.{Last}
use Rattle.swf_connect.specs.declared.talks.Last.TheVariants.{None as NoTalk, One}
use Rattle.swf_connect.specs.Spoken.{talk_of}
use Rattle.swf_connect.specs.Talks.{Talk}

abbrev pub talks_in : Last → List Talk
talks_in NoTalk = []
talks_in (One told) = told.value.before ++ talk_of told.value.talk ∷ []
