-- A talk as it is kept, and the last of talks.
use Rattle.std.specs.Prelude.{List, [], ◌∷◌, Option, Some, None, string_bytes, reverse}
use Rattle.swf_connect.specs.declared.talks.Spoken.{Spoken}
use Rattle.swf_connect.specs.Talks.{Talk}

abbrev pub talk_of : Spoken → Talk
talk_of s = record {
  about = record { host = string_bytes s.host; port = s.port; bytes = s.bytes.items };
  written = s.written.items;
}

abbrev pub first_of : List Talk → Option Talk
first_of [] = None
first_of (talk ∷ talks) = Some talk

abbrev pub last_of : List Talk → Option Talk
last_of talks = first_of (reverse talks)
