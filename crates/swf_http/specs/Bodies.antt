-- Bodies of a length, and those that the end of the bytes ends.
use Rattle.std.specs.Prelude.{ℕ, nat_le, List, [], length, take, drop, if◌then◌else◌}
use Rattle.swf_http.specs.Limits.{most_body}
use Rattle.swf_http.specs.Verdicts.{Verdict, whole, ended, long}

-- what bytes say of a body of so many
abbrev pub body_of : ℕ → List ℕ → Verdict (List ℕ)
body_of n bytes = if nat_le n (length bytes) then whole (take n bytes) (drop n bytes) else ended

-- what bytes say of a body that goes on to their end
abbrev pub rest_of : List ℕ → Verdict (List ℕ)
rest_of bytes = if nat_le (length bytes) most_body then whole bytes [] else long
