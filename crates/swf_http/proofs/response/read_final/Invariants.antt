use Rattle.std.proofs.Common.{◌≡◌, ◌-◌, ◌≤◌, List, ℕ, drop, vec_len}
use Rattle.swf_http.specs.Limits.{most_head}
use Rattle.swf_http.specs.Responses.{Framed, SaysHead}
use Rattle.swf_http.specs.Sources.{Splits}
use Rattle.swf_http.specs.Verdicts.{Verdict}
use Rattle.swf_http.proofs.response.read_final.Given as goal

abbrev pub invariant-heads : goal.invariant-heads
invariant-heads g l = record {
  within : l.at ≤ vec_len l.buffer;
  room : vec_len l.buffer ≤ most_head;
  splits : (x : List ℕ) → Splits x l.fn.buffer.items (g.S.Source.left l.fn.from) → Splits x l.buffer.items (g.S.Source.left l.from);
  says : (x : List ℕ) → Splits x l.fn.buffer.items (g.S.Source.left l.fn.from) → (v : Verdict Framed)
      → SaysHead l.head (most_head - l.at) (drop l.at x) v → SaysHead l.head most_head x v;
  beside : g.S.Source.beside l.from ≡ g.S.Source.beside l.fn.from;
  faults : g.S.Source.faults l.from ≡ g.S.Source.faults l.fn.from;
}

abbrev pub decreases-heads : goal.decreases-heads
decreases-heads g l = most_head - l.at
