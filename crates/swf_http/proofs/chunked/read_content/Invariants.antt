use Rattle.std.proofs.Common.{◌≡◌, ◌+◌, ◌-◌, ◌≤◌, List, ℕ, vec_len}
use Rattle.swf_http.specs.Sources.{Splits}
use Rattle.swf_http.proofs.chunked.read_content.Given as goal

abbrev pub invariant-pieces : goal.invariant-pieces
invariant-pieces g l = record {
  ends : l.end ≡ l.at + l.size;
  within : l.at ≤ vec_len l.buffer;
  most : (most : ℕ) → vec_len l.fn.buffer ≤ most → l.at + l.size + 2 ≤ most → vec_len l.buffer ≤ most;
  splits : (x : List ℕ) → Splits x l.fn.buffer.items (g.S.Source.left l.fn.from) → Splits x l.buffer.items (g.S.Source.left l.from);
  beside : g.S.Source.beside l.from ≡ g.S.Source.beside l.fn.from;
  faults : g.S.Source.faults l.from ≡ g.S.Source.faults l.fn.from;
}

abbrev pub decreases-pieces : goal.decreases-pieces
decreases-pieces g l = l.end + 2 - vec_len l.buffer
