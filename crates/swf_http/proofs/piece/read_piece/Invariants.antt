use Rattle.std.proofs.Common.{◌≡◌, ◌+◌, ◌-◌, ◌≤◌, List, ℕ, vec_len, false, if◌then◌else◌}
use Rattle.swf_http.specs.Sources.{Splits}
use Rattle.swf_http.proofs.piece.read_piece.Given as goal

abbrev pub invariant-looks : goal.invariant-looks
invariant-looks g l = record {
  grew : vec_len l.fn.buffer ≤ vec_len l.buffer;
  size : vec_len l.buffer ≤ l.most;
  splits : (x : List ℕ) → Splits x l.fn.buffer.items (g.S.Source.left l.fn.from) → Splits x l.buffer.items (g.S.Source.left l.from);
  closed : l.more ≡ false → (x : List ℕ) → Splits x l.fn.buffer.items (g.S.Source.left l.fn.from) → x ≡ l.buffer.items;
  beside : g.S.Source.beside l.from ≡ g.S.Source.beside l.fn.from;
  faults : g.S.Source.faults l.from ≡ g.S.Source.faults l.fn.from;
}

abbrev pub decreases-looks : goal.decreases-looks
decreases-looks g l = l.most - vec_len l.buffer + (if l.more then 1 else 0)
