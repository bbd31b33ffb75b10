use Rattle.std.proofs.Common.{◌≡◌, ◌+◌, ◌-◌, ◌*◌, ◌≤◌, List, [], ℕ, drop, vec_len}
use Rattle.swf_http.specs.Chunks.{SaysChunked}
use Rattle.swf_http.specs.Limits.{most_body, most_lines}
use Rattle.swf_http.specs.Sources.{Splits}
use Rattle.swf_http.specs.Verdicts.{Verdict}
use Rattle.swf_http.proofs.chunked.read_chunks.Given as goal

abbrev pub invariant-chunks : goal.invariant-chunks
invariant-chunks g l = record {
  within : l.at ≤ vec_len l.buffer;
  room : vec_len l.buffer ≤ l.most;
  bound : l.most ≤ 65536 + most_lines + 3 * vec_len l.content;
  content : vec_len l.content ≤ most_body;
  splits : (x : List ℕ) → Splits x l.fn.buffer.items (g.S.Source.left l.fn.from) → Splits x l.buffer.items (g.S.Source.left l.from);
  says : (x : List ℕ) → Splits x l.fn.buffer.items (g.S.Source.left l.fn.from) → (v : Verdict (List ℕ))
      → SaysChunked l.content.items (l.most - l.at) (drop l.at x) v → SaysChunked [] most_lines (drop l.start x) v;
  beside : g.S.Source.beside l.from ≡ g.S.Source.beside l.fn.from;
  faults : g.S.Source.faults l.from ≡ g.S.Source.faults l.fn.from;
}

abbrev pub decreases-chunks : goal.decreases-chunks
decreases-chunks g l = most_body - vec_len l.content
