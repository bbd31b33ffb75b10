use Rattle.std.proofs.Common.{◌≡◌, ◌∙◌, ◌+◌, ◌-◌, ◌<◌, sym, ap, subst, drop, take, [], ◌++◌, ◌≤◌, length, length-append, length-drop, length-take-le, arith, List, ℕ}
use Rattle.std.proofs.lemmas.Result.{err_from_is_err_and}
use Rattle.swf_http.specs.Chunks.{content_of, ends_with, SaysChunked}
use Rattle.httparse.specs.Grammar.{chunk_size}
use Rattle.swf_http.specs.Limits.{most_body, most_lines}
use Rattle.swf_http.proofs.ReadLemmas.{line_within}
use Rattle.swf_http.specs.Pieces.{trailer_form, SaysPiece}
use Rattle.swf_http.specs.Verdicts.{whole, long, Then, FaultSays}
use Rattle.swf_http.proofs.ThroughLemmas.{fault_on, answers_on}
use Rattle.swf_http.proofs.ContentLemmas.{Content, line_read, line_stops, chunk_last, chunk_long, content_stops, chunk_step, last_room, room_is, part_is}
use Rattle.swf_http.proofs.chunked.read_chunks.Goals as goal

pub returns-in_err-line-clause-says : goal.returns-in_err-line-clause-says
returns-in_err-line-clause-says g c =
    let p = err_from_is_err_and c.from_residual.result c.from_residual.ensures.1 in
    let content = c.chunks.content.items in
    let room = c.chunks.most - c.chunks.at in
    λ x s. rw (p.1, p.2)
    (fault_on (SaysChunked content room) (SaysChunked [] most_lines) (drop c.chunks.at x) (drop c.args.start x) (c.chunks.invariant.says x s) c.in_err-line.field-0.0
    (line_stops content room (drop c.chunks.at x) c.in_err-line.field-0.0 (c.in_err-line.ensures.says x (c.chunks.invariant.splits x s))))

pub returns-then-line-eq0-clause-says : goal.returns-then-line-eq0-clause-says
returns-then-line-eq0-clause-says g c = λ x s.
    let content = c.chunks.content.items in
    let at = c.chunks.at in
    let most = c.chunks.most in
    let line = c.in_ok-line.line in
    let found = c.in_ok-line.ensures.found in
    let items = c.read_piece.new.buffer.items in
    let splits = c.in_ok-line.ensures.says x (c.chunks.invariant.splits x s) in
    let says = line_read x items (g.S.Source.left c.read_piece.new.from) at most line found.0 splits found.1
    (omega (arith, c.in_ok-line.ensures.size, c.chunks.invariant.within, c.read_piece.new.buffer.ok.0))
    (omega (arith, c.in_ok-line.ensures.size, c.read_piece.new.buffer.ok.0)) in
    let none : _ ≡ 0 = sym found.1.size_is ∙ c.if-line-eq0.true in
    answers_on (Then (SaysPiece trailer_form (most - (at + line.len))) (λ t after w. w ≡ ends_with content t after)) (SaysChunked [] most_lines)
    (λ items _. content ≡ items) (drop (at + line.len) x) (drop c.args.start x)
    (λ v on. c.chunks.invariant.says x s v
    (chunk_last content (most - at) (drop at x) (drop (at + line.len) x) found.0 v says none
    (subst (λ (room : ℕ). Then (SaysPiece trailer_form room) (λ t after w. w ≡ ends_with content t after) (drop (at + line.len) x) v)
    (last_room at most line.len found.0 found.1.len_is) on)))
    c.read_trailer.result (c.read_trailer.ensures.says x splits content)

pub returns-then-line-len-clause-says : goal.returns-then-line-len-clause-says
returns-then-line-len-clause-says g c = λ x s.
    let content = c.chunks.content.items in
    let at = c.chunks.at in
    let most = c.chunks.most in
    let line = c.in_ok-line.line in
    let found = c.in_ok-line.ensures.found in
    let items = c.read_piece.new.buffer.items in
    let splits = c.in_ok-line.ensures.says x (c.chunks.invariant.splits x s) in
    let says = line_read x items (g.S.Source.left c.read_piece.new.from) at most line found.0 splits found.1
    (omega (arith, c.in_ok-line.ensures.size, c.chunks.invariant.within, c.read_piece.new.buffer.ok.0))
    (omega (arith, c.in_ok-line.ensures.size, c.read_piece.new.buffer.ok.0)) in
    c.chunks.invariant.says x s long
    (chunk_long content (most - at) (drop at x) (drop (at + line.len) x) found.0 says
    (omega (arith, found.1.size_is, c.if-line-eq0.false))
    (omega (arith, found.1.size_is, c.if-line-len.true, c.len.ensures, c.chunks.invariant.content, c.chunks.content.ok.0)))

pub returns-in_err-read_content-clause-says : goal.returns-in_err-read_content-clause-says
returns-in_err-read_content-clause-says g c =
    let p = err_from_is_err_and c.from_residual-in_err-read_content.result c.from_residual-in_err-read_content.ensures.1 in
    λ x s.
    let content = c.chunks.content.items in
    let at = c.chunks.at in
    let most = c.chunks.most in
    let line = c.in_ok-line.line in
    let found = c.in_ok-line.ensures.found in
    let items = c.read_piece.new.buffer.items in
    let splits = c.in_ok-line.ensures.says x (c.chunks.invariant.splits x s) in
    let says = line_read x items (g.S.Source.left c.read_piece.new.from) at most line found.0 splits found.1
    (omega (arith, c.in_ok-line.ensures.size, c.chunks.invariant.within, c.read_piece.new.buffer.ok.0))
    (omega (arith, c.in_ok-line.ensures.size, c.read_piece.new.buffer.ok.0)) in
    let e = c.in_err-read_content.field-0.0 in
    let stops = subst (λ (n : ℕ). FaultSays (Content n) (drop (at + line.len) x) e) found.1.size_is (c.in_err-read_content.ensures.says x splits) in
    rw (p.1, p.2)
    (fault_on (SaysChunked content (most - at)) (SaysChunked [] most_lines) (drop at x) (drop c.args.start x) (c.chunks.invariant.says x s) e
    (content_stops content (most - at) (drop at x) (drop (at + line.len) x) found.0 e says
    (omega (arith, found.1.size_is, c.if-line-eq0.false))
    (omega (arith, found.1.size_is, c.if-line-len.false, c.len.ensures, c.chunks.invariant.content, c.chunks.content.ok.0))
    stops))

pub chunks-preserved : goal.chunks-preserved
chunks-preserved g c =
    let content = c.chunks.content.items in
    let at = c.chunks.at in
    let most = c.chunks.most in
    let line = c.in_ok-line.line in
    let found = c.in_ok-line.ensures.found in
    let items = c.read_piece.new.buffer.items in
    let after = c.read_content.new.buffer.items in
    let next = c.extend_from_slice.new.self.items in
    let more : List ℕ = take line.size (drop (at + line.len) after) in
    let some : 0 < chunk_size found.0 = omega (arith, found.1.size_is, c.if-line-eq0.false) in
    let fits : length content + chunk_size found.0 ≤ most_body =
    omega (arith, found.1.size_is, c.if-line-len.false, c.len.ensures, c.chunks.invariant.content, c.chunks.content.ok.0) in
    let line_fits : at + line.len ≤ length items =
    omega (arith, line_within (drop at items) line found, length-drop at items, c.in_ok-line.ensures.size, c.chunks.invariant.within, c.read_piece.new.buffer.ok.0) in
    let more_len : length more ≡ line.size =
    length-take-le line.size (drop (at + line.len) after) (omega (arith, length-drop (at + line.len) after, c.in_ok-read_content.ensures.grown, c.read_content.new.buffer.ok.0)) in
    let next_is : next ≡ content ++ more =
    c.in_ok-extend_from_slice.ensures.items ∙ ap (λ (t : List ℕ). content ++ t) (part_is (at + line.len) line.size c.deref.result.now after c.deref.ensures.value) in
    let next_len : length next ≡ length content + line.size = ap length next_is ∙ length-append content more ∙ ap (λ (k : ℕ). length content + k) more_len in
    record {
      within = omega (arith, c.in_ok-read_content.ensures.grown);
      room = c.in_ok-read_content.ensures.most (most + (line.size + 2)) (omega (arith, c.in_ok-line.ensures.size))
          (omega (arith, line_fits, c.in_ok-line.ensures.size, c.read_piece.new.buffer.ok.0));
      bound = omega (arith, next_len, some, found.1.size_is, c.chunks.invariant.bound, c.chunks.content.ok.0, c.extend_from_slice.new.self.ok.0);
      content = omega (arith, next_len, fits, found.1.size_is, c.extend_from_slice.new.self.ok.0);
      splits = λ x s. (c.in_ok-read_content.ensures.says x (c.in_ok-line.ensures.says x (c.chunks.invariant.splits x s))).0;
      says = λ x s v on.
          let splits = c.in_ok-line.ensures.says x (c.chunks.invariant.splits x s) in
          let says = line_read x items (g.S.Source.left c.read_piece.new.from) at most line found.0 splits found.1
          (omega (arith, c.in_ok-line.ensures.size, c.chunks.invariant.within, c.read_piece.new.buffer.ok.0))
          (omega (arith, c.in_ok-line.ensures.size, c.read_piece.new.buffer.ok.0)) in
          let rest : List ℕ = drop (at + line.len + line.size + 2) x in
          let is : content_of (chunk_size found.0) (drop (at + line.len) x) ≡ whole more rest =
          subst (λ (n : ℕ). content_of n (drop (at + line.len) x) ≡ whole more rest) found.1.size_is (c.in_ok-read_content.ensures.says x splits).1 in
          c.chunks.invariant.says x s v
          (chunk_step content more next (most - at) (most + (line.size + 2) - (at + line.len + (line.size + 2))) (drop at x) (drop (at + line.len) x) rest
          (drop (at + line.len + (line.size + 2)) x) found.0 v says some fits is next_is (room_is at most line.len line.size found.0 found.1.len_is)
          (ap (λ (k : ℕ). drop k x) (omega arith)) on);
      beside = c.read_content.ensures.beside ∙ c.read_piece.ensures.beside ∙ c.chunks.invariant.beside;
      faults = cc (c.in_ok-read_content.ensures.cause, c.in_ok-line.ensures.cause, c.chunks.invariant.faults);
    }
