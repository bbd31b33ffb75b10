use Rattle.std.proofs.Common.{◌∙◌, ◌+◌, ◌-◌, ◌<◌, ◌≤◌, refl, drop, length, arith, List, ℕ}
use Rattle.std.proofs.lemmas.Result.{err_from_is_err_and}
use Rattle.swf_http.specs.declared.follow.Follow.TheVariants.{Bad, TooLong, Body}
use Rattle.swf_http.specs.Limits.{most_head}
use Rattle.swf_http.specs.Responses.{Framed, SaysHead}
use Rattle.swf_http.specs.Verdicts.{Verdict, whole, long, bad}
use Rattle.swf_http.proofs.ThroughLemmas.{fault_on}
use Rattle.swf_http.proofs.ResponseLemmas.{head_stops, head_last, head_more, head_read, at_slice, head_fits}
use Rattle.swf_http.proofs.response.read_final.Goals as goal

pub returns-in_err-found-clause-says : goal.returns-in_err-found-clause-says
returns-in_err-found-clause-says g c =
    let p = err_from_is_err_and c.from_residual.result c.from_residual.ensures.1 in
    let room = most_head - c.heads.at in
    λ x s. rw (p.1, p.2)
    (fault_on (SaysHead c.args.head room) (SaysHead c.args.head most_head) (drop c.heads.at x) x (c.heads.invariant.says x s) c.in_err-found.field-0.0
    (head_stops c.args.head room (drop c.heads.at x) c.in_err-found.field-0.0 (c.in_err-found.ensures.says x (c.heads.invariant.splits x s))))

pub returns-in-Bad-clause-says : goal.returns-in-Bad-clause-says
returns-in-Bad-clause-says g c = λ x s.
    let at = c.heads.at in
    let found = c.in_ok-found.found in
    let is = c.in_ok-found.ensures.found in
    let items = c.read_piece.new.buffer.items in
    let rest : List ℕ = drop (at + found.spans.len) x in
    let splits = c.in_ok-found.ensures.says x (c.heads.invariant.splits x s) in
    c.heads.invariant.says x s bad
    (head_last c.args.head (most_head - at) (drop at x) rest is.1.0 Bad bad
    (head_read x items (g.S.Source.left c.read_piece.new.from) at most_head found is.1.0 splits is.1.1 is.0.section.len_fits
    (omega (arith, c.in_ok-found.ensures.size, c.heads.invariant.within, c.read_piece.new.buffer.ok.0))
    (omega (arith, c.in_ok-found.ensures.size, c.read_piece.new.buffer.ok.0)))
    (c.in-Bad.ensures is.1.0 (at_slice at c.deref.result.now items found is.1.0 c.deref.ensures.value is.1.1)) refl)

pub returns-in-TooLong-clause-says : goal.returns-in-TooLong-clause-says
returns-in-TooLong-clause-says g c = λ x s.
    let at = c.heads.at in
    let found = c.in_ok-found.found in
    let is = c.in_ok-found.ensures.found in
    let items = c.read_piece.new.buffer.items in
    let rest : List ℕ = drop (at + found.spans.len) x in
    let splits = c.in_ok-found.ensures.says x (c.heads.invariant.splits x s) in
    c.heads.invariant.says x s long
    (head_last c.args.head (most_head - at) (drop at x) rest is.1.0 TooLong long
    (head_read x items (g.S.Source.left c.read_piece.new.from) at most_head found is.1.0 splits is.1.1 is.0.section.len_fits
    (omega (arith, c.in_ok-found.ensures.size, c.heads.invariant.within, c.read_piece.new.buffer.ok.0))
    (omega (arith, c.in_ok-found.ensures.size, c.read_piece.new.buffer.ok.0)))
    (c.in-TooLong.ensures is.1.0 (at_slice at c.deref.result.now items found is.1.0 c.deref.ensures.value is.1.1)) refl)

pub returns-in-Body-clause-says : goal.returns-in-Body-clause-says
returns-in-Body-clause-says g c = λ x s.
    let at = c.heads.at in
    let found = c.in_ok-found.found in
    let is = c.in_ok-found.ensures.found in
    let items = c.read_piece.new.buffer.items in
    let rest : List ℕ = drop (at + found.spans.len) x in
    let splits = c.in_ok-found.ensures.says x (c.heads.invariant.splits x s) in
    let v : Verdict Framed = whole (is.1.0, c.in-Body.framing) rest in (
      splits,
      (
        is.1.0,
        is.1.1,
        c.heads.invariant.says x s v
            (head_last c.args.head (most_head - at) (drop at x) rest is.1.0 (Body c.in-Body.framing) v
            (head_read x items (g.S.Source.left c.read_piece.new.from) at most_head found is.1.0 splits is.1.1 is.0.section.len_fits
            (omega (arith, c.in_ok-found.ensures.size, c.heads.invariant.within, c.read_piece.new.buffer.ok.0))
            (omega (arith, c.in_ok-found.ensures.size, c.read_piece.new.buffer.ok.0)))
            (c.in-Body.ensures is.1.0 (at_slice at c.deref.result.now items found is.1.0 c.deref.ensures.value is.1.1)) refl),
      ),
    )

pub heads-smaller : goal.heads-smaller
heads-smaller g c =
    let at = c.heads.at in
    let found = c.in_ok-found.found in
    let is = c.in_ok-found.ensures.found in
    let items = c.read_piece.new.buffer.items in
    let fits = head_fits at most_head items found is.1.0 is.1.1 is.0.section.len_fits
    (omega (arith, c.in_ok-found.ensures.size, c.heads.invariant.within, c.read_piece.new.buffer.ok.0))
    (omega (arith, c.in_ok-found.ensures.size, c.read_piece.new.buffer.ok.0)) in
    let less : most_head - (at + found.spans.len) < most_head - at =
    omega (arith, fits.0, fits.1, c.in_ok-found.ensures.size, c.read_piece.new.buffer.ok.0) in
    less

pub heads-preserved : goal.heads-preserved
heads-preserved g c =
    let at = c.heads.at in
    let found = c.in_ok-found.found in
    let is = c.in_ok-found.ensures.found in
    let items = c.read_piece.new.buffer.items in
    let there : at ≤ length items = omega (arith, c.in_ok-found.ensures.size, c.heads.invariant.within, c.read_piece.new.buffer.ok.0) in
    let room : length items ≤ most_head = omega (arith, c.in_ok-found.ensures.size, c.read_piece.new.buffer.ok.0) in
    let fits = head_fits at most_head items found is.1.0 is.1.1 is.0.section.len_fits there room in
    record {
      within = omega (arith, fits.1, c.read_piece.new.buffer.ok.0);
      room = omega (arith, c.in_ok-found.ensures.size);
      splits = λ x s. c.in_ok-found.ensures.says x (c.heads.invariant.splits x s);
      says = λ x s v on. c.heads.invariant.says x s v
          (head_more c.args.head (most_head - at) (most_head - (at + found.spans.len)) (drop at x) (drop (at + found.spans.len) x) is.1.0 v
          (head_read x items (g.S.Source.left c.read_piece.new.from) at most_head found is.1.0
          (c.in_ok-found.ensures.says x (c.heads.invariant.splits x s)) is.1.1 is.0.section.len_fits there room)
          (c.in-Interim.ensures is.1.0 (at_slice at c.deref.result.now items found is.1.0 c.deref.ensures.value is.1.1)) fits.2 on);
      beside = c.read_piece.ensures.beside ∙ c.heads.invariant.beside;
      faults = cc (c.in_ok-found.ensures.cause, c.heads.invariant.faults);
    }
