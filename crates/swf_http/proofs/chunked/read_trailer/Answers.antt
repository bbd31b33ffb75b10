use Rattle.std.proofs.Common.{◌≡◌, drop, refl, arith, inl, ℕ, ◌<◌, ◌≤◌, nat_lt, true, false, List, length, length-drop}
use Rattle.std.proofs.lemmas.Bool.{lt-ltb, ltb-true, false_from_ne_true}
use Rattle.std.proofs.lemmas.Result.{err_from_is_err_and}
use Rattle.swf_http.specs.Chunks.{ends_with}
use Rattle.swf_http.specs.Limits.{most_fields}
use Rattle.swf_http.specs.Pieces.{trailer_form, Section, SaysPiece}
use Rattle.swf_http.specs.Verdicts.{whole, long}
use Rattle.swf_http.proofs.ReadLemmas.{splits_behind, says_trailer}
use Rattle.swf_http.proofs.ThroughLemmas.{then_fault}
use Rattle.swf_http.proofs.chunked.read_trailer.Goals as goal

is_long : (content : List ℕ) (s : Section) (rest : List ℕ) (count : ℕ) → count ≡ length s.0 → most_fields < count → long ≡ ends_with content s rest
is_long content s rest count is over =
    let test : nat_lt most_fields (length s.0) ≡ true = lt-ltb most_fields (length s.0) (omega (arith, is, over)) in
    rw test refl

is_whole : (content : List ℕ) (s : Section) (rest : List ℕ) (count : ℕ) → count ≡ length s.0 → count ≤ most_fields
    → whole content rest ≡ ends_with content s rest
is_whole content s rest count is under =
    let test : nat_lt most_fields (length s.0) ≡ false =
    false_from_ne_true (nat_lt most_fields (length s.0)) (λ e. omega (arith, is, under, ltb-true most_fields (length s.0) e)) in
    rw test refl

pub returns-in_err-trailer-clause-says : goal.returns-in_err-trailer-clause-says
returns-in_err-trailer-clause-says g c =
    let p = err_from_is_err_and c.from_residual.result c.from_residual.ensures.1 in
    λ x s content. rw (p.1, p.2)
    (then_fault (SaysPiece trailer_form _) (λ t after w. w ≡ ends_with content t after) (drop c.args.at x) c.in_err-trailer.field-0.0 (c.in_err-trailer.ensures.says x s))

pub returns-then-trailer-gt-MOST_FIELDS-clause-says : goal.returns-then-trailer-gt-MOST_FIELDS-clause-says
returns-then-trailer-gt-MOST_FIELDS-clause-says g c = λ x s content.
    let items = c.read_piece.new.buffer.items in
    let found = c.in_ok-trailer.ensures.found in
    let splits = splits_behind x items (g.S.Source.left c.read_piece.new.from) c.args.at (c.in_ok-trailer.ensures.says x s)
    (omega (arith, c.requires.at, c.in_ok-trailer.ensures.size, c.read_piece.new.buffer.ok.0)) in
    inl (
      found.0,
      drop c.in_ok-trailer.trailer.len (drop c.args.at x),
      says_trailer _ (drop c.args.at x) (drop c.args.at items) (g.S.Source.left c.read_piece.new.from) c.in_ok-trailer.trailer found.0 splits found.1
          (omega (arith, length-drop c.args.at items, c.in_ok-trailer.ensures.size, c.read_piece.new.buffer.ok.0)),
      is_long content found.0 _ c.in_ok-trailer.trailer.count found.1.count_is (omega (arith, c.if-trailer-gt-MOST_FIELDS.true)),
    )

pub returns-else-trailer-gt-MOST_FIELDS-clause-says : goal.returns-else-trailer-gt-MOST_FIELDS-clause-says
returns-else-trailer-gt-MOST_FIELDS-clause-says g c = λ x s content.
    let items = c.read_piece.new.buffer.items in
    let found = c.in_ok-trailer.ensures.found in
    let splits = splits_behind x items (g.S.Source.left c.read_piece.new.from) c.args.at (c.in_ok-trailer.ensures.says x s)
    (omega (arith, c.requires.at, c.in_ok-trailer.ensures.size, c.read_piece.new.buffer.ok.0)) in
    let rest : List ℕ = drop c.in_ok-trailer.trailer.len (drop c.args.at x) in (
      content,
      rest,
      inl (
        found.0,
        rest,
        says_trailer _ (drop c.args.at x) (drop c.args.at items) (g.S.Source.left c.read_piece.new.from) c.in_ok-trailer.trailer found.0 splits found.1
            (omega (arith, length-drop c.args.at items, c.in_ok-trailer.ensures.size, c.read_piece.new.buffer.ok.0)),
        is_whole content found.0 rest c.in_ok-trailer.trailer.count found.1.count_is (omega (arith, c.if-trailer-gt-MOST_FIELDS.false)),
      ),
      refl,
    )
