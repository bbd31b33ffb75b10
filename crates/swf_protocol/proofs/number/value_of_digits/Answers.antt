use Rattle.std.proofs.Common.{◌≡◌, ◌∙◌, ◌+◌, ◌-◌, ◌*◌, ap, sym, ℕ, List, drop, fold, get_or, arith}
use Rattle.std.proofs.lemmas.List.{drop_all}
use Rattle.swf_protocol.specs.Number.{value_of_digits}
use Rattle.swf_protocol.proofs.NumberLemmas.{next_digit, fold_grows, fold_next}
use Rattle.swf_protocol.proofs.number.value_of_digits.Goals as goal

pub returns-in-None : goal.returns-in-None
returns-in-None c = λ less.
    let l = c.loop-byte in
    let next = fold_next l.value c.args.bytes.now l.byte-index (omega arith) in
    let grows = fold_grows (l.value * 10 + (get_or c.args.bytes.now l.byte-index 0 - 48)) (drop (l.byte-index + 1) c.args.bytes.now) in
    c.in-None.ensures (omega (arith, less, l.invariant.whole, next, grows))

pub returns : goal.returns
returns c =
    let l = c.loop-byte in
    let whole : value_of_digits c.args.bytes.now ≡ l.value = l.invariant.whole ∙ ap (λ (ds : List ℕ). fold next_digit l.value ds) (drop_all l.byte-index c.args.bytes.now (omega arith)) in
    (omega (arith, whole, l.invariant.small), sym whole)
