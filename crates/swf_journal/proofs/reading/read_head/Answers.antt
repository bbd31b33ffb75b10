use Rattle.std.proofs.Common.{◌≡◌, List, ℕ, length, drop, min, subst, arith, length-drop}
use Rattle.swf_store.specs.Files.{bytes_of}
use Rattle.swf_journal.specs.Opening.{IsHead}
use Rattle.swf_journal.proofs.HeadLemmas.{read_is}
use Rattle.swf_journal.proofs.reading.read_head.Goals as goal

pub returns-clause-head : goal.returns-clause-head
returns-clause-head g c = λ image seen.
    let behind = drop c.args.gate (bytes_of image c.args.file) in
    let count = c.in_ok-count.count in
    let counted : count ≡ min 9 (length behind) = omega (arith, c.in_ok-count.ensures.count image seen, length-drop c.args.gate (bytes_of image c.args.file)) in
    let same = read_is behind _ c.read_at.new.into count 9 counted (c.in_ok-count.ensures.bytes image seen) in
    subst (λ (l : List ℕ). IsHead l c.head_of.result) same c.head_of.ensures
