use Rattle.std.proofs.Common.{◌≡◌, List, ℕ, length, min, subst, arith}
use Rattle.std.specs.Prelude.{◌↔◌, IsTrue}
use Rattle.swf_journal.specs.Frames.{header}
use Rattle.swf_journal.proofs.HeadLemmas.{read_is}
use Rattle.swf_journal.proofs.header.has_header.Goals as goal

pub returns-clause-header : goal.returns-clause-header
returns-clause-header g c = λ image seen.
    let count = c.in_ok-count.count in
    let counted : count ≡ min 16 (length image.journal) = omega (arith, c.in_ok-count.ensures.count image seen) in
    let same = read_is image.journal _ c.read_at.new.into count 16 counted (c.in_ok-count.ensures.bytes image seen) in
    subst (λ (l : List ℕ). IsTrue c.is_header.result ↔ (l ≡ header)) same c.is_header.ensures
