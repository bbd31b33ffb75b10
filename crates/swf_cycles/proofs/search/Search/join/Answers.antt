use Rattle.std.proofs.Common.{◌≡◌, ◌∙◌, ap, sym, ◌<◌, ◌≤◌, ◌-◌, length, get_or, reverse, arith}
use Rattle.std.proofs.lemmas.List.{get_or_read}
use Rattle.std.proofs.lemmas.Bool.{eqb-true}
use Rattle.swf_cycles.specs.Search.{up_to}
use Rattle.swf_cycles.proofs.StepLemmas.{up_to_all}
use Rattle.swf_cycles.proofs.search.Search.join.Goals as goal

pub returns-else-place-index : goal.returns-else-place-index
returns-else-place-index c =
    let s = c.loop-self.self in
    let p = c.args.place in
    let k : c.len.result ≡ length s.starts.items = omega (arith, c.len.ensures, s.starts.ok.0) in
    let low : 0 < length s.starts.items → get_or s.starts.items (length s.starts.items - 1) 0 ≤ p =
    λ h. omega (arith, c.if-place-index.false, get_or_read s.starts.items (c.len.result - 1) c.index.result.now (omega (arith, k, h)) c.index.ensures 0, ap (λ m. get_or s.starts.items (m - 1) 0) k) in
    let starts : reverse s.starts.items ≡ up_to p (reverse c.args.self.now.starts.items) = sym (up_to_all p s.starts.items low) ∙ c.loop-self.invariant.0 in
    λ i. record { stages = c.loop-self.invariant.1.0 i; stack = c.loop-self.invariant.1.1.0 i; starts = starts i; waiting = reverse (c.loop-self.invariant.1.1.1 i) }

pub returns-after-loop-self : goal.returns-after-loop-self
returns-after-loop-self c =
    let s = c.loop-self.self in
    let p = c.args.place in
    let low : 0 < length s.starts.items → get_or s.starts.items (length s.starts.items - 1) 0 ≤ p =
    λ h. absurd (omega (arith, eqb-true s.starts.len 0 (sym c.is_empty.ensures ∙ c.loop-self-test.false), h, s.starts.ok.0)) in
    let starts : reverse s.starts.items ≡ up_to p (reverse c.args.self.now.starts.items) = sym (up_to_all p s.starts.items low) ∙ c.loop-self.invariant.0 in
    λ i. record { stages = c.loop-self.invariant.1.0 i; stack = c.loop-self.invariant.1.1.0 i; starts = starts i; waiting = reverse (c.loop-self.invariant.1.1.1 i) }
