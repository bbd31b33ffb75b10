use Rattle.std.proofs.Common.{◌≡◌, ◌∙◌, ◌-◌, ap, sym, drop, length, take, reverse, arith}
use Rattle.std.proofs.lemmas.List.{drop_all}
use Rattle.swf_cycles.specs.Search.{all_closed, rest}
use Rattle.swf_cycles.proofs.StepLemmas.{rest_older}
use Rattle.swf_cycles.proofs.search.Search.close.Goals as goal

pub returns : goal.returns
returns c =
    let s = c.loop-place.self in
    let b = c.args.itself in
    let stages : s.stages.items ≡ all_closed c.args.self.now.stages.items (drop c.args.start c.args.self.now.stack.items) b =
    ap (λ l. all_closed s.stages.items l b) (sym (drop_all c.loop-place.place s.stack.items (omega (arith, ap length c.loop-place.invariant.1.0, c.len-place-end.ensures, s.stack.ok.0, c.args.self.now.stack.ok.0, c.loop-place-test.false, c.loop-place.auto.place-end)))) ∙ c.loop-place.invariant.0 in
    let stack : c.truncate.new.self.items ≡ take c.args.start c.args.self.now.stack.items = c.truncate.ensures.items ∙ ap (take c.args.start) c.loop-place.invariant.1.0 in
    let starts : reverse c.pop.new.self.items ≡ rest (reverse c.args.self.now.starts.items) =
    ap reverse (c.pop.ensures.rest ∙ ap (λ n. take (n - 1) s.starts.items) s.starts.ok.0) ∙ sym (rest_older s.starts.items) ∙ ap (λ l. rest (reverse l)) c.loop-place.invariant.1.1.0 in
    λ i. record { stages = stages i; stack = stack i; starts = starts i; waiting = reverse (c.loop-place.invariant.1.1.1 i) }
