use Rattle.std.proofs.Common.{◌≡◌, ◌∙◌, ap, sym, [], ◌∷◌, ◌++◌, length, reverse, slice_set, arith}
use Rattle.std.proofs.lemmas.List.{drop_all, set_past}
use Rattle.swf_cycles.specs.declared.search.Stage.TheVariants.{Open}
use Rattle.swf_cycles.specs.Search.{with_calls}
use Rattle.swf_cycles.proofs.StepLemmas.{newest}
use Rattle.swf_cycles.proofs.search.Search.enter.Goals as goal

pub returns-then-number-len : goal.returns-then-number-len
returns-then-number-len c =
    let s = c.loop-to.self in
    let o = c.args.self.now in
    let v = c.args.number in
    let place : c.len-from.result ≡ length o.stack.items = omega (arith, c.len-from.ensures, o.stack.ok.0) in
    let stages : slice_set s.stages.items v (Open c.len-from.result) ≡ slice_set o.stages.items v (Open (length o.stack.items)) =
    λ i. slice_set (c.loop-to.invariant.1.0 i) v (Open (place i)) in
    let stack : c.push-3.new.self.items ≡ o.stack.items ++ v ∷ [] = c.in_ok-push-3.ensures.items ∙ ap (λ l. l ++ v ∷ []) c.loop-to.invariant.1.1.0 in
    let starts : reverse c.push-2.new.self.items ≡ length o.stack.items ∷ reverse o.starts.items =
    ap reverse c.in_ok-push-2.ensures.items ∙ newest s.starts.items c.len-from.result ∙ (λ i. place i ∷ reverse (c.loop-to.invariant.1.1.1 i)) in
    let waiting : reverse s.waiting.items ≡ with_calls (reverse o.waiting.items) (length o.stack.items) c.args.called.now =
    ap (with_calls (reverse s.waiting.items) c.len-from.result) (sym (drop_all c.loop-to.to-index c.args.called.now (omega arith)))
    ∙ c.loop-to.invariant.0
    ∙ ap (λ n. with_calls (reverse o.waiting.items) n c.args.called.now) place in
    λ i. record { stages = stages i; stack = stack i; starts = starts i; waiting = waiting i }

pub returns-else-number-len : goal.returns-else-number-len
returns-else-number-len c =
    let s = c.loop-to.self in
    let o = c.args.self.now in
    let v = c.args.number in
    let place : c.len-from.result ≡ length o.stack.items = omega (arith, c.len-from.ensures, o.stack.ok.0) in
    let stages : s.stages.items ≡ slice_set o.stages.items v (Open (length o.stack.items)) =
    sym (set_past s.stages.items v (Open (length o.stack.items)) (omega (arith, s.stages.ok.0))) ∙ ap (λ l. slice_set l v (Open (length o.stack.items))) c.loop-to.invariant.1.0 in
    let stack : c.push-3.new.self.items ≡ o.stack.items ++ v ∷ [] = c.in_ok-push-3.ensures.items ∙ ap (λ l. l ++ v ∷ []) c.loop-to.invariant.1.1.0 in
    let starts : reverse c.push-2.new.self.items ≡ length o.stack.items ∷ reverse o.starts.items =
    ap reverse c.in_ok-push-2.ensures.items ∙ newest s.starts.items c.len-from.result ∙ (λ i. place i ∷ reverse (c.loop-to.invariant.1.1.1 i)) in
    let waiting : reverse s.waiting.items ≡ with_calls (reverse o.waiting.items) (length o.stack.items) c.args.called.now =
    ap (with_calls (reverse s.waiting.items) c.len-from.result) (sym (drop_all c.loop-to.to-index c.args.called.now (omega arith)))
    ∙ c.loop-to.invariant.0
    ∙ ap (λ n. with_calls (reverse o.waiting.items) n c.args.called.now) place in
    λ i. record { stages = stages i; stack = stack i; starts = starts i; waiting = waiting i }
