use Rattle.std.proofs.Common.{◌≡◌, ◌∙◌, ap, sym, subst, ◌<◌, ◌≤◌, ◌-◌, ◌∷◌, length, get_or, reverse, take, Some, IfSome, arith}
use Rattle.swf_cycles.proofs.StepLemmas.{first_of}
use Rattle.swf_cycles.proofs.search.Search.next.Goals as goal

pub returns-clause-some : goal.returns-clause-some
returns-clause-some c =
    let ws = c.args.self.now.waiting in
    let x = c.index.result.now in
    let many : 0 < ws.len = omega (arith, c.len-count.ensures, c.if-count-eq0.false) in
    let count : c.len-count.result ≡ length ws.items = omega (arith, c.len-count.ensures, ws.ok.0) in
    let last : x ≡ get_or ws.items (length ws.items - 1) x = c.index.ensures ∙ ap (λ n. get_or ws.items (n - 1) x) count in
    let taken : c.pop.result ≡ Some x = c.pop.ensures.value x many ∙ ap Some (ap (λ n. get_or ws.items (n - 1) x) ws.ok.0 ∙ sym last) in
    let rest : reverse c.pop.new.self.items ≡ reverse (take (length ws.items - 1) ws.items) = ap reverse (c.pop.ensures.rest ∙ ap (λ n. take (n - 1) ws.items) ws.ok.0) in
    let whole : reverse ws.items ≡ x ∷ reverse c.pop.new.self.items = first_of ws.items x (omega (arith, many, ws.ok.0)) last ∙ ap (λ l. x ∷ l) (sym rest) in
    subst (λ r. IfSome r (λ call. (reverse ws.items ≡ call ∷ reverse c.pop.new.self.items) × (c.args.start ≤ call.from))) (sym taken) (whole, c.if-index-start.false)
