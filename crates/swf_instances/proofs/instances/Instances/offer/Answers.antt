use Rattle.std.proofs.Common.{◌≡◌, ◌∙◌, sym, subst, [], arith}
use Rattle.std.proofs.lemmas.Bool.{eqb-true}
use Rattle.std.proofs.lemmas.List.{nil_from_length}
use Rattle.swf_instances.specs.Offers.{IsOffer}
use Rattle.swf_instances.proofs.OfferLemmas.{offered_nowhere}
use Rattle.swf_instances.proofs.instances.Instances.offer.Goals as goal

pub returns-then-is_empty-clause-heard : goal.returns-then-is_empty-clause-heard
returns-then-is_empty-clause-heard c =
    let is = c.args.self.now.instances in
    let ns = c.in_ok-numbers.numbers in
    let none : ns.items ≡ [] = nil_from_length ns.items (omega (arith, ns.ok.0, eqb-true ns.len 0 (sym c.is_empty.ensures ∙ c.if-is_empty.true))) in
    subst (IsOffer c.args.but c.args.event.now is) (sym c.new-heard.ensures.items) (offered_nowhere c.args.but c.args.event.now is ns.items none c.in_ok-numbers.ensures).0

pub returns-then-is_empty-clause-taken : goal.returns-then-is_empty-clause-taken
returns-then-is_empty-clause-taken c =
    let is = c.args.self.now.instances in
    let ns = c.in_ok-numbers.numbers in
    let none : ns.items ≡ [] = nil_from_length ns.items (omega (arith, ns.ok.0, eqb-true ns.len 0 (sym c.is_empty.ensures ∙ c.if-is_empty.true))) in
    (offered_nowhere c.args.but c.args.event.now is ns.items none c.in_ok-numbers.ensures).1
