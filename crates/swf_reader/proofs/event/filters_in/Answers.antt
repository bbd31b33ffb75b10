use Rattle.std.proofs.Common.{◌∷◌, ◌+◌, ap, sym, refl, List, drop}
use Rattle.swf_value.proofs.Writing.{first_of_rest}
use Rattle.swf_value.specs.Node.{items_of}
use Rattle.swf_value.specs.Value.{Value}
use Rattle.swf_reader.specs.Parts.{filters_in}
use Rattle.swf_reader.proofs.ReadLemmas.{one_more, all_made}
use Rattle.swf_reader.proofs.event.filters_in.Goals as goal

pub loop-item-preserved : goal.loop-item-preserved
loop-item-preserved c =
    let ds = c.args.items.now in
    let i = c.loop-item.item-index in
    let d = c.item-item.result in
    let rest = filters_in (items_of (drop (i + 1) ds)) in
    one_more (λ (l : List Value). filters_in (items_of l)) ds i d c.loop-item.filters.items c.push.new.self.items _ _ (first_of_rest ds i d c.loop-item-test.true c.item-item.is)
    (ap (λ x. x ∷ rest) (sym c.in_ok-filter.ensures)) c.in_ok-push.ensures.items c.loop-item.invariant

pub returns : goal.returns
returns c = all_made (λ (l : List Value). filters_in (items_of l)) c.args.items.now c.loop-item.item-index c.loop-item.filters.items _ c.loop-item-test.false refl c.loop-item.invariant
