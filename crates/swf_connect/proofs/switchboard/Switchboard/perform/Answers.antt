use Rattle.std.proofs.Common.{◌≡◌, ◌∙◌, sym, refl, false, arith}
use Rattle.swf_connect.proofs.PartyLemmas.{first_asked, none_asked, none_more}
use Rattle.swf_connect.proofs.switchboard.Switchboard.perform.Goals as goal

pub returns-then-takes-clause-performs : goal.returns-then-takes-clause-performs
returns-then-takes-clause-performs g c =
    first_asked _ c.args.request.now c.ask.result c.args.self.now.connectors.items c.connectors.self.connectors.items c.connectors.place
    c.index.result.now c.index_mut.result.now c.ask.new.connector c.connectors.invariant.same (omega (arith, c.connectors-test.true, c.len.ensures))
    c.connectors.invariant.none c.index.ensures c.if-takes.ensures c.index_mut.ensures.value
    (record { asked = c.ask.ensures.asked; cause = c.ask.ensures.cause })

pub returns-clause-performs : goal.returns-clause-performs
returns-clause-performs g c =
    none_asked _ c.args.request.now _ c.args.self.now.connectors.items c.connectors.self.connectors.items c.connectors.place
    c.connectors.invariant.same (omega (arith, c.connectors-test.false, c.len.ensures)) c.connectors.invariant.none refl

pub connectors-preserved : goal.connectors-preserved
connectors-preserved g c = record {
  same = c.connectors.invariant.same;
  within = omega (arith, c.connectors-test.true, c.len.ensures);
  none = none_more (λ b. (goal.Connector-dyn g (b.vtable, b.value)).is_for b.value c.args.request.now ≡ false) c.connectors.self.connectors.items c.connectors.place c.index.result.now (omega (arith, c.connectors-test.true, c.len.ensures))
      c.connectors.invariant.none c.index.ensures (sym c.takes.ensures ∙ c.if-takes.false);
}
