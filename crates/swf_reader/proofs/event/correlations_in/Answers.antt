use Rattle.std.proofs.Common.{◌∷◌, ◌+◌, ap, sym, refl, List, drop}
use Rattle.swf_value.proofs.Writing.{first_of_rest}
use Rattle.swf_value.specs.Node.{members_of}
use Rattle.swf_value.specs.declared.value.Member.{Member}
use Rattle.swf_reader.specs.Parts.{correlations_in}
use Rattle.swf_reader.proofs.ReadLemmas.{one_more, all_made}
use Rattle.swf_reader.proofs.event.correlations_in.Goals as goal

pub loop-member-preserved : goal.loop-member-preserved
loop-member-preserved c =
    let ms = c.args.members.now in
    let i = c.loop-member.member-index in
    let m = c.member-item.result in
    let rest = correlations_in (members_of (drop (i + 1) ms)) in
    one_more (λ (l : List Member). correlations_in (members_of l)) ms i m c.loop-member.correlations.items c.push.new.self.items _ _ (first_of_rest ms i m c.loop-member-test.true c.member-item.is)
    (ap (λ x. x ∷ rest) (sym c.in_ok-correlation.ensures)) c.in_ok-push.ensures.items c.loop-member.invariant

pub returns : goal.returns
returns c = all_made (λ (l : List Member). correlations_in (members_of l)) c.args.members.now c.loop-member.member-index c.loop-member.correlations.items _ c.loop-member-test.false refl c.loop-member.invariant
