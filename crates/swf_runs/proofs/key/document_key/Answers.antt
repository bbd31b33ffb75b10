use Rattle.std.proofs.Common.{refl, codes, Option}
use Rattle.std.specs.Prelude.{option_map}
use denote.Bor.{Bor}
use Rattle.swf_value.specs.Value.{Value}
use Rattle.swf_runs.proofs.KeyLemmas.{part_is}
use Rattle.swf_runs.proofs.key.document_key.Goals as goal

-- src/key.rt:41:1
pub returns : goal.returns
returns c =
    let v = c.args.value.now in
    let o : Option Value = option_map (λ (b : Bor Value). b.now) c.member-head.result in
    let namespace = part_is (codes "namespace") v o c.in_ok-text_at.field-0 refl c.member-head.ensures c.in_ok-text_at.ensures in
    let name = part_is (codes "name") v o c.in_ok-text_at-2.field-0 refl c.member-head.ensures c.in_ok-text_at-2.ensures in
    let version = part_is (codes "version") v o c.in_ok-text_at-3.field-0 refl c.member-head.ensures c.in_ok-text_at-3.ensures in
    λ i. record { namespace = namespace i; name = name i; version = version i }
