use Rattle.std.proofs.Common.{ap, ◌∙◌}
use Rattle.swf_value.specs.Members.{member_at}
use Rattle.swf_text.proofs.SameLemmas.{chars_ascii}
use Rattle.swf_shapes.proofs.layout.field.Goals as goal

pub returns : goal.returns
returns c = c.member.ensures ∙ ap (λ k. member_at k c.args.value.now) (chars_ascii c.args.name.now c.requires)
