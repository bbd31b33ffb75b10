use Rattle.std.proofs.Common.{◌∙◌, ap, sym}
use Rattle.swf_same.proofs.Lists.{members_of_one}
use Rattle.swf_value.specs.Node.{members_of}
use Rattle.swf_same.proofs.event.NamedValuesSame.is_same.Goals as goal

pub returns : goal.returns
returns c = (
  λ t. sym c.as_slice.ensures.members ∙ ap members_of (c.same_items.ensures.0 t) ∙ c.as_slice-2.ensures.members,
  λ e. c.same_items.ensures.1 (members_of_one _ _ (c.as_slice.ensures.members ∙ e ∙ sym c.as_slice-2.ensures.members)),
)
