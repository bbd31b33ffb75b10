-- The members of an object that is being made.
use Rattle.swf_value.specs.Members.{put}
use Rattle.swf_value.specs.Value.{Members, no_members}
use Rattle.swf_jq_eval.specs.declared.object.Chosen.{Chosen}
use Rattle.swf_jq_eval.specs.declared.object.Chosen.TheVariants.{Nothing, Member'}

abbrev pub members_so_far : Chosen → Members
members_so_far Nothing = no_members
members_so_far (Member' k v p c) = put k.now v.now (members_so_far c)
