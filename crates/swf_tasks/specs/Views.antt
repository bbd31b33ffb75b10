-- What a view of an instance holds.
use Rattle.std.specs.Prelude.{◌≡◌}
use Rattle.swf_meaning.specs.World.{Instance}
use Rattle.swf_tasks.specs.declared.view.InstanceView.{InstanceView}

pub record IsViewOf (v : InstanceView) (i : Instance) : Type 0 where
  pub id : v.id ≡ i.id
  pub key : v.key ≡ i.document.key
  pub input : v.input ≡ i.input
  pub started : v.started ≡ i.started
  pub context : v.context ≡ i.context
  pub node : v.node ≡ i.node
  pub number : v.number ≡ i.number
