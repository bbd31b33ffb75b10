-- What the parts of a world in memory stand for, and how many more changes fit in all of them.
use Rattle.std.specs.Prelude.{◌-◌, ℕ, min}
use Rattle.std.specs.Vec.{vec_len, vec_capacity}
use Rattle.swf_meaning.specs.World.{World}
use Rattle.swf_world.specs.Early.{most_labels}
use Rattle.swf_world.specs.declared.world.World.TheInside.{Inside}

-- the world of the definitions
abbrev pub world_of : Inside → World
world_of w = record { documents = w.documents.documents; instances = w.instances.instances; keys = w.used.keys; now = w.instances.moment; outbox = w.outbox.items; count = w.count }

-- the least of what fits in each part, and of the labels that are left
abbrev pub room_of : Inside → ℕ
room_of w = min (min w.documents.room (min w.instances.room w.used.room)) (min (vec_capacity w.outbox - vec_len w.outbox) (most_labels - w.count))
