-- Until when instances wait.
use Rattle.std.specs.Prelude.{◌&&◌, ℕ, Bool, nat_lt}
use Rattle.std.specs.List.{list_any}
use Rattle.swf_meaning.specs.Wake.{is_due as is_due_in}
use Rattle.swf_meaning.specs.World.{World}

-- the moment is above now, and a strand of some instance waits until it, or until one before it
abbrev pub is_due : World → ℕ → Bool
is_due w moment = nat_lt w.now moment && list_any (λ i. is_due_in moment i.node) w.instances
