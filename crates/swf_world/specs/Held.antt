-- What a world in memory is to those above: the world, and how many more changes fit without memory.
use Rattle.std.specs.Prelude.{ℕ, refl}
use Rattle.std.specs.Coded.{Coded, code_by, coded×, coded_ℕ}
use Rattle.swf_meaning.specs.World.{World}
use Rattle.swf_meaning.specs.Codes.{world_code}

pub record Held : Type 0 where
  pub world : World
  pub room : ℕ

abbrev pub held_code : Coded Held
held_code = code_by (World × ℕ) (coded× world_code coded_ℕ) (λ h. (h.world, h.room)) (λ p. record { world = p.0; room = p.1 }) (λ _. refl)
