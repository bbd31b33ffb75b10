-- Either of two, where the test is known.
use Rattle.std.proofs.Common.{◌≡◌, Bool, true, false, refl}
use Rattle.std.specs.Prelude.{if◌then◌else◌}

pub chosen : {T : Type 0} (b : Bool) (x y : T) → b ≡ true → (if b then x else y) ≡ x
chosen true x y e = refl
chosen false x y e = cc e

pub other : {T : Type 0} (b : Bool) (x y : T) → b ≡ false → (if b then x else y) ≡ y
other false x y e = refl
other true x y e = cc e
