-- What the used keys are to those above: a list, and how many more fit without memory.
use Rattle.std.specs.Prelude.{ℕ, List, refl}
use Rattle.std.specs.Coded.{Coded, code_by, codes, coded×, coded_ℕ, coded_list}
use Rattle.swf_document.specs.DocumentCode.{key_code}
use Rattle.swf_meaning.specs.declared.key.Key.{Key}

-- every used key with its place, in the order of use
pub record HeldKeys : Type 0 where
  pub keys : List (Key × ℕ)
  pub room : ℕ

pub used_key_code : Coded Key
used_key_code = hlevel (codes, key_code)

abbrev pub held_keys_code : Coded HeldKeys
held_keys_code = code_by (List (Key × ℕ) × ℕ) (coded× (coded_list (coded× used_key_code coded_ℕ)) coded_ℕ) (λ h. (h.keys, h.room)) (λ p. record { keys = p.0; room = p.1 }) (λ _. refl)
