-- Texts that are got behind another.
use Rattle.std.proofs.Common.{◌++◌, ℕ, List}
use Rattle.swf_templates.specs.declared.got.Got.{Got}
use Rattle.swf_templates.specs.declared.got.Got.TheVariants as gots
use Rattle.swf_templates.specs.Fill.{and_then}

-- a text and what is got behind it
abbrev pub behind : List ℕ → Got (List ℕ) → Got (List ℕ)
behind t g = and_then (λ w. gots.Value (t ++ w)) g
