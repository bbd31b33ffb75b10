use Rattle.std.proofs.Common.{rules, chars}
use Rattle.std.proofs.lemmas.Fn.{always_returns_same}
use Rattle.std.specs.Ordering.{nat_cmp}
use Rattle.std.specs.Cmp.Lexicographic.{slice_cmp}
use Rattle.swf_value.proofs.Places.{place_is}
use Rattle.swf_value.proofs.map.place_of.Goals as goal

pub returns : goal.returns
returns c =
    let k = chars c.args.name.now in
    let found = c.binary_search_by.ensures in
    place_is c.args.members.now k c.binary_search_by.result c.requires found.bound (found.position (λ m. slice_cmp nat_cmp m.name k) (always_returns_same _ _ _ (λ a r g called. search rules)))
