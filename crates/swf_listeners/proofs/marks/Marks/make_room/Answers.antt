use Rattle.std.proofs.Common.{◌≡◌, ◌∙◌, ◌-◌, ℕ, List, [], Option, Some, Vec, Global, Bool, cond, ap, sym, subst, refl, false, length, get_or, vec_len, arith}
use Rattle.std.specs.HashMap.{get}
use Rattle.std.specs.Option.{option_map_or, option_copied_mut, IsSome}
use Rattle.swf_text.specs.Same.{same}
use Rattle.swf_listeners.specs.Marks.{flags_of}
use Rattle.swf_listeners.specs.declared.marks.Marks.{Marks}
use Rattle.swf_listeners.proofs.MarkLemmas.{read_cond, longer_same, longer_more, not_set}
use Rattle.swf_listeners.proofs.marks.Marks.make_room.Goals as goal

abbrev read : Option (Vec Bool Global) → List Bool
read o = option_map_or (λ v. v.items) o []

pub returns-in-Some-clause-same : goal.returns-in-Some-clause-same
returns-in-Some-clause-same c =
    let fs = c.lengthen.new.flags in
    let x = c.args.event_type.now in
    let m : Marks = record { flags = c.get_mut.follows.lender fs } in
    let there : flags_of c.args.self.now x ≡ c.in-Some.flags.now.items = ap read (sym c.in-Some.ensures.value) in
    let some = subst IsSome c.in-Some.ensures.value refl in
    let written : (t : List ℕ) → flags_of m t ≡ cond (same x t) fs.items (flags_of c.args.self.now t) =
    λ t. ap read (((c.get_mut.follows.holds fs).3 some).0 t) ∙ read_cond read (same x t) (Some fs) (get same c.args.self.now.flags t) in
    longer_same c.args.self.now m x fs.items written (λ k. c.lengthen.ensures.same k ∙ ap (λ l. get_or l k false) (sym there))

pub returns-in-Some-clause-more : goal.returns-in-Some-clause-more
returns-in-Some-clause-more c =
    let fs = c.lengthen.new.flags in
    let x = c.args.event_type.now in
    let m : Marks = record { flags = c.get_mut.follows.lender fs } in
    let there : flags_of c.args.self.now x ≡ c.in-Some.flags.now.items = ap read (sym c.in-Some.ensures.value) in
    let some = subst IsSome c.in-Some.ensures.value refl in
    let written : (t : List ℕ) → flags_of m t ≡ cond (same x t) fs.items (flags_of c.args.self.now t) =
    λ t. ap read (((c.get_mut.follows.holds fs).3 some).0 t) ∙ read_cond read (same x t) (Some fs) (get same c.args.self.now.flags t) in
    longer_more c.args.self.now m x fs.items written (omega (arith, c.lengthen.ensures.more, ap length there))

pub returns-clause-same : goal.returns-clause-same
returns-clause-same c =
    let fs = c.resize.new.self in
    let x = c.args.event_type.now in
    let m : Marks = record { flags = c.insert.new.self } in
    let none : flags_of c.args.self.now x ≡ [] = ap read (sym c.get_mut.ensures.value) ∙ ap (λ r. read (option_copied_mut r)) c.in_default.is in
    let written : (t : List ℕ) → flags_of m t ≡ cond (same x t) fs.items (flags_of c.args.self.now t) =
    λ t. ap read (c.in_ok-insert.ensures.updates.0 t) ∙ read_cond read (same c.in_ok-copy.field-0 t) (Some fs) (get same c.get_mut.follows.lender-at-none t)
    ∙ ap (λ y. cond (same y t) fs.items (read (get same c.get_mut.follows.lender-at-none t))) c.in_ok-copy.ensures
    ∙ ap (λ n. cond (same x t) fs.items (read (get same n t))) c.get_mut.follows.holds-at-none in
    longer_same c.args.self.now m x fs.items written (λ k. not_set fs.items c.new-flags.result.items c.args.places (c.args.places - vec_len c.new-flags.result) k c.new-flags.ensures.items c.in_ok-resize.ensures.items ∙ ap (λ l. get_or l k false) (sym none))

pub returns-clause-more : goal.returns-clause-more
returns-clause-more c =
    let fs = c.resize.new.self in
    let x = c.args.event_type.now in
    let m : Marks = record { flags = c.insert.new.self } in
    let none : flags_of c.args.self.now x ≡ [] = ap read (sym c.get_mut.ensures.value) ∙ ap (λ r. read (option_copied_mut r)) c.in_default.is in
    let written : (t : List ℕ) → flags_of m t ≡ cond (same x t) fs.items (flags_of c.args.self.now t) =
    λ t. ap read (c.in_ok-insert.ensures.updates.0 t) ∙ read_cond read (same c.in_ok-copy.field-0 t) (Some fs) (get same c.get_mut.follows.lender-at-none t)
    ∙ ap (λ y. cond (same y t) fs.items (read (get same c.get_mut.follows.lender-at-none t))) c.in_ok-copy.ensures
    ∙ ap (λ n. cond (same x t) fs.items (read (get same n t))) c.get_mut.follows.holds-at-none in
    longer_more c.args.self.now m x fs.items written (omega (arith, ap length none))
