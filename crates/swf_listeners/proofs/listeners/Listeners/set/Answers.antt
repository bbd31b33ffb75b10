use Rattle.std.proofs.Common.{◌≡◌, ◌∙◌, ◌<◌, ℕ, List, inl, inr, length, get_or, map, cond, true, false, ap, sym, arith}
use Rattle.std.proofs.Math.ListN.{set}
use Rattle.std.proofs.lemmas.Bool.{cases_eq}
use Rattle.std.proofs.lemmas.List.{get_or_default, get_or-set_same, get_or-set_other}
use Rattle.std.specs.List.{list_any}
use Rattle.swf_text.specs.Same.{same}
use Rattle.swf_listeners.specs.Listeners.{places_of}
use Rattle.swf_listeners.specs.Marks.{flags_of}
use Rattle.swf_listeners.specs.Wanted.{nothing, has}
use Rattle.swf_listeners.proofs.MarkLemmas.{set_marks, other_marks, places_are, any_set, length_marked}
use Rattle.swf_listeners.proofs.listeners.Listeners.set.Goals as goal

pub invariant_of-self : goal.invariant_of-self
invariant_of-self c =
    let all = c.self.inside.wanted.items in
    let n = c.args.number in
    let w = c.args.wanted in
    let known : n < length all = omega (arith, c.requires.known, ap (λ l. length l.wanted) c.self.view_is) in
    let before : c.index-before.result.now ≡ get_or all n nothing = c.index-before.ensures ∙ get_or_default all n c.index-before.result.now nothing known in
    let flags = λ (t : List ℕ). flags_of c.self.inside.marks t in
    let old = λ (t : List ℕ). has t (get_or all n nothing) in
    let first : (t : List ℕ) → flags_of c.mark_all.new.self t ≡ cond (old t) (set (flags t) n false) (flags t) =
    λ t. c.mark_all.ensures t ∙ ap (λ b. cond b (set (flags t) n false) (flags t)) (ap (has t) (c.before-2.view_is ∙ before)) in
    let both : (t : List ℕ) → flags_of c.mark_all-2.new.self t ≡ cond (has t w) (set (cond (old t) (set (flags t) n false) (flags t)) n true) (cond (old t) (set (flags t) n false) (flags t)) =
    λ t. c.mark_all-2.ensures t ∙ ap (λ b. cond b (set (flags_of c.mark_all.new.self t) n true) (flags_of c.mark_all.new.self t)) (ap (has t) c.wanted.view_is) ∙ ap (λ l. cond (has t w) (set l n true) l) (first t) in
    record {
      types = λ t k. elim (cases_eq k n) [
        | inl h ↦ ap (λ j. get_or (flags_of c.mark_all-2.new.self t) j false) h ∙ ap (λ l. get_or l n false) (both t)
            ∙ set_marks (old t) (has t w) (flags t) n (λ e. omega (arith, c.requires.fits.at t e, places_are c.self.inside.marks t, ap (λ l. places_of l.places t) c.self.view_is)) (c.self.invariant.types t n)
            ∙ sym (ap (λ j. has t (get_or (set all n w) j nothing)) h ∙ ap (has t) (get_or-set_same all n w nothing known))
        | inr h ↦ ap (λ l. get_or l k false) (both t) ∙ other_marks (old t) (has t w) (flags t) n k h ∙ c.self.invariant.types t k ∙ sym (ap (has t) (get_or-set_other all n k w nothing h))
      ];
      any = ap (λ l. set l n c.wanted.inside.any) c.self.invariant.any ∙ ap (λ b. set (map (λ v. v.any) all) n b) (ap (λ v. v.any) c.wanted.view_is) ∙ any_set all n w;
    }

pub returns-clause-places : goal.returns-clause-places
returns-clause-places c = λ t.
    places_are c.mark_all-2.new.self t
    ∙ ap length (c.mark_all-2.ensures t) ∙ length_marked (list_any (same t) c.wanted.inside.types.keys) (flags_of c.mark_all.new.self t) c.args.number true
    ∙ ap length (c.mark_all.ensures t) ∙ length_marked (list_any (same t) c.before-2.inside.types.keys) (flags_of c.self.inside.marks t) c.args.number false
    ∙ sym (places_are c.self.inside.marks t) ∙ ap (λ l. places_of l.places t) c.self.view_is
