use Rattle.std.proofs.Common.{◌≡◌, ◌∙◌, ap, sym, subst, chars, [], ◌∷◌, ◌++◌, true, Some, append_assoc, append-nil}
use Rattle.std.proofs.lemmas.Str.{scalars-chars, encodes-chars}
use Rattle.std.specs.List.Sorted.{IsStrictlySortedBy}
use Rattle.std.specs.Map.{keys_of}
use Rattle.std.specs.Str.{all_scalars, encode_utf8_all}
use Rattle.swf_value.specs.Node.{members_of}
use Rattle.swf_value.specs.Value.{Ascending, IsValue}
use Rattle.swf_value.specs.declared.value.Member.{Member}
use Rattle.swf_value.proofs.Wholes.{Entry, ObjectLeft, object_turn, object_stop, object_end, names_push, names_of, key_cmp, ascending}
use Rattle.swf_value.proofs.whole.whole_object.Goals as goal

pub returns-in_default : goal.returns-in_default
returns-in_default c = λ ms h.
    let done = c.loop-name.found.items in
    let e : Entry = (c.in-Some.name, c.in-Some.member) in
    let now = subst (ObjectLeft ms done) c.in-Some.ensures.steps (c.loop-name.invariant.0 ms h) in
    (sym (object_stop ms done e c.next.new.self c.in_default.is now), tt)

pub loop-name-preserved : goal.loop-name-preserved
loop-name-preserved c =
    let done = c.loop-name.found.items in
    let v = c.in-Some-value.value in
    let e : Entry = (c.in-Some.name, c.in-Some.member) in
    let m : Member = record { name = c.in_ok-name.name; value = v } in
    let left = c.next.new.self in
    let step = c.in-Some.ensures.steps in
    let inv = c.loop-name.invariant in
    let utf8 = c.in_ok-name.ensures.utf8 in
    let named : m.name ≡ chars e.0.now = c.in_ok-name.ensures.is in
    let text : all_scalars m.name ≡ true = subst (λ t. all_scalars t ≡ true) (sym named) (scalars-chars e.0.now utf8) in
    let bytes : encode_utf8_all m.name ≡ e.0.now = ap encode_utf8_all named ∙ encodes-chars e.0.now utf8 in
    let pushed : c.push.new.self.items ≡ done ++ m ∷ [] = c.in_ok-push.ensures.items ∙ ap (λ x. done ++ record { name = c.in_ok-name.name; value = x } ∷ []) c.in-Some-value.value-is in (
      λ ms h.
          let now = subst (ObjectLeft ms done) step (inv.0 ms h) in
          subst (λ xs. ObjectLeft ms xs left) (sym pushed) (object_turn ms done e left m named text c.in-Some-value.is now),
      inv.1 ++ e ∷ [],
      inv.2 ∙ ap (λ es. inv.1 ++ es) step ∙ sym (append_assoc inv.1 (e ∷ []) left),
      ap names_of pushed ∙ names_push done m inv.1 e inv.3 bytes,
    )

pub object-requires : goal.object-requires
object-requires c =
    let inv = c.loop-name.invariant in
    let all : c.args.members.entries ≡ inv.1 = inv.2 ∙ ap (λ es. inv.1 ++ es) c.in-None.ensures.steps.0 ∙ append-nil inv.1 in
    ascending c.loop-name.found.items inv.1 inv.3 (subst (λ es. IsStrictlySortedBy key_cmp (keys_of es)) all c.len.ensures.ordered)

pub returns : goal.returns
returns c = λ ms h.
    let done = c.loop-name.found.items in
    let inv = c.loop-name.invariant in
    let end = object_end ms done (subst (ObjectLeft ms done) c.in-None.ensures.steps.0 (inv.0 ms h)) in
    let all : c.args.members.entries ≡ inv.1 = inv.2 ∙ ap (λ es. inv.1 ++ es) c.in-None.ensures.steps.0 ∙ append-nil inv.1 in
    let order : Ascending (members_of done) = ascending done inv.1 inv.3 (subst (λ es. IsStrictlySortedBy key_cmp (keys_of es)) all c.len.ensures.ordered) in
    (ap Some c.in_ok-object.ensures ∙ sym end.0, subst IsValue (sym c.in_ok-object.ensures) (order, end.1))
