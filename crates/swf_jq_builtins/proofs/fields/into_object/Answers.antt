use Rattle.std.proofs.Common.{◌≡◌, ◌∙◌, ap, sym, subst, ◌++◌, ◌∷◌, [], append_assoc, append-nil}
use Rattle.swf_value.specs.Node.{members_of}
use Rattle.swf_value.specs.Value.{Members, Ascending}
use Rattle.swf_value.specs.declared.value.Member.{Member}
use Rattle.swf_jq_builtins.proofs.Merges.{as_members, members_of-as_members, ascending}
use Rattle.swf_jq_builtins.proofs.fields.into_object.Goals as goal

pub loop-name-preserved : goal.loop-name-preserved
loop-name-preserved c =
    let m : Member = record { name = c.in-Some.name; value = c.in-Some.value } in
    let step : c.loop-name.name-iterator ≡ (c.in-Some.name, c.in-Some.value) ∷ c.next.new.self = c.in-Some.ensures.steps in
    ap (λ ms. ms ++ as_members c.next.new.self) c.in_ok-push.ensures.items
    ∙ append_assoc c.loop-name.members.items (m ∷ []) (as_members c.next.new.self)
    ∙ ap (λ es. c.loop-name.members.items ++ as_members es) (sym step)
    ∙ c.loop-name.invariant

pub object-requires : goal.object-requires
object-requires c =
    let none : c.loop-name.name-iterator ≡ [] = c.in-None.ensures.steps.0 in
    let all : c.loop-name.members.items ≡ as_members c.args.map.entries =
    sym (append-nil c.loop-name.members.items) ∙ ap (λ es. c.loop-name.members.items ++ as_members es) (sym none) ∙ c.loop-name.invariant in
    subst (λ (ms : Members). Ascending ms) (sym (ap members_of all ∙ members_of-as_members c.args.map.entries)) (ascending c.args.map.entries c.len.ensures.ordered)

pub returns : goal.returns
returns c =
    let none : c.loop-name.name-iterator ≡ [] = c.in-None.ensures.steps.0 in
    let all : c.loop-name.members.items ≡ as_members c.args.map.entries =
    sym (append-nil c.loop-name.members.items) ∙ ap (λ es. c.loop-name.members.items ++ as_members es) (sym none) ∙ c.loop-name.invariant in
    rw (sym (members_of-as_members c.args.map.entries), ← all) c.object.ensures
