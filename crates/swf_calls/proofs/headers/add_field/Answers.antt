use Rattle.std.proofs.Common.{◌≡◌, ◌∙◌, ap, sym, subst, ℕ, List, get_or, slice_set, arith}
use Rattle.std.specs.List.{insert}
use Rattle.swf_calls.specs.declared.headers.Header.{Header}
use Rattle.swf_calls.specs.Headers.{joined, with_field}
use Rattle.swf_calls.proofs.FieldLemmas.{found_field, missing_field}
use Rattle.swf_calls.proofs.headers.add_field.Goals as goal

pub index-requires : goal.index-requires
index-requires c =
    omega (arith, (found_field joined c.args.field c.deref.result.now c.in-Ok.place c.args.field (sym c.in-Ok.ensures.place)).0, c.deref.ensures.len)

pub index_mut-requires : goal.index_mut-requires
index_mut-requires c =
    omega (arith, (found_field joined c.args.field c.deref.result.now c.in-Ok.place c.args.field (sym c.in-Ok.ensures.place)).0, c.deref.ensures.len)

pub insert-requires : goal.insert-requires
insert-requires c =
    omega (arith, (missing_field joined c.args.field c.deref.result.now c.in-Err.place (sym c.in-Err.ensures.place)).0, c.deref.ensures.len)

pub returns-in_ok-value-in-Ok-clause-ok : goal.returns-in_ok-value-in-Ok-clause-ok
returns-in_ok-value-in-Ok-clause-ok c =
    let field = c.args.field in
    let items = c.args.fields.now.items in
    let place = c.in-Ok.place in
    let found = (found_field joined field c.deref.result.now place c.index.result.now (sym c.in-Ok.ensures.place)).1 in
    let same = subst (λ (t : List Header). with_field field t ≡ slice_set t place (joined (get_or t place c.index.result.now) field)) c.deref.ensures.value found in
    ap (λ (v : List ℕ). slice_set items place (record { name = field.name; value = v })) c.in_ok-value-in-Ok.ensures
    ∙ ap (λ (h : Header). slice_set items place (joined h field)) c.index.ensures ∙ sym same

pub returns-in_ok-insert-in-Err-clause-ok : goal.returns-in_ok-insert-in-Err-clause-ok
returns-in_ok-insert-in-Err-clause-ok c =
    let field = c.args.field in
    let missing = (missing_field joined field c.deref.result.now c.in-Err.place (sym c.in-Err.ensures.place)).1 in
    c.in_ok-insert-in-Err.ensures.items
    ∙ sym (subst (λ (t : List Header). with_field field t ≡ insert t c.in-Err.place field) c.deref.ensures.value missing)
