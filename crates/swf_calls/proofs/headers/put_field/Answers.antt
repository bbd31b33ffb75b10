use Rattle.std.proofs.Common.{◌≡◌, ◌∙◌, sym, subst, List, slice_set, arith}
use Rattle.std.specs.List.{insert}
use Rattle.swf_calls.specs.declared.headers.Header.{Header}
use Rattle.swf_calls.specs.Headers.{later_field, put_field}
use Rattle.swf_calls.proofs.FieldLemmas.{found_field, missing_field}
use Rattle.swf_calls.proofs.headers.put_field.Goals as goal

pub index_mut-requires : goal.index_mut-requires
index_mut-requires c =
    omega (arith, (found_field later_field c.args.field c.deref.result.now c.in-Ok.place c.args.field (sym c.in-Ok.ensures.place)).0, c.deref.ensures.len)

pub insert-requires : goal.insert-requires
insert-requires c =
    omega (arith, (missing_field later_field c.args.field c.deref.result.now c.in-Err.place (sym c.in-Err.ensures.place)).0, c.deref.ensures.len)

pub returns-in-Ok-clause-ok : goal.returns-in-Ok-clause-ok
returns-in-Ok-clause-ok c =
    let field = c.args.field in
    let place = c.in-Ok.place in
    let found = (found_field later_field field c.deref.result.now place field (sym c.in-Ok.ensures.place)).1 in
    sym (subst (λ (t : List Header). put_field field t ≡ slice_set t place field) c.deref.ensures.value found)

pub returns-in_ok-insert-in-Err-clause-ok : goal.returns-in_ok-insert-in-Err-clause-ok
returns-in_ok-insert-in-Err-clause-ok c =
    let field = c.args.field in
    let missing = (missing_field later_field field c.deref.result.now c.in-Err.place (sym c.in-Err.ensures.place)).1 in
    c.in_ok-insert-in-Err.ensures.items
    ∙ sym (subst (λ (t : List Header). put_field field t ≡ insert t c.in-Err.place field) c.deref.ensures.value missing)
