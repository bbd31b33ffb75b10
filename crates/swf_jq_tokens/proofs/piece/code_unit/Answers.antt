use Rattle.std.proofs.Common.{arith}
use Rattle.swf_jq_tokens.proofs.piece.code_unit.Goals as goal

pub overflow_mul-result : goal.overflow_mul-result
overflow_mul-result c = let a = c.in_ok-a.ensures.value in omega (arith, a.0, a.1)

pub overflow_mul-result-2 : goal.overflow_mul-result-2
overflow_mul-result-2 c = let b = c.in_ok-b.ensures.value in omega (arith, b.0, b.1)

pub overflow_add-result : goal.overflow_add-result
overflow_add-result c =
    let a = c.in_ok-a.ensures.value in
    let b = c.in_ok-b.ensures.value in
    omega (arith, a.0, a.1, b.0, b.1)

pub overflow_mul-result-3 : goal.overflow_mul-result-3
overflow_mul-result-3 c = let third = c.in_ok-c.ensures.value in omega (arith, third.0, third.1)

pub overflow_add-result-2 : goal.overflow_add-result-2
overflow_add-result-2 c =
    let a = c.in_ok-a.ensures.value in
    let b = c.in_ok-b.ensures.value in
    let third = c.in_ok-c.ensures.value in
    omega (arith, a.0, a.1, b.0, b.1, third.0, third.1)

pub overflow_add-result-3 : goal.overflow_add-result-3
overflow_add-result-3 c =
    let a = c.in_ok-a.ensures.value in
    let b = c.in_ok-b.ensures.value in
    let third = c.in_ok-c.ensures.value in
    let d = c.in_ok-d.ensures.value in
    omega (arith, a.0, a.1, b.0, b.1, third.0, third.1, d.0, d.1)

pub returns-clause-small : goal.returns-clause-small
returns-clause-small c =
    let a = c.in_ok-a.ensures.value in
    let b = c.in_ok-b.ensures.value in
    let third = c.in_ok-c.ensures.value in
    let d = c.in_ok-d.ensures.value in
    omega (arith, a.0, a.1, b.0, b.1, third.0, third.1, d.0, d.1)
