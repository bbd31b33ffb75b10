use Rattle.std.proofs.Common.{◌≡◌, ◌∙◌, ◌++◌, ◌∷◌, [], ap, refl, get_or, arith}
use Rattle.swf_value.specs.Written.{escaped_byte}
use Rattle.swf_value.proofs.PlainRuns.{run_on, run_written}
use Rattle.swf_value.proofs.Writing.{Extends-more, Extends-same, Extends-if}
use Rattle.swf_value.proofs.write.write_bytes.Goals as goal

pub loop-index-preserved-then-is_plain : goal.loop-index-preserved-then-is_plain
loop-index-preserved-then-is_plain c =
    let inv = c.loop-index.invariant in
    let bs = c.args.bytes.now in
    let i = c.loop-index.index in
    let on = run_on bs inv.0 c.loop-index.out.items _ c.loop-index.start i c.loop-index-test.true inv.1 inv.2 (c.is_plain.ensures c.if-is_plain.true) inv.4 in
    (inv.0 ++ get_or bs i 0 ∷ [], on.0, on.1, omega (arith, c.loop-index-test.true), on.2, inv.5)

pub loop-index-preserved : goal.loop-index-preserved
loop-index-preserved c =
    let inv = c.loop-index.invariant in
    let bs = c.args.bytes.now in
    let i = c.loop-index.index in
    let more : c.write_byte.new.out.items ≡ _ = c.in_ok-write_byte.ensures.ok ∙ ap (λ l. l ++ escaped_byte (get_or bs i 0)) c.in_ok-extend_from_slice.ensures.items in (
      [],
      refl,
      omega arith,
      omega (arith, c.loop-index-test.true),
      run_written bs inv.0 c.loop-index.out.items c.write_byte.new.out.items _ c.loop-index.start i c.loop-index-test.true inv.1 inv.2 more inv.4,
      Extends-more _ _ _ _ (Extends-more _ _ _ _ inv.5 c.in_ok-extend_from_slice.ensures.items) c.in_ok-write_byte.ensures.ok,
    )

pub returns-clause-kept : goal.returns-clause-kept
returns-clause-kept c = Extends-if _ _ _ _ _ c.loop-index.invariant.5 c.extend_from_slice-2.ensures.items

pub returns-in_err-extend_from_slice-clause-kept : goal.returns-in_err-extend_from_slice-clause-kept
returns-in_err-extend_from_slice-clause-kept c = Extends-same _ _ _ c.loop-index.invariant.5 c.in_err-extend_from_slice.ensures.items

pub returns-in_err-write_byte-clause-kept : goal.returns-in_err-write_byte-clause-kept
returns-in_err-write_byte-clause-kept c =
    Extends-same _ _ _ (Extends-more _ _ _ _ c.loop-index.invariant.5 c.in_ok-extend_from_slice.ensures.items) c.in_err-write_byte.ensures.err
