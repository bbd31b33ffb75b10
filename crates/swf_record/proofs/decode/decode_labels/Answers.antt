use Rattle.std.proofs.Common.{◌≡◌, ◌∙◌, ap, sym, inl, inr, ℕ, List, Result, Err, arith}
use Rattle.swf_record.specs.Decodes.{Reading, placed, record_in, decoded}
use Rattle.swf_record.specs.Told.{Tells}
use Rattle.swf_record.specs.declared.reader.Stop.{Stop}
use Rattle.swf_record.specs.declared.reader.Stop.TheVariants.{Misfit}
use Rattle.swf_record.specs.declared.fault.RecordFault.{RecordFault}
use Rattle.swf_record.specs.declared.fault.RecordFault.TheVariants.{Bad}
use Rattle.swf_record.proofs.Laws.{decoded_encodes}
use Rattle.swf_record.proofs.Read.{read}
use Rattle.swf_record.proofs.decode.decode_labels.Goals as goal

misfit : {C D : Type 0} (f : C → D) (e : Stop) (rest : List ℕ) (r : Reading D) → e ≡ Misfit → Tells f (Err e) rest r → r ≡ Err rest
misfit f e rest r m (inl o) = cc
misfit f e rest r m (inr t) = sym t

the_place : {A : Type 0} (x y : ℕ) → ◌≡◌ {A = Result A RecordFault} (Err (Bad x)) (Err (Bad y)) → x ≡ y
the_place x y e = cc

pub returns-in-Ok-clause-ok : goal.returns-in-Ok-clause-ok
unfolding decoded
returns-in-Ok-clause-ok c = ap (placed c.args.bytes.now) (read (λ v. v.items) c.in-Ok.labels c.read_record.new.reader.rest.now (record_in c.args.bytes.now) c.in-Ok.ensures)

pub returns-in-Ok-clause-encodes : goal.returns-in-Ok-clause-encodes
unfolding decoded
returns-in-Ok-clause-encodes c =
    decoded_encodes c.in-Ok.labels.items c.args.bytes.now (λ k. omega (arith, c.type_inv.bytes k))
    (ap (placed c.args.bytes.now) (read (λ v. v.items) c.in-Ok.labels c.read_record.new.reader.rest.now (record_in c.args.bytes.now) c.in-Ok.ensures))

pub returns-in-Err-Misfit-clause-bad : goal.returns-in-Err-Misfit-clause-bad
unfolding decoded
returns-in-Err-Misfit-clause-bad c = λ at e.
    let left = c.read_record.new.reader.rest.now in
    let bytes = c.args.bytes.now in
    ap (placed bytes) (misfit (λ v. v.items) c.in-Err-Misfit.field-0 left (record_in bytes) c.in-Err-Misfit.field-0-is c.in-Err-Misfit.ensures)
    ∙ ap Err (sym c.saturating_sub.ensures ∙ the_place c.saturating_sub.result at e)
