use Rattle.std.proofs.Common.{◌≡◌, sym, inr, refl, List, [], ◌∷◌, ℕ, eqb, cond, Ok, Err, length, w32, eq-eqb, ne_eqb, arith}
use Rattle.std.proofs.lemmas.Bool.{eqb-true, eqb-false}
use Rattle.swf_meaning.specs.declared.label.Label.{Label}
use Rattle.swf_record.specs.Decodes.{Reading, ◌>>=◌, number_in, label_in, many_in, ended, record_in}
use Rattle.swf_record.proofs.Read.{passed_on, read, then_tells, tells_same}
use Rattle.swf_record.proofs.decode.read_record.Goals as goal

abbrev labels_then_end : ℕ × List ℕ → Reading (List Label)
labels_then_end n = many_in label_in n.0 n.1 >>= λ ls. ended ls.0 ls.1

abbrev all : List ℕ → ℕ × List ℕ → Reading (List Label)
all field n = cond (eqb n.0 0) (Err field) (labels_then_end n)

some_labels : (field : List ℕ) (n : ℕ × List ℕ) → (n.0 ≡ 0 → ⊥) → all field n ≡ labels_then_end n
some_labels field n some = rw (ne_eqb n.0 0 some) refl

at_end : (ls : List Label) (rest : List ℕ) → length rest ≡ 0 → ended ls rest ≡ Ok (ls, rest)
at_end ls [] e = refl
at_end ls (b ∷ rest) e = absurd (omega arith)

before_end : (ls : List Label) (rest : List ℕ) → (length rest ≡ 0 → ⊥) → ended ls rest ≡ Err rest
before_end ls [] e = absurd (e refl)
before_end ls (b ∷ rest) e = refl

pub returns-in_err-count : goal.returns-in_err-count
unfolding record_in
returns-in_err-count c =
    let field = c.args.reader.now.rest.now in
    passed_on (λ n. n) (λ v. v.items) c.from_residual.result c.in_err-count.field-0.0 c.four_bytes.new.self.rest.now (number_in w32 field) (all field) c.from_residual.ensures.1 c.in_err-count.ensures

pub returns-then-count-eq0 : goal.returns-then-count-eq0
unfolding record_in
returns-then-count-eq0 c =
    let field = c.args.reader.now.rest.now in
    let count = c.in_ok-count.count in
    let behind = c.four_bytes.new.self.rest.now in
    then_tells (λ v. v.items) (Err _) field (number_in w32 field) (count, behind) (all field) (read (λ n. n) count behind (number_in w32 field) c.in_ok-count.ensures)
    (inr (rw (eq-eqb count 0 c.if-count-eq0.true) refl))

pub returns-in_err-labels : goal.returns-in_err-labels
unfolding record_in
returns-in_err-labels c =
    let field = c.args.reader.now.rest.now in
    let count = c.in_ok-count.count in
    let behind = c.four_bytes.new.self.rest.now in
    let left = c.read_labels.new.reader.rest.now in
    let result = c.from_residual-in_err-labels.result in
    then_tells (λ v. v.items) result left (number_in w32 field) (count, behind) (all field) (read (λ n. n) count behind (number_in w32 field) c.in_ok-count.ensures)
    (tells_same (λ v. v.items) result left (labels_then_end (count, behind)) (all field (count, behind)) (some_labels field (count, behind) c.if-count-eq0.false)
    (passed_on (λ v. v.items) (λ v. v.items) result c.in_err-labels.field-0.0 left (many_in label_in count behind) (λ ls. ended ls.0 ls.1) c.from_residual-in_err-labels.ensures.1 c.in_err-labels.ensures))

pub returns-then-is_empty : goal.returns-then-is_empty
unfolding record_in
returns-then-is_empty c =
    let field = c.args.reader.now.rest.now in
    let count = c.in_ok-count.count in
    let behind = c.four_bytes.new.self.rest.now in
    let labels = c.in_ok-labels.labels in
    let left = c.read_labels.new.reader.rest.now in
    let none : length left ≡ 0 = eqb-true (length left) 0 (sym c.if-is_empty.ensures) in
    then_tells (λ v. v.items) (Ok labels) left (number_in w32 field) (count, behind) (all field) (read (λ n. n) count behind (number_in w32 field) c.in_ok-count.ensures)
    (tells_same (λ v. v.items) (Ok labels) left (labels_then_end (count, behind)) (all field (count, behind)) (some_labels field (count, behind) c.if-count-eq0.false)
    (then_tells (λ v. v.items) (Ok labels) left (many_in label_in count behind) (labels.items, left) (λ ls. ended ls.0 ls.1) (read (λ v. v.items) labels left (many_in label_in count behind) c.in_ok-labels.ensures)
    (inr (sym (at_end labels.items left none)))))

pub returns-else-is_empty : goal.returns-else-is_empty
unfolding record_in
returns-else-is_empty c =
    let field = c.args.reader.now.rest.now in
    let count = c.in_ok-count.count in
    let behind = c.four_bytes.new.self.rest.now in
    let labels = c.in_ok-labels.labels in
    let left = c.read_labels.new.reader.rest.now in
    let some : length left ≡ 0 → ⊥ = eqb-false (length left) 0 (sym c.if-is_empty.ensures) in
    then_tells (λ v. v.items) (Err _) left (number_in w32 field) (count, behind) (all field) (read (λ n. n) count behind (number_in w32 field) c.in_ok-count.ensures)
    (tells_same (λ v. v.items) (Err _) left (labels_then_end (count, behind)) (all field (count, behind)) (some_labels field (count, behind) c.if-count-eq0.false)
    (then_tells (λ v. v.items) (Err _) left (many_in label_in count behind) (labels.items, left) (λ ls. ended ls.0 ls.1) (read (λ v. v.items) labels left (many_in label_in count behind) c.in_ok-labels.ensures)
    (inr (sym (before_end labels.items left some)))))
