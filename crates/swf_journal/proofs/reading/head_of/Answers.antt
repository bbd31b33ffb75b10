use Rattle.std.proofs.Common.{rules, ◌≡◌, ◌∙◌, ◌+◌, ◌-◌, ◌<◌, ◌≤◌, ℕ, List, ◌∷◌, length, get_or, take, drop, sym, ap, subst, arith, w64, length-drop}
use Rattle.std.specs.Int.{from_be_bytes}
use Rattle.std.proofs.lemmas.List.{take_rest, get_or-drop}
use Rattle.swf_journal.specs.Frames.{open_gate}
use Rattle.swf_journal.proofs.HeadLemmas.{spelled}
use Rattle.swf_journal.proofs.reading.head_of.Goals as goal

pub returns-else-len-lt8 : goal.returns-else-len-lt8
returns-else-len-lt8 c =
    let bytes = c.args.bytes.now in
    let len = drop 1 bytes in
    let split : bytes ≡ open_gate ∷ len = search rules in
    let all : take (length bytes - 1) len ≡ len = take_rest bytes 1 in
    let enough : 8 ≤ length (take (length bytes - 1) len) = c.if-len-lt8.false in
    let size : length len ≡ 8 = omega (arith, enough, c.requires, ap (λ (l : List ℕ). length l) all, length-drop 1 bytes) in
    let small : (i : ℕ) → get_or len i 0 < 256 = λ i. subst (λ x. x < 256) (sym (get_or-drop 1 bytes i 0)) (let h = c.type_inv.bytes (1 + i) in search rules) in
    let number : c.length_of.result ≡ from_be_bytes w64 len = c.length_of.ensures ∙ ap (λ (l : List ℕ). from_be_bytes w64 l) all in
    (split ∙ ap (λ (l : List ℕ). open_gate ∷ l) (sym (spelled len c.length_of.result size small number)), c.length_of.type_inv)
