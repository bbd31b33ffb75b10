use Rattle.std.proofs.Common.{◌∙◌, ap, ◌<◌, ◌^◌, ◌++◌, ℕ, suc, List, [], ◌∷◌, length, get_or, arith}
use Rattle.std.proofs.lemmas.List.{take_all}
use Rattle.std.specs.List.{AllByRecursion, flat_map}
use Rattle.swf_record.specs.Encodes.{two_bytes, strand_bytes}
use Rattle.swf_record.proofs.encode.write_numbers.Goals as goal

small : (xs : List ℕ) → ((k : ℕ) → get_or xs k 0 < 2 ^ 16) → AllByRecursion (λ n. n < 2 ^ 16) xs
small [] h = tt
small (x ∷ xs) h = (h 0, small xs (λ k. h (suc k)))

pub returns-clause-ok : goal.returns-clause-ok
unfolding strand_bytes
returns-clause-ok c =
    let numbers = c.args.numbers.now in
    c.loop-number.invariant ∙ ap (λ xs. c.args.out.now.items ++ (two_bytes (length numbers) ++ flat_map two_bytes xs)) (take_all c.loop-number.number-index numbers c.loop-number-test.false)

pub returns-clause-fits : goal.returns-clause-fits
returns-clause-fits c = record { short = omega (arith, c.in-Ok.ensures); small = small c.args.numbers.now (λ k. omega (arith, c.type_inv.numbers k)) }
