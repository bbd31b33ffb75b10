-- How the labels of a body are replayed.
use Rattle.std.proofs.Common.{◌≡◌, ◌∙◌, ap, sym, inr, ◌⊎◌, ⊎_elim, ℕ, zero, suc, ◌+◌, ◌-◌, ◌<◌, ◌≤◌, List, [], ◌∷◌, ◌++◌, length, take, drop, get_or, Some, None, Ok, Err, arith, length-append}
use Rattle.std.proofs.lemmas.List.{take_more}
use Rattle.std.proofs.Math.Seq.{split_at}
use Rattle.swf_runs.specs.After.{after}
use Rattle.swf_runs.proofs.RunLemmas.{run_one}
use Rattle.swf_engine.specs.declared.fault.EngineFault.{EngineFault}
use Rattle.swf_engine.specs.declared.fault.EngineFault.TheVariants.{Damaged, OutOfMemory}
use Rattle.swf_engine.specs.Damage.{IsBadBody}
use Rattle.swf_engine.proofs.MoveLemmas.{run_joined}
use Rattle.std.specs.Prelude.{flat_map}
use Rattle.std.specs.List.{AllByRecursion}
use Rattle.swf_meaning.specs.declared.label.Label.{Label}
use Rattle.swf_runs.specs.Runs.{run_from}
use Rattle.swf_meaning.specs.World.{World}
use Rattle.swf_record.specs.Decodes.{Reading, placed, record_in, decoded}
use Rattle.swf_record.specs.Encodes.{Fits, Nests, Encodes, label_bytes, label_place}
use Rattle.swf_record.proofs.Laws.{length_encodes}

placed_within : {A : Type 0} (bytes : List ℕ) (r : Reading A) (at : ℕ) → placed bytes r ≡ Err at → at ≤ length bytes
placed_within bytes (Ok p) at e = cc
placed_within bytes (Err rest) at e = let h : length bytes - length rest ≡ at = cc in omega (arith, h)

-- a field that does not fit begins within the bytes
pub bad_within : (bytes : List ℕ) (at : ℕ) → decoded bytes ≡ Err at → at ≤ length bytes
unfolding decoded
bad_within bytes at e = placed_within bytes (record_in bytes) at e

pub nests_first : (labels : List Label) (n : ℕ) → AllByRecursion Fits labels → AllByRecursion Nests (take n labels)
nests_first labels zero f = tt
nests_first [] (suc n) f = tt
nests_first (l ∷ labels) (suc n) f = (f.0.nests, nests_first labels n f.1)

bytes_first : (labels : List Label) (n : ℕ) → length (flat_map label_bytes (take n labels)) ≤ length (flat_map label_bytes labels)
bytes_first labels zero = omega arith
bytes_first [] (suc n) = omega arith
bytes_first (l ∷ labels) (suc n) = omega (arith, bytes_first labels n, length-append (label_bytes l) (flat_map label_bytes (take n labels)), length-append (label_bytes l) (flat_map label_bytes labels))

-- the first labels of a body end within it
pub place_first : (labels : List Label) (bytes : List ℕ) (n : ℕ) → Encodes labels bytes → label_place (take n labels) ≤ length bytes
place_first labels bytes n e = omega (arith, bytes_first labels n, length_encodes labels bytes e)

-- one label more
pub replayed_one : (w middle next : World) (labels : List Label) (n : ℕ) (l : Label) → n < length labels → l ≡ get_or labels n l → run_from w (take n labels) ≡ Some middle → after middle l ≡ Some next
    → run_from w (take (n + 1) labels) ≡ Some next
replayed_one w middle next labels n l lt is so_far legal =
    ap (run_from w) (take_more labels n l lt ∙ ap (λ (x : Label). take n labels ++ x ∷ []) (sym is)) ∙ run_joined w middle (take n labels) (l ∷ []) so_far ∙ run_one middle next l legal

-- a label whose condition does not hold
pub illegal_label : (w middle : World) (gate : ℕ) (body : List ℕ) (labels : List Label) (n : ℕ) (l : Label) (at : ℕ) (fault : EngineFault) → n < length labels → l ≡ get_or labels n l
    → decoded body ≡ Ok labels → run_from w (take n labels) ≡ Some middle → after middle l ≡ None
    → (fault ≡ OutOfMemory) ⊎ (fault ≡ Damaged (gate + 9 + label_place (take n labels))) → fault ≡ Damaged at → IsBadBody w gate body at
illegal_label w middle gate body labels n l at fault lt is spelled so_far refused which damaged = ⊎_elim
    (λ memory. absurd (cc))
    (λ there.
    let place : gate + 9 + label_place (take n labels) ≡ at = cc in
    inr (record {
      first = take n labels;
      label = l;
      more = drop (suc n) labels;
      middle = middle;
      spelled = spelled ∙ ap Ok (split_at labels n l lt ∙ ap (λ (x : Label). take n labels ++ x ∷ drop (suc n) labels) (sym is));
      legal = so_far;
      refused = refused;
      place = sym place;
    }))
    which
