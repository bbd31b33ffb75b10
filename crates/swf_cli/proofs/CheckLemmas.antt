-- To check a document no call of the store is made, so none can fail.
use Rattle.std.proofs.Common.{◌≡◌, ◌⊎◌, ⊎_elim, ℕ, arith}
use Rattle.swf_check.specs.Checking.{IsHostFault}
use Rattle.swf_turns.specs.Blame.{IsBlamed}

pub check_blamed : (status host host_now store store_now : ℕ) → (status ≡ 0) ⊎ (status ≡ 1) ⊎ (status ≡ 4) ⊎ (status ≡ 6) → IsHostFault status host host_now → store_now ≡ store → IsBlamed status host host_now store store_now
check_blamed status host host_now store store_now which fault same = record {
  of_store = λ three. absurd (⊎_elim (λ e. omega (arith, e, three)) (λ r. ⊎_elim (λ e. omega (arith, e, three)) (λ r. ⊎_elim (λ e. omega (arith, e, three)) (λ e. omega (arith, e, three)) r) r) which);
  of_host = λ four. (fault.failed four, same);
  of_none = λ three four. (fault.done four, same);
}
