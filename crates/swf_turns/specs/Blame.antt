-- Whose call failed, by the status and the counts of faults.
use Rattle.std.specs.Prelude.{◌≡◌, ◌≢◌, ℕ}
use Rattle.swf_store.specs.Faults.{RoseOnce}

-- A call that failed is the last: at 3 the store's count of faults has risen by one, at 4 the host's, and else both stay.
pub record IsBlamed (status host host_now store store_now : ℕ) : Type 0 where
  pub of_store : status ≡ 3 → RoseOnce store store_now × (host_now ≡ host)
  pub of_host : status ≡ 4 → RoseOnce host host_now × (store_now ≡ store)
  pub of_none : status ≢ 3 → status ≢ 4 → (host_now ≡ host) × (store_now ≡ store)
