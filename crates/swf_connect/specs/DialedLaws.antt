-- What a read, and what a write, of a link in memory leaves alone.
use Rattle.std.specs.Prelude.{◌≡◌, ℕ, Some, refl}
use Rattle.std.proofs.Common.{ap}
use Rattle.swf_connect.specs.declared.memory_link.MemoryLink.{MemoryLink}
use Rattle.swf_connect.specs.Dialed.{link_about, link_beside, link_kept, link_lacks, link_left, link_written}

pub read_keeps_all : (a b : MemoryLink) → link_beside a ≡ link_beside b
    → (Some (link_written a) ≡ Some (link_written b)) × (link_lacks a ≡ link_lacks b) × (Some (link_about a) ≡ Some (link_about b))
read_keeps_all a b same = (ap (λ t. Some t.1) same, ap (λ t. t.2) same, ap (λ t. Some t.0) same)

pub write_keeps_all : (a b : MemoryLink) → link_kept a ≡ link_kept b
    → (Some (link_left a) ≡ Some (link_left b)) × (◌≡◌ {A = ℕ} 0 0) × (Some (link_about a) ≡ Some (link_about b))
write_keeps_all a b same = (ap (λ t. Some t.1) same, refl, ap (λ t. Some t.0) same)
