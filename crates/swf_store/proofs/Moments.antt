-- How a run of calls goes on, and what a stop at any moment of it leaves.
use Rattle.std.proofs.Common.{◌≡◌, inl, inr, ⊎_elim, ℕ, List, Option, ◌∙◌, arith}
use Rattle.swf_store.specs.declared.image.Image.{Image}
use Rattle.swf_store.specs.declared.said.Piece.{Piece}
use Rattle.swf_store.specs.Said.{IsSaid}
use Rattle.swf_store.specs.Stops.{Elapses, Leaves, LeavesOnly}

module _ {S : Type 0} (moment : S → ℕ) (left_since : S → ℕ → Image → List Piece → Type 0) where
  -- no call yet
  pub started : (old : S) (P : Image → List Piece → Type 0) → ((image : Image) (pieces : List Piece) → left_since old (moment old) image pieces → P image pieces) → Leaves moment left_since old old P
  started old P here = record { later = omega arith; each = here; before = λ t image pieces le left. inl left }

  -- one call
  pub called : (old new : S) (may_leave : Image → Type 0) (Q : List Piece → Type 0) (P : Image → List Piece → Type 0)
      → Elapses (moment old) (moment new) (left_since old) (left_since new) may_leave Q
      → ((image : Image) (pieces : List Piece) → left_since old (moment old) image pieces → P image pieces)
      → ((image : Image) (pieces : List Piece) → may_leave image → Q pieces → P image pieces)
      → Leaves moment left_since old new P
  called old new may_leave Q P time was now = record {
    later = time.later;
    each = λ image pieces left. ⊎_elim (λ w. was image pieces w) (λ n. now image pieces n.0 n.1) (time.nothing_else (moment old) image pieces (omega arith) left);
    before = λ t image pieces le left. ⊎_elim (λ w. inl w) (λ n. inr (now image pieces n.0 n.1)) (time.nothing_else t image pieces le left);
  }

  -- one run after another
  pub goes_on : (old mid new : S) (P Q R : Image → List Piece → Type 0) → Leaves moment left_since old mid P → Leaves moment left_since mid new Q
      → ((image : Image) (pieces : List Piece) → P image pieces → R image pieces) → ((image : Image) (pieces : List Piece) → Q image pieces → R image pieces)
      → Leaves moment left_since old new R
  goes_on old mid new P Q R first second p q = record {
    later = omega (arith, first.later, second.later);
    each = λ image pieces left. ⊎_elim
        (λ was. p image pieces (first.each image pieces was))
        (λ now. q image pieces now)
        (second.before (moment old) image pieces first.later left);
    before = λ t image pieces le left. ⊎_elim
        (λ was. ⊎_elim (λ earlier. inl earlier) (λ w. inr (p image pieces w)) (first.before t image pieces le was))
        (λ now. inr (q image pieces now))
        (second.before t image pieces (omega (arith, le, first.later)) left);
  }

  -- a run that leaves less
  pub weaker : (old new : S) (P R : Image → List Piece → Type 0) → Leaves moment left_since old new P
      → ((image : Image) (pieces : List Piece) → P image pieces → R image pieces) → Leaves moment left_since old new R
  weaker old new P R run p = record {
    later = run.later;
    each = λ image pieces left. p image pieces (run.each image pieces left);
    before = λ t image pieces le left. ⊎_elim (λ earlier. inl earlier) (λ w. inr (p image pieces w)) (run.before t image pieces le left);
  }

  module _ (said : S → Option (List Piece)) where
    -- one silent run after another
    pub goes_on_only : (old mid new : S) (P Q R : Image → Type 0) → said mid ≡ said old → LeavesOnly moment left_since said old mid P → LeavesOnly moment left_since said mid new Q
        → ((image : Image) → P image → R image) → ((image : Image) → Q image → R image) → LeavesOnly moment left_since said old new R
    goes_on_only old mid new P Q R silent first second p q =
        goes_on old mid new (λ image pieces. P image × IsSaid (said old) pieces) (λ image pieces. Q image × IsSaid (said mid) pieces) (λ image pieces. R image × IsSaid (said old) pieces) first second
        (λ image pieces is. (p image is.0, is.1))
        (λ image pieces is. (q image is.0, λ told same. is.1 told (silent ∙ same)))

    -- a silent run that leaves less
    pub weaker_only : (old new : S) (P R : Image → Type 0) → LeavesOnly moment left_since said old new P → ((image : Image) → P image → R image) → LeavesOnly moment left_since said old new R
    weaker_only old new P R run p =
        weaker old new (λ image pieces. P image × IsSaid (said old) pieces) (λ image pieces. R image × IsSaid (said old) pieces) run (λ image pieces is. (p image is.0, is.1))
