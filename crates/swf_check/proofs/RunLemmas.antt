-- One input is taken, and what is said of it is said.
use Rattle.std.proofs.Common.{◌≡◌, ◌∙◌, ap, sym, refl, subst, inl, inr, ⊎_elim, ◌⊎◌, ℕ, ◌+◌, List, [], ◌∷◌, ◌++◌, append-nil, length, length-append, Option, Some, option_map, Bool, true, false, if◌then◌else◌, arith}
use Rattle.swf_store.specs.declared.image.Image.{Image}
use Rattle.swf_store.specs.declared.said.Piece.{Piece}
use Rattle.swf_store.specs.Disk.{NothingNew}
use Rattle.swf_store.specs.Said.{IsSaid, SaidPart, and_piece}
use Rattle.swf_store.specs.Stops.{ElapsesSilent, Leaves}
use Rattle.swf_store.proofs.Moments.{called, goes_on, weaker}
use Rattle.swf_host.specs.declared.host.Input.{Input}
use Rattle.swf_check.specs.Verdict.{judged, status_of}
use Rattle.swf_check.specs.Checking.{CheckRun, IsChecked, IsSaying, Spoken}

-- what is found of a document is told by 0 or 1
abbrev status_in : Bool → ℕ
status_in accepted = if accepted then 0 else 1

small : (accepted : Bool) → (status_in accepted ≡ 0) ⊎ (status_in accepted ≡ 1)
small true = inl refl
small false = inr refl

module _ {W S : Type 0} (moment : S → ℕ) (left_since : S → ℕ → Image → List Piece → Type 0) (said : S → Option (List Piece)) (may_leave : S → Image → Type 0) (taken : S → Option (List (Input W)))
    (only_now : (s : S) (image : Image) (pieces : List Piece) → left_since s (moment s) image pieces → may_leave s image × IsSaid (said s) pieces)
    (old one : S) (silent : said one ≡ said old) (stop : NothingNew (may_leave old) (may_leave one))
    (time : ElapsesSilent (moment old) (moment one) (left_since old) (left_since one) (may_leave one) (said old)) where
  -- while the input is taken
  came : (pieces : List Piece) → said old ≡ Some pieces → Leaves moment left_since old one (λ image now. may_leave old image × (now ≡ pieces))
  came pieces is =
      called moment left_since old one (may_leave one) (IsSaid (said old)) (λ image now. may_leave old image × (now ≡ pieces)) time
      (λ image now left. let n = only_now old image now left in (n.0, n.1 pieces is))
      (λ image now may q. (stop image may, q pieces is))

  silent_moments : (inputs more : List (Input W)) (pieces : List Piece) → said old ≡ Some pieces → Leaves moment left_since old one (λ image now. may_leave old image × IsSaying inputs pieces more now)
  silent_moments inputs more pieces is =
      weaker moment left_since old one (λ image now. may_leave old image × (now ≡ pieces)) (λ image now. may_leave old image × IsSaying inputs pieces more now)
      (came pieces is) (λ image now h. (h.0, inl h.1))

  -- no input was taken
  pub none_came : taken one ≡ taken old → CheckRun moment left_since said may_leave taken old one 4
  none_came same = record {
    moments = λ inputs took pieces is. ([], omega arith, same ∙ took ∙ ap Some (sym (append-nil inputs)), silent_moments inputs [] pieces is);
    finish = λ inputs took pieces is either. absurd (⊎_elim (λ e. omega (arith, e)) (λ e. omega (arith, e)) either);
    short = λ six. silent;
  }

  module _ (input : Input W) (took_one : taken one ≡ option_map (λ (all : List (Input W)). all ++ input ∷ []) (taken old)) where
    all_taken : (inputs : List (Input W)) → taken old ≡ Some inputs → taken one ≡ Some (inputs ++ input ∷ [])
    all_taken inputs took = took_one ∙ ap (option_map (λ (all : List (Input W)). all ++ input ∷ [])) took

    -- nothing was said of it
    pub nothing_said : CheckRun moment left_since said may_leave taken old one 6
    nothing_said = record {
      moments = λ inputs took pieces is. (input ∷ [], omega arith, all_taken inputs took, silent_moments inputs (input ∷ []) pieces is);
      finish = λ inputs took pieces is either. absurd (⊎_elim (λ e. omega (arith, e)) (λ e. omega (arith, e)) either);
      short = λ six. silent;
    }

    module _ (new : S) (accepted : Bool) (bytes : List ℕ) (status : ℕ) (same : accepted ≡ (judged input).accepted) (lines : bytes ≡ (judged input).lines)
        (spoken : Spoken moment left_since said may_leave taken one new bytes (if accepted then 0 else 1) status) where
      one_more : (inputs : List (Input W)) → length (inputs ++ input ∷ []) ≡ length inputs + 1
      one_more inputs = length-append inputs (input ∷ [])

      said_part : (inputs : List (Input W)) (pieces now : List Piece) → SaidPart 0 bytes (length (inputs ++ input ∷ [])) pieces now → IsSaying inputs pieces (input ∷ []) now
      said_part inputs pieces now part =
          inr (input, refl, subst (λ (n : ℕ). SaidPart 0 (judged input).lines n pieces now) (one_more inputs) (subst (λ (b : List ℕ). SaidPart 0 b (length (inputs ++ input ∷ [])) pieces now) lines part))

      moments_said : (inputs : List (Input W)) → taken old ≡ Some inputs → (pieces : List Piece) → said old ≡ Some pieces → Leaves moment left_since old new (λ image now. may_leave old image × IsSaying inputs pieces (input ∷ []) now)
      moments_said inputs took pieces is =
          goes_on moment left_since old one new (λ image now. may_leave old image × (now ≡ pieces)) (λ image now. may_leave one image × SaidPart 0 bytes (length (inputs ++ input ∷ [])) pieces now) (λ image now. may_leave old image × IsSaying inputs pieces (input ∷ []) now)
          (came pieces is) (spoken.leaves (inputs ++ input ∷ []) (all_taken inputs took) pieces (silent ∙ is))
          (λ image now h. (h.0, inl h.1))
          (λ image now h. (stop image h.0, said_part inputs pieces now h.1))

      checked : (inputs : List (Input W)) → taken old ≡ Some inputs → (pieces : List Piece) → said old ≡ Some pieces → status ≡ (if accepted then 0 else 1) → IsChecked inputs pieces status (taken new) (said new)
      checked inputs took pieces is done = record {
        input = input;
        status_is = done ∙ ap (λ (b : Bool). if b then 0 else 1) same;
        taken = spoken.taken_same ∙ all_taken inputs took;
        told =
            spoken.whole (inputs ++ input ∷ []) (all_taken inputs took) pieces (silent ∙ is) done
            ∙ ap (λ (b : List ℕ). Some (and_piece 0 b (length (inputs ++ input ∷ [])) pieces)) lines
            ∙ ap (λ (n : ℕ). Some (and_piece 0 (judged input).lines n pieces)) (one_more inputs);
      }

      -- it was said, or the host failed
      pub all_said : CheckRun moment left_since said may_leave taken old new status
      all_said = record {
        moments = λ inputs took pieces is. (input ∷ [], omega arith, spoken.taken_same ∙ all_taken inputs took, moments_said inputs took pieces is);
        finish = λ inputs took pieces is either. ⊎_elim
            (λ done. checked inputs took pieces is done)
            (λ four. absurd (⊎_elim (λ e. omega (arith, e, four)) (λ e. omega (arith, e, four)) either))
            spoken.which;
        short = λ six. absurd (⊎_elim
            (λ done. let e : status ≡ status_in accepted = done in ⊎_elim (λ z. omega (arith, six, e ∙ z)) (λ o. omega (arith, six, e ∙ o)) (small accepted))
            (λ four. omega (arith, six, four))
            spoken.which);
      }
