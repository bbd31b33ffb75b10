-- That the moments of a host in memory are its calls of the store and its pieces.
use Rattle.std.proofs.Common.{◌≡◌, ℕ, ◌+◌, ◌≤◌, List, Some, length, refl, sym, ◌∙◌, ap, subst, arith}
use Rattle.std.proofs.lemmas.List.{take_all, drop_all}
use Rattle.std.proofs.lemmas.List.Elements.{All-nil}
use Rattle.swf_store.specs.declared.image.Image.{Image}
use Rattle.swf_store.specs.declared.said.Piece.{Piece}
use Rattle.swf_store.specs.Memory.{Memory, state_of, state_after}
use Rattle.swf_store.specs.Replay.{IsLeft}
use Rattle.swf_store.specs.Said.{IsSaid}
use Rattle.swf_host.specs.declared.script.Said.{Said}
use Rattle.swf_host.specs.Hosted.{StopsSince, SaidFrom, pieces_of}

pub stops_count_now : (memory : Memory) (said : List Said) (t : ℕ) (image : Image) (pieces : List Piece) → t ≤ length memory.calls + length said
    → IsLeft (state_of memory) image → IsSaid (Some (pieces_of said)) pieces → StopsSince memory said t image pieces
stops_count_now memory said t image pieces le left is = record {
  calls = length memory.calls;
  number = length said;
  not_before = le;
  made = omega arith;
  spoken = omega arith;
  left = left;
  pieces_are = is (pieces_of said) refl ∙ ap pieces_of (sym (take_all (length said) said (omega arith)));
  said_by = λ fewer. absurd (omega (arith, fewer));
  said_from = subst (SaidFrom (length memory.calls)) (sym (drop_all (length said) said (omega arith))) (All-nil (λ s. length memory.calls ≤ s.calls));
}

pub stops_only_now : (memory : Memory) (said : List Said) (image : Image) (pieces : List Piece) → StopsSince memory said (length memory.calls + length said) image pieces
    → IsLeft (state_of memory) image × IsSaid (Some (pieces_of said)) pieces
stops_only_now memory said image pieces since =
    let all_calls : since.calls ≡ length memory.calls = omega (arith, since.not_before, since.made, since.spoken) in
    let all_said : length said ≤ since.number = omega (arith, since.not_before, since.made, since.spoken) in (
      subst (λ n. IsLeft (state_after memory n) image) all_calls since.left,
      λ told is. let same : pieces_of said ≡ told = cc in since.pieces_are ∙ ap pieces_of (take_all since.number said all_said) ∙ same,
    )
