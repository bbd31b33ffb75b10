use Rattle.std.proofs.Common.{◌≡◌, ◌+◌, length}
use Rattle.json.specs.Text.{plain}
use Rattle.swf_jq_tokens.specs.Piece.{piece, grown}
use Rattle.swf_jq_tokens.proofs.piece.read_piece.Given as goal

abbrev pub invariant-letters : goal.invariant-letters
invariant-letters l =
    (grown l.text l.count (piece plain l.rest) ≡ piece plain l.fn.front) × (l.count + length l.rest ≡ length l.fn.front)

abbrev pub decreases-letters : goal.decreases-letters
decreases-letters l = length l.rest
