-- The bytes of frames: their lengths, one frame more, and how a list of bytes falls into parts.
use Rattle.std.proofs.Common.{◌≡◌, ℕ, ◌+◌, ◌-◌, ◌^◌, ◌<◌, List, [], ◌∷◌, ◌++◌, length, take, drop, refl, sym, ◌∙◌, ap, arith, w64, length-append}
use Rattle.std.specs.Int.{from_be_bytes}
use Rattle.std.specs.List.{AllByRecursion}
use Rattle.std.proofs.lemmas.List.{append_assoc, take_at, drop_at}
use Rattle.std.proofs.lemmas.Nat.{from_be_bytes-to_be_bytes_8}
use Rattle.swf_journal.specs.Frames.{header, open_gate, length_bytes, frames_bytes, next_gate, frame_tail}
use Rattle.swf_journal.specs.Stands.{Fits}

pub length-header : length header ≡ 16
unfolding header
length-header = refl

pub length-length_bytes : (n : ℕ) → length (length_bytes n) ≡ 8
unfolding length_bytes
length-length_bytes n = refl

-- a length is spelled in one way
pub same_length : (m n : ℕ) → m < 2 ^ 64 → n < 2 ^ 64 → length_bytes m ≡ length_bytes n → m ≡ n
unfolding length_bytes
same_length m n fits fits' is =
    sym (from_be_bytes-to_be_bytes_8 m fits) ∙ ap (λ (l : List ℕ). from_be_bytes w64 l) is ∙ from_be_bytes-to_be_bytes_8 n fits'

-- two ways to cut a list in the same place
pub parts_are : (a b c d : List ℕ) → a ++ b ≡ c ++ d → length a ≡ length c → (a ≡ c) × (b ≡ d)
parts_are a b c d is same = (
  sym (take_at a b (length a) refl) ∙ ap (λ (l : List ℕ). take (length a) l) is ∙ take_at c d (length a) (sym same),
  sym (drop_at a b (length a) refl) ∙ ap (λ (l : List ℕ). drop (length a) l) is ∙ drop_at c d (length a) (sym same),
)

pub nested : (a b c d : List ℕ) → a ++ (b ++ c) ++ d ≡ a ++ (b ++ (c ++ d))
nested a b c d = append_assoc a (b ++ c) d ∙ ap (λ (l : List ℕ). a ++ l) (append_assoc b c d)

-- one frame more
pub frames_push : (frames : List (List ℕ)) (body rest : List ℕ)
    → frames_bytes (frames ++ body ∷ []) ++ rest ≡ frames_bytes frames ++ (open_gate ∷ (length_bytes (length body) ++ (body ++ rest)))
frames_push [] body rest =
    let len = length_bytes (length body) in
    ap (λ (l : List ℕ). open_gate ∷ l) (nested len body [] rest)
frames_push (first ∷ frames) body rest =
    let len = length_bytes (length first) in
    let more = open_gate ∷ (length_bytes (length body) ++ (body ++ rest)) in
    ap (λ (l : List ℕ). open_gate ∷ l) (nested len first (frames_bytes (frames ++ body ∷ [])) rest
    ∙ ap (λ (l : List ℕ). len ++ (first ++ l)) (frames_push frames body rest)
    ∙ sym (nested len first (frames_bytes frames) more))

pub next_push : (front : List ℕ) (frames : List (List ℕ)) (body : List ℕ) → next_gate front (frames ++ body ∷ []) ≡ next_gate front frames + 9 + length body
next_push front frames body =
    let all = frames_bytes (frames ++ body ∷ []) in
    let len = length_bytes (length body) in
    let frame = open_gate ∷ (len ++ (body ++ [])) in
    let same : length (all ++ []) ≡ length (frames_bytes frames ++ frame) = ap (λ (l : List ℕ). length l) (frames_push frames body []) in
    let size : length (len ++ (body ++ [])) ≡ 8 + length body = omega (arith, length-append len (body ++ []), length-append body [], length-length_bytes (length body)) in
    omega (arith, same, size, length-append all [], length-append (frames_bytes frames) frame)

pub fit_push : (frames : List (List ℕ)) (body : List ℕ) → AllByRecursion Fits frames → Fits body → AllByRecursion Fits (frames ++ body ∷ [])
fit_push [] body fit fits = (fits, tt)
fit_push (first ∷ frames) body fit fits = (fit.0, fit_push frames body fit.1 fits)

pub length-frame_tail : (body : List ℕ) → length (frame_tail body) ≡ length body + 9
length-frame_tail body =
    let len = length_bytes (length body) in
    omega (arith, length-append len (body ++ 0 ∷ []), length-append body (0 ∷ []), length-length_bytes (length body))

-- the body stands between its length and the closed gate
pub body_in_tail : (body bytes : List ℕ) → bytes ≡ frame_tail body → take (length bytes - 9) (drop 8 bytes) ≡ body
body_in_tail body bytes is =
    let len = length_bytes (length body) in
    let size : length body ≡ length bytes - 9 = omega (arith, ap (λ (l : List ℕ). length l) is, length-frame_tail body) in
    ap (λ (l : List ℕ). take (length bytes - 9) l) (ap (λ (l : List ℕ). drop 8 l) is ∙ drop_at len (body ++ 0 ∷ []) 8 (length-length_bytes (length body)))
    ∙ take_at body (0 ∷ []) (length bytes - 9) size
