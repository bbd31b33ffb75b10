-- What a stop leaves in each of the two writes of a frame.
use Rattle.std.proofs.Common.{◌≡◌, ◌≢◌, ◌⊎◌, inl, inr, ℕ, ◌+◌, ◌-◌, ◌<◌, ◌≤◌, min, Option, Some, None, true, List, [], ◌∷◌, ◌++◌, length, take, drop, get_or, replicate, refl, sym, ◌∙◌, ap, subst, arith, length-append}
use Rattle.std.specs.Prelude.{is_some}
use Rattle.std.proofs.lemmas.Bool.{cases_eq}
use Rattle.std.proofs.lemmas.List.{append_assoc, append-nil, take_at, drop_at, drop_more, take-append-drop}
use Rattle.swf_store.specs.declared.image.File.{File}
use Rattle.swf_store.specs.declared.image.Image.{Image}
use Rattle.swf_store.specs.Disk.{Torn, TornIn, Only}
use Rattle.swf_store.specs.Files.{bytes_of}
use Rattle.swf_store.specs.Put.{put}
use Rattle.swf_store.specs.Laws.{length-put}
use Rattle.swf_store.proofs.FileLemmas.{bytes_with, with_again, with_same}
use Rattle.swf_journal.specs.Frames.{open_gate, length_bytes, frames_bytes, next_gate, frame_tail}
use Rattle.swf_journal.specs.Appending.{staged, appended, BeforeOrAfter}
use Rattle.swf_journal.specs.Place.{IsReady, IsSettled, IsJournalOf}
use Rattle.swf_journal.specs.Stands.{Fits, IsShutAfter}
use Rattle.swf_journal.proofs.FrameLemmas.{nested, length-frame_tail, frames_push, next_push, fit_push}
use Rattle.swf_journal.proofs.StandsLemmas.{size_after}

-- a write within a list leaves no gap
pub put_within : (old bytes : List ℕ) (at : ℕ) → at ≤ length old → put old at bytes ≡ take at old ++ bytes ++ drop (at + length bytes) old
put_within old bytes at le =
    let none : at - length old ≡ 0 = omega (arith, le) in
    ap (λ n. take at old ++ replicate n 0 ++ bytes ++ drop (at + length bytes) old) none
    ∙ ap (λ (l : List ℕ). l ++ bytes ++ drop (at + length bytes) old) (append-nil (take at old))

pub some_of : (seen : Option Image) → is_some seen ≡ true → (image : Image) × (seen ≡ Some image)
some_of None is = absurd (cc)
some_of (Some image) is = (image, refl)

-- the bytes of these frames, a gate, and what stands behind it
abbrev laid : List ℕ → List (List ℕ) → ℕ → List ℕ → List ℕ
laid front frames gate rest = front ++ (frames_bytes frames ++ gate ∷ rest)

abbrev ahead : List ℕ → List (List ℕ) → List ℕ
ahead front frames = front ++ frames_bytes frames

module _ (front : List ℕ) (frames : List (List ℕ)) (place : ℕ) (here : place ≡ next_gate front frames) where
  length-ahead : length (ahead front frames) ≡ place
  length-ahead = omega (arith, here, length-append front (frames_bytes frames))

  split : (gate : ℕ) (rest : List ℕ) → laid front frames gate rest ≡ ahead front frames ++ gate ∷ rest
  split gate rest = sym (append_assoc front (frames_bytes frames) (gate ∷ rest))

  split_gate : (gate : ℕ) (rest : List ℕ) → laid front frames gate rest ≡ (ahead front frames ++ gate ∷ []) ++ rest
  split_gate gate rest = split gate rest ∙ sym (append_assoc (ahead front frames) (gate ∷ []) rest)

  length-gate : (gate : ℕ) → length (ahead front frames ++ gate ∷ []) ≡ place + 1
  length-gate gate = omega (arith, length-ahead, length-append (ahead front frames) (gate ∷ []))

  length-laid : (gate : ℕ) (rest : List ℕ) → length (laid front frames gate rest) ≡ place + 1 + length rest
  length-laid gate rest = omega (arith, here, size_after (laid front frames gate rest) front frames gate rest refl)

  taken : (gate : ℕ) (rest : List ℕ) → take (place + 1) (laid front frames gate rest) ≡ ahead front frames ++ gate ∷ []
  taken gate rest = ap (λ (l : List ℕ). take (place + 1) l) (split_gate gate rest) ∙ take_at (ahead front frames ++ gate ∷ []) rest (place + 1) (length-gate gate)

  -- a write behind the gate leaves the gate as it is
  behind_torn : (gate : ℕ) (rest : List ℕ) (n : ℕ) (new : List ℕ) → Torn (place + 1) n (laid front frames gate rest) new → new ≡ laid front frames gate (drop (place + 1) new)
  behind_torn gate rest n new torn =
      let all : min (place + 1) (length (laid front frames gate rest)) ≡ place + 1 = omega (arith, length-laid gate rest) in
      let kept : take (place + 1) new ≡ ahead front frames ++ gate ∷ [] = ap (λ k. take k new) (sym all) ∙ torn.before ∙ taken gate rest in
      sym (take-append-drop (place + 1) new) ∙ ap (λ (l : List ℕ). l ++ drop (place + 1) new) kept ∙ sym (split_gate gate (drop (place + 1) new))

  -- the frame behind its gate
  staged_is : (gate : ℕ) (rest bytes : List ℕ) → put (laid front frames gate rest) (place + 1) bytes ≡ laid front frames gate (bytes ++ drop (place + 1 + length bytes) (laid front frames gate rest))
  staged_is gate rest bytes =
      let old = laid front frames gate rest in
      let more = drop (place + 1 + length bytes) old in
      put_within old bytes (place + 1) (omega (arith, length-laid gate rest))
      ∙ ap (λ (l : List ℕ). l ++ bytes ++ more) (taken gate rest)
      ∙ append_assoc (ahead front frames ++ gate ∷ []) bytes more
      ∙ sym (split_gate gate (bytes ++ more))

  -- a write of the gate alone leaves some gate
  gate_torn : (gate : ℕ) (rest new : List ℕ) → Torn place 1 (laid front frames gate rest) new → new ≡ laid front frames (get_or new place 0) rest
  gate_torn gate rest new torn =
      let old = laid front frames gate rest in
      let all : min place (length old) ≡ place = omega (arith, length-laid gate rest) in
      let first : take place new ≡ ahead front frames =
      ap (λ k. take k new) (sym all) ∙ torn.before ∙ ap (λ (l : List ℕ). take place l) (split gate rest) ∙ take_at (ahead front frames) (gate ∷ rest) place length-ahead in
      let last : drop (place + 1) new ≡ rest =
      torn.after ∙ ap (λ (l : List ℕ). drop (place + 1) l) (split_gate gate rest) ∙ drop_at (ahead front frames ++ gate ∷ []) rest (place + 1) (length-gate gate) in
      let long : place < length new = omega (arith, torn.no_shorter, length-laid gate rest) in
      sym (take-append-drop place new)
      ∙ ap (λ (l : List ℕ). l ++ drop place new) first
      ∙ ap (λ (l : List ℕ). ahead front frames ++ l) (drop_more new place 0 long ∙ ap (λ (l : List ℕ). get_or new place 0 ∷ l) last)
      ∙ sym (split (get_or new place 0) rest)

  gate_written : (gate : ℕ) (rest : List ℕ) → put (laid front frames gate rest) place (open_gate ∷ []) ≡ laid front frames open_gate rest
  gate_written gate rest =
      let old = laid front frames gate rest in
      put_within old (open_gate ∷ []) place (omega (arith, length-laid gate rest))
      ∙ ap (λ (l : List ℕ). l ++ (open_gate ∷ []) ++ drop (place + 1) old) (ap (λ (l : List ℕ). take place l) (split gate rest) ∙ take_at (ahead front frames) (gate ∷ rest) place length-ahead)
      ∙ ap (λ (l : List ℕ). ahead front frames ++ (open_gate ∷ []) ++ l) (ap (λ (l : List ℕ). drop (place + 1) l) (split_gate gate rest) ∙ drop_at (ahead front frames ++ gate ∷ []) rest (place + 1) (length-gate gate))
      ∙ sym (split_gate open_gate rest)

-- an open gate before a whole frame and a closed gate
pub one_more : (front : List ℕ) (frames : List (List ℕ)) (body more : List ℕ) → laid front frames open_gate (frame_tail body ++ more) ≡ laid front (frames ++ body ∷ []) 0 more
one_more front frames body more =
    let len = length_bytes (length body) in
    ap (λ (l : List ℕ). front ++ (frames_bytes frames ++ open_gate ∷ l)) (nested len body (0 ∷ []) more)
    ∙ ap (λ (l : List ℕ). front ++ l) (sym (frames_push frames body (0 ∷ more)))

zero_is_shut : 0 ≢ open_gate
zero_is_shut is = absurd (omega (arith, is))

module _ (image : Image) (may_leave : Image → Type 0) (file : File) (place : ℕ) (front : List ℕ) (frames : List (List ℕ)) (settled : IsSettled image may_leave file place front frames) (body : List ℕ) where
  ready : IsReady (bytes_of image file) place front frames
  ready = settled.ready

  abbrev more : List ℕ
  more = drop (place + 1 + length (frame_tail body)) (laid front frames ready.holds.gate ready.holds.rest)

  staged_bytes : bytes_of (staged file place body image) file ≡ laid front frames ready.holds.gate (frame_tail body ++ more)
  staged_bytes =
      bytes_with image file (put (bytes_of image file) (place + 1) (frame_tail body))
      ∙ ap (λ (l : List ℕ). put l (place + 1) (frame_tail body)) ready.holds.laid
      ∙ staged_is front frames place ready.here ready.holds.gate ready.holds.rest (frame_tail body)

  shut_with : (new : List ℕ) (gate : ℕ) (rest : List ℕ) → gate ≢ open_gate → new ≡ laid front frames gate rest → IsShutAfter front new frames
  shut_with new gate rest shut is = record { gate = gate; rest = rest; laid = is; shut = shut; fit = ready.holds.fit }

  -- nothing is written yet
  pub before_writes : (left : Image) → may_leave left → BeforeOrAfter file front image frames body left
  before_writes left now =
      let same : left ≡ image = settled.durable left now in
      subst (BeforeOrAfter file front image frames body) (sym same) (record { others = sym (with_same image file); holds = inl ready.holds })

  pub first_torn : (left : Image) → TornIn file (place + 1) (length (frame_tail body)) image left → BeforeOrAfter file front image frames body left
  first_torn left torn =
      let is = behind_torn front frames place ready.here ready.holds.gate ready.holds.rest (length (frame_tail body)) (bytes_of left file)
      (subst (λ (l : List ℕ). Torn (place + 1) (length (frame_tail body)) l (bytes_of left file)) ready.holds.laid torn.torn) in
      record { others = torn.others; holds = inl (shut_with (bytes_of left file) ready.holds.gate _ ready.holds.shut is) }

  with_frame : (new : List ℕ) → Fits body → new ≡ laid front frames open_gate (frame_tail body ++ more) → IsShutAfter front new (frames ++ body ∷ [])
  with_frame new fits is = record { gate = 0; rest = more; laid = is ∙ one_more front frames body more; shut = zero_is_shut; fit = fit_push frames body ready.holds.fit fits }

  pub second_torn : Fits body → (left : Image) → TornIn file place 1 (staged file place body image) left → BeforeOrAfter file front image frames body left
  second_torn fits left torn =
      let is = gate_torn front frames place ready.here ready.holds.gate (frame_tail body ++ more) (bytes_of left file) (subst (λ (l : List ℕ). Torn place 1 l (bytes_of left file)) staged_bytes torn.torn) in
      record {
        others = torn.others ∙ with_again image file (put (bytes_of image file) (place + 1) (frame_tail body)) (bytes_of left file);
        holds = either (bytes_of left file) (get_or (bytes_of left file) place 0) is;
      }
    where
      either : (new : List ℕ) (gate : ℕ) → new ≡ laid front frames gate (frame_tail body ++ more) → IsShutAfter front new frames ⊎ IsShutAfter front new (frames ++ body ∷ [])
      either new gate is = elim (cases_eq gate open_gate) [
        | inl opened ↦ inr (with_frame new fits (is ∙ ap (λ x. laid front frames x (frame_tail body ++ more)) opened))
        | inr shut ↦ inl (shut_with new gate (frame_tail body ++ more) shut is)
      ]

  appended_bytes : bytes_of (appended file place body image) file ≡ laid front frames open_gate (frame_tail body ++ more)
  appended_bytes =
      bytes_with (staged file place body image) file (put (bytes_of (staged file place body image) file) place (open_gate ∷ []))
      ∙ ap (λ (l : List ℕ). put l place (open_gate ∷ [])) staged_bytes
      ∙ gate_written front frames place ready.here ready.holds.gate (frame_tail body ++ more)

  pub after_writes : Fits body → (now : Image → Type 0) → Only (appended file place body image) now → IsSettled (appended file place body image) now file (place + 9 + length body) front (frames ++ body ∷ [])
  after_writes fits now only =
      record { ready = record { holds = with_frame (bytes_of (appended file place body image) file) fits appended_bytes; here = omega (arith, ready.here, next_push front frames body) }; durable = only }

-- the sizes of the file while a frame is written
pub length-staged : (image : Image) (file : File) (at : ℕ) (body : List ℕ) → at < length (bytes_of image file) → at + 10 + length body ≤ length (bytes_of (staged file at body image) file)
length-staged image file at body within =
    let is = bytes_with image file (put (bytes_of image file) (at + 1) (frame_tail body)) in
    omega (arith, within, ap (λ (l : List ℕ). length l) is, length-put (bytes_of image file) (frame_tail body) (at + 1), length-frame_tail body)

pub length-appended : (image : Image) (file : File) (at : ℕ) (body : List ℕ) → at < length (bytes_of image file) → at + 9 + length body < length (bytes_of (appended file at body image) file)
length-appended image file at body within =
    let stage = staged file at body image in
    let is = bytes_with stage file (put (bytes_of stage file) at (open_gate ∷ [])) in
    omega (arith, length-staged image file at body within, ap (λ (l : List ℕ). length l) is, length-put (bytes_of stage file) (open_gate ∷ []) at)

-- and the gate of the next frame lies in it
pub ready_again : (old new : Option Image) (file : File) (at limit : ℕ) (body : List ℕ) → is_some new ≡ is_some old → IsJournalOf old (record { file = file; at = at; limit = limit })
    → ((image : Image) → old ≡ Some image → new ≡ Some (appended file at body image)) → IsJournalOf new (record { file = file; at = at + 9 + length body; limit = limit })
ready_again old new file at limit body honest stood goes = λ image seen.
    let before = some_of old (sym honest ∙ ap is_some seen) in
    let is = goes before.0 before.1 in
    let same : appended file at body before.0 ≡ image = cc in
    subst (λ (i : Image). at + 9 + length body < length (bytes_of i file)) same (length-appended before.0 file at body (stood before.0 before.1))
