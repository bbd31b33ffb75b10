-- What opening makes of a journal, and what it finds at a gate.
use Rattle.std.proofs.Common.{◌≡◌, ◌≢◌, inl, inr, ⊎_elim, ℕ, ◌+◌, ◌<◌, ◌≤◌, max, Bool, true, false, Option, Some, List, [], ◌∷◌, ◌++◌, length, take, drop, get_or, refl, sym, ◌∙◌, ap, subst, arith, if◌then◌else◌, length-append, length-drop, length-take}
use Rattle.std.specs.Prelude.{is_some}
use Rattle.std.proofs.lemmas.Bool.{cases_lt, lt-ltb, le-ltb}
use Rattle.std.proofs.lemmas.List.{append_assoc, take-append-drop, drop_more, take_all, drop-drop}
use Rattle.swf_store.specs.declared.image.File.{File}
use Rattle.swf_store.specs.declared.image.File.TheVariants.{Journal}
use Rattle.swf_store.specs.declared.image.Image.{Image}
use Rattle.swf_store.specs.declared.said.Piece.{Piece}
use Rattle.swf_store.specs.Disk.{TornIn, Only, NothingNew}
use Rattle.swf_store.specs.Files.{bytes_of, with_bytes}
use Rattle.swf_store.specs.Put.{put}
use Rattle.swf_store.specs.Stops.{LeavesOnly}
use Rattle.swf_store.proofs.Moments.{goes_on_only}
use Rattle.swf_journal.specs.declared.reading.Head.TheVariants.{Shut, Cut, Open}
use Rattle.swf_journal.specs.Frames.{header, open_gate, length_bytes, frames_bytes}
use Rattle.swf_journal.specs.Opening.{begun, opened, IsFrame, IsHead, IsDamage, IsUntouched, KeepsFrames}
use Rattle.swf_journal.specs.Place.{Place, HasRead, IsReadingOf}
use Rattle.swf_journal.specs.Stands.{IsShutAfter, StandsFor}
use Rattle.swf_journal.proofs.FrameLemmas.{length-header, length-length_bytes, same_length, parts_are, frames_push, next_push, fit_push}
use Rattle.swf_journal.proofs.AppendLemmas.{put_within, some_of}
use Rattle.swf_journal.proofs.StandsLemmas.{behind_is}

-- a gate that is not open
pub shut_head : (behind : List ℕ) → IsHead (take 9 behind) Shut → (gate : ℕ) (rest : List ℕ) → behind ≡ gate ∷ rest → gate ≢ open_gate
shut_head behind head gate rest is = head gate (take 8 rest) (ap (λ (l : List ℕ). take 9 l) is)

length-frame : (behind body after : List ℕ) → IsFrame behind body after → length behind ≡ 9 + length body + length after
length-frame behind body after frame =
    let len = length_bytes (length body) in
    omega (arith, ap (λ (l : List ℕ). length l) frame.bytes, length-append len (body ++ after), length-append body after, length-length_bytes (length body))

-- fewer than nine bytes from an open gate on hold no frame
pub cut_head : (behind : List ℕ) → IsHead (take 9 behind) Cut → IsDamage behind
cut_head behind head =
    let short : length behind < 9 = omega (arith, head.2, length-take 9 behind) in
    record {
      rest = head.0;
      opened = sym (take_all 9 behind (omega (arith, short))) ∙ head.1;
      no_frame = λ body after frame. omega (arith, short, frame.gate, length-frame behind body after frame);
    }

-- the bytes behind an open gate and the length of its frame
pub open_head : (behind : List ℕ) (len : ℕ) → IsHead (take 9 behind) (Open len) → behind ≡ open_gate ∷ (length_bytes len ++ drop 9 behind)
open_head behind len head = sym (take-append-drop 9 behind) ∙ ap (λ (l : List ℕ). l ++ drop 9 behind) head.0

-- a length that passes the end
pub long_head : (behind : List ℕ) (len : ℕ) → IsHead (take 9 behind) (Open len) → length behind ≤ 9 + len → IsDamage behind
long_head behind len head past =
    let split = open_head behind len head in
    record {
      rest = length_bytes len ++ drop 9 behind;
      opened = split;
      no_frame = λ body after frame. omega (arith, past, frame.gate, length-frame behind body after frame, same body after frame);
    }
  where
    same : (body after : List ℕ) → IsFrame behind body after → length body ≡ len
    same body after frame =
        let both : open_gate ∷ (length_bytes (length body) ++ (body ++ after)) ≡ open_gate ∷ (length_bytes len ++ drop 9 behind) = sym frame.bytes ∙ open_head behind len head in
        let tails : length_bytes (length body) ++ (body ++ after) ≡ length_bytes len ++ drop 9 behind = cc in
        same_length (length body) len frame.fits head.1 (parts_are (length_bytes (length body)) (body ++ after) (length_bytes len) (drop 9 behind) tails (length-length_bytes (length body) ∙ sym (length-length_bytes len))).0

-- a frame that is there
pub whole_head : (behind body : List ℕ) (len : ℕ) → IsHead (take 9 behind) (Open len) → 9 + len < length behind → body ≡ take len (drop 9 behind) → IsFrame behind body (drop (9 + len) behind)
whole_head behind body len head room is =
    let size : length body ≡ len = omega (arith, room, ap (λ (l : List ℕ). length l) is, length-take len (drop 9 behind), length-drop 9 behind) in
    let split : drop 9 behind ≡ body ++ drop (9 + len) behind =
    sym (take-append-drop len (drop 9 behind)) ∙ ap (λ (l : List ℕ). l ++ drop len (drop 9 behind)) (sym is) ∙ ap (λ (l : List ℕ). body ++ l) (drop-drop len 9 behind) in
    record {
      bytes = open_head behind len head ∙ ap (λ (l : List ℕ). open_gate ∷ (length_bytes len ++ l)) split ∙ ap (λ n. open_gate ∷ (length_bytes n ++ (body ++ drop (9 + len) behind))) (sym size);
      gate = omega (arith, room, length-drop (9 + len) behind);
      fits = omega (arith, size, head.1);
    }

-- one frame more is read
pub read_on : (bytes : List ℕ) (place : Place) (front : List ℕ) (frames : List (List ℕ)) (body after : List ℕ) → HasRead bytes place front frames → IsFrame (drop place.gate bytes) body after
    → HasRead bytes (record place { gate = place.gate + 9 + length body; ended = false }) front (frames ++ body ∷ [])
read_on bytes place front frames body [] read frame = absurd (omega (arith, frame.gate))
read_on bytes place front frames body (y ∷ ys) read frame =
    let here : read.gate ∷ read.rest ≡ open_gate ∷ (length_bytes (length body) ++ (body ++ y ∷ ys)) = sym (behind_is bytes place front frames read) ∙ frame.bytes in
    record {
      gate = y;
      rest = ys;
      laid = read.laid ∙ ap (λ (l : List ℕ). front ++ (frames_bytes frames ++ l)) here ∙ ap (λ (l : List ℕ). front ++ l) (sym (frames_push frames body (y ∷ ys)));
      fit = fit_push frames body read.fit frame.fits;
      here = omega (arith, read.here, next_push front frames body);
      ended = λ no. absurd (cc);
    }

-- the gate is not open, and the reading ends
pub read_end : (bytes : List ℕ) (place : Place) (front : List ℕ) (frames : List (List ℕ)) → HasRead bytes place front frames → ((gate : ℕ) (rest : List ℕ) → drop place.gate bytes ≡ gate ∷ rest → gate ≢ open_gate)
    → HasRead bytes (record place { ended = true }) front frames × IsShutAfter front bytes frames
read_end bytes place front frames read shut =
    let closed : read.gate ≢ open_gate = shut read.gate read.rest (behind_is bytes place front frames read) in (
      record { gate = read.gate; rest = read.rest; laid = read.laid; fit = read.fit; here = read.here; ended = λ _. closed },
      record { gate = read.gate; rest = read.rest; laid = read.laid; shut = closed; fit = read.fit },
    )

-- a journal that is too short gets a header
pub begun_short : (journal : List ℕ) → length journal < 25 → begun journal ≡ header ++ 0 ∷ [] ++ drop 17 journal
begun_short journal short = ap (λ (b : Bool). if b then header ++ 0 ∷ [] ++ drop 17 journal else journal) (lt-ltb (length journal) 25 short)

pub begun_long : (journal : List ℕ) → 25 ≤ length journal → begun journal ≡ journal
begun_long journal long = ap (λ (b : Bool). if b then header ++ 0 ∷ [] ++ drop 17 journal else journal) (le-ltb (length journal) 25 long)

length-new : length (header ++ 0 ∷ []) ≡ 17
length-new = omega (arith, length-header, length-append header (0 ∷ []))

pub put_header : (journal : List ℕ) → length journal < 25 → put journal 0 (header ++ 0 ∷ []) ≡ begun journal
put_header journal short =
    put_within journal (header ++ 0 ∷ []) 0 (omega arith)
    ∙ ap (λ n. header ++ 0 ∷ [] ++ drop n journal) (let e : 0 + length (header ++ 0 ∷ []) ≡ 17 = omega (arith, length-new) in e)
    ∙ sym (begun_short journal short)

pub length-begun : (journal : List ℕ) → length journal < 25 → length (begun journal) ≡ max (length journal) 17
length-begun journal short =
    omega (arith, ap (λ (l : List ℕ). length l) (begun_short journal short), length-new, length-append (header ++ 0 ∷ []) (drop 17 journal), length-drop 17 journal)

zero_is_shut : 0 ≢ open_gate
zero_is_shut is = absurd (omega (arith, is))

-- a reading that begins behind a header that was made anew
pub read_new : (journal : List ℕ) (place : Place) → length journal < 25 → place.gate ≡ 16 → place.ended ≡ false → HasRead (begun journal) place header []
read_new journal place short here ended = record {
  gate = 0;
  rest = drop 17 journal;
  laid = begun_short journal short ∙ append_assoc header (0 ∷ []) (drop 17 journal);
  fit = tt;
  here = omega (arith, here, length-header);
  ended = λ no. absurd (cc);
}

-- a reading that begins behind a header that was there
pub read_first : (journal : List ℕ) (place : Place) → 16 < length journal → take 16 journal ≡ header → place.gate ≡ 16 → place.ended ≡ false → HasRead journal place header []
read_first journal place long right here ended =
    let behind : drop 16 journal ≡ get_or journal 16 0 ∷ drop 17 journal = drop_more journal 16 0 (omega (arith, long)) in
    record {
      gate = get_or journal 16 0;
      rest = drop 17 journal;
      laid = sym (take-append-drop 16 journal) ∙ ap (λ (l : List ℕ). l ++ drop 16 journal) right ∙ ap (λ (l : List ℕ). header ++ l) behind;
      fit = tt;
      here = omega (arith, here, length-header);
      ended = λ no. absurd (cc);
    }

-- the same of what opening made of it
pub read_old : (journal : List ℕ) (place : Place) → 25 ≤ length journal → take 16 journal ≡ header → place.gate ≡ 16 → place.ended ≡ false → HasRead (begun journal) place header []
read_old journal place long right here ended =
    subst (λ (l : List ℕ). HasRead l place header []) (sym (begun_long journal long)) (read_first journal place (omega (arith, long)) right here ended)

-- what opening makes of a journal holds the frames that it stands for
pub begun_holds : (journal : List ℕ) (frames : List (List ℕ)) → StandsFor journal frames → IsShutAfter header (begun journal) frames
begun_holds journal frames (inl none) = subst (IsShutAfter header (begun journal)) (sym none.1) (record {
  gate = 0;
  rest = drop 17 journal;
  laid = begun_short journal none.0 ∙ append_assoc header (0 ∷ []) (drop 17 journal);
  shut = zero_is_shut;
  fit = tt;
})
begun_holds journal frames (inr long) = subst (λ (l : List ℕ). IsShutAfter header l frames) (sym (begun_long journal long.0)) long.1

pub keeps_itself : (image : Image) → KeepsFrames image image
keeps_itself image = record { others = refl; stands = λ frames stands. stands }

-- where a stop leaves the image alone
pub only_keeps : (image : Image) (may_leave : Image → Type 0) → Only image may_leave → (left : Image) → may_leave left → KeepsFrames image left
only_keeps image may_leave only left now = subst (KeepsFrames image) (sym (only left now)) (keeps_itself image)

-- a journal that is too short stands for no frames, however its header is torn
pub keeps_short : (image left : Image) → length image.journal < 25 → left ≡ with_bytes image Journal left.journal → length left.journal < 25 → KeepsFrames image left
keeps_short image left short others short' = record { others = others; stands = λ frames stands. ⊎_elim (λ none. inl (short', none.1)) (λ long. absurd (omega (arith, short, long.0))) stands }

pub header_torn : (image left : Image) → length image.journal < 25 → TornIn Journal 0 17 image left → KeepsFrames image left
header_torn image left short torn = keeps_short image left short torn.others (omega (arith, short, torn.torn.no_longer))

pub keeps_begun : (image : Image) → KeepsFrames image (with_bytes image Journal (begun image.journal))
keeps_begun image = ⊎_elim
    (λ short. keeps_short image (with_bytes image Journal (begun image.journal)) short refl (omega (arith, short, length-begun image.journal short)))
    (λ long. subst (λ (l : List ℕ). KeepsFrames image (with_bytes image Journal l)) (sym (begun_long image.journal long)) (keeps_itself image))
    (cases_lt (length image.journal) 25)

module _ {S : Type 0} (moment : S → ℕ) (left_since : S → ℕ → Image → List Piece → Type 0) (said : S → Option (List Piece)) (may_leave : S → Image → Type 0) (image : Image) (old mid new : S)
    (silent : said mid ≡ said old) (only : Only image (may_leave old)) (nothing : NothingNew (may_leave old) (may_leave mid)) (first : LeavesOnly moment left_since said old mid (may_leave old)) where
  -- one look after another
  pub looks_keep : LeavesOnly moment left_since said mid new (may_leave mid) → LeavesOnly moment left_since said old new (KeepsFrames image)
  looks_keep second =
      let keeps = only_keeps image (may_leave old) only in
      goes_on_only moment left_since said old mid new _ _ (KeepsFrames image) silent first second keeps (λ left now. keeps left (nothing left now))

  -- a header that is written after a look
  pub header_keeps : length image.journal < 25 → (Only image (may_leave mid) → LeavesOnly moment left_since said mid new (TornIn Journal 0 17 image)) → LeavesOnly moment left_since said old new (KeepsFrames image)
  header_keeps short second =
      goes_on_only moment left_since said old mid new _ _ (KeepsFrames image) silent first (second (λ left now. only left (nothing left now))) (only_keeps image (may_leave old) only) (λ left torn. header_torn image left short torn)

-- a reading stands in the file that opening has made
pub begun_reading : (old new : Option Image) (place : Place) → is_some new ≡ is_some old → place.file ≡ Journal → place.gate ≡ 16
    → ((image : Image) → old ≡ Some image → (new ≡ Some (opened image)) × (place.size ≡ length (begun image.journal)) × (17 ≤ place.size)) → IsReadingOf new place
begun_reading old new place honest file gate made = λ image seen.
    let before = some_of old (sym honest ∙ ap is_some seen) in
    let is = made before.0 before.1 in
    let same : opened before.0 ≡ image = cc in (
      is.1 ∙ ap (λ (i : Image). length i.journal) same ∙ ap (λ (f : File). length (bytes_of image f)) (sym file),
      omega (arith, gate, is.2),
    )

module _ {S : Type 0} (moment : S → ℕ) (left_since : S → ℕ → Image → List Piece → Type 0) (said : S → Option (List Piece)) (may_leave : S → Image → Type 0) (seen : S → Option Image) where
  -- one look after another touches nothing
  pub looks_untouched : (old mid new : S) → said mid ≡ said old → seen mid ≡ seen old → NothingNew (may_leave old) (may_leave mid) → LeavesOnly moment left_since said old mid (may_leave old)
      → seen new ≡ seen mid → NothingNew (may_leave mid) (may_leave new) → LeavesOnly moment left_since said mid new (may_leave mid) → IsUntouched moment left_since said may_leave seen old new
  looks_untouched old mid new silent same stop first same' stop' second = record {
    same = same' ∙ same;
    stop = λ image may. stop image (stop' image may);
    any_moment = goes_on_only moment left_since said old mid new (may_leave old) (may_leave mid) (may_leave old) silent first second (λ image may. may) (λ image may. stop image may);
  }
