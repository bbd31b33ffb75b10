-- Lists of turns: one turn more, and what each of a session is.
use Rattle.std.proofs.Common.{◌≡◌, ◌∙◌, ap, sym, refl, subst, ℕ, ◌+◌, ◌≤◌, List, [], ◌∷◌, ◌++◌, append-nil, append_assoc, length, length-append, Bool, true, false, Option, map, arith}
use Rattle.std.specs.Prelude.{flat_map}
use Rattle.std.proofs.lemmas.Grind.{flat_map-append}
use Rattle.std.proofs.lemmas.List.{map-append}
use Rattle.swf_store.specs.declared.said.Piece.{Piece}
use Rattle.swf_meaning.specs.declared.label.Label.{Label}
use Rattle.swf_host.specs.declared.host.Input.{Input}
use Rattle.swf_turns.specs.Dialect.{Dialect, session}
use Rattle.swf_turns.specs.Finish.{IsOver}
use Rattle.swf_turns.specs.Follows.{AreOpen, IsOneTurn}
use Rattle.swf_turns.specs.Moments.{heard_of}
use Rattle.swf_turns.specs.Owed.{Heard, AreLater, owed, piece_of, pieces_of, replies_of}
use Rattle.swf_turns.specs.Turns.{Turn, AreMore, AreTurns, IsAnswered, IsLast, inputs_in, inputs_of, labels_of, last_told, told_by}
use Rattle.swf_words.specs.declared.words.Words.{Words}

pub flat_map-snoc : {A W : Type 0} (f : Turn W → List A) (ts : List (Turn W)) (t : Turn W) → flat_map f (ts ++ t ∷ []) ≡ flat_map f ts ++ f t
flat_map-snoc {A} f ts t = flat_map-append f ts (t ∷ []) ∙ ap (λ (l : List A). flat_map f ts ++ l) (append-nil (f t))

-- the inputs of one turn more
pub inputs_join : {W : Type 0} (first : List (Input W)) (ts : List (Turn W)) (t : Turn W) → (first ++ inputs_of ts) ++ inputs_in t ≡ first ++ inputs_of (ts ++ t ∷ [])
inputs_join {W = W} first ts t = append_assoc first (inputs_of ts) (inputs_in t) ∙ ap (λ (l : List (Input W)). first ++ l) (sym (flat_map-snoc inputs_in ts t))

open_last : {W : Type 0} (b : Bool) (ts : List (Turn W)) → b ≡ false → IsLast b ts
open_last true ts e = absurd (cc)
open_last false ts e = tt

last_nil : (W : Type 0) (b : Bool) → IsLast {W = W} b []
last_nil W true = refl
last_nil W false = tt

pub heard_one : (n : ℕ) (hs : List Heard) → map heard_of (piece_of n hs) ≡ hs
heard_one n [] = refl
heard_one n (h ∷ hs) = ap (λ (l : List Heard). h ∷ l) (heard_one n hs)

module _ {W : Type 0} (mode : Dialect W) where
  last_told-append : (last : Option ℕ) (is js : List (Input W)) → last_told mode last (is ++ js) ≡ last_told mode (last_told mode last is) js
  last_told-append last [] js = refl
  last_told-append last (i ∷ is) js = last_told-append (told_by mode last (mode.tells i)) is js

  -- one more turn is allowed where none before it ended
  pub allowed-snoc : (words : Words) (last : Option ℕ) (before : List Label) (ts : List (Turn W)) (t : Turn W) → AreTurns mode words last before ts → AreOpen mode ts
      → IsAnswered mode words (last_told mode last (inputs_of ts)) t.answers (before ++ labels_of ts) t.first t.labels t.reply → AreMore mode t.more → AreTurns mode words last before (ts ++ t ∷ [])
  allowed-snoc words last before [] t a o h m = (subst (λ (x : List Label). IsAnswered mode words last t.answers x t.first t.labels t.reply) (append-nil before) h, m, last_nil W (mode.ends t.first), tt)
  allowed-snoc words last before (u ∷ ts) t a o h m = (
    a.0,
    a.1,
    open_last (mode.ends u.first) (ts ++ t ∷ []) o.0,
    allowed-snoc words (last_told mode last (inputs_in u)) (before ++ u.labels) ts t a.3 o.1
        (subst (λ (x : List Label). IsAnswered mode words (last_told mode (last_told mode last (inputs_in u)) (inputs_of ts)) t.answers x t.first t.labels t.reply) (sym (append_assoc before u.labels (labels_of ts)))
        (subst (λ (l : Option ℕ). IsAnswered mode words l t.answers (before ++ (u.labels ++ labels_of ts)) t.first t.labels t.reply) (last_told-append last (inputs_in u) (inputs_of ts)) h)) m,
  )

  pub open-snoc : (ts : List (Turn W)) (t : Turn W) → AreOpen mode ts → mode.ends t.first ≡ false → AreOpen mode (ts ++ t ∷ [])
  open-snoc [] t o e = (e, tt)
  open-snoc (u ∷ ts) t o e = (o.0, open-snoc ts t o.1 e)

  pub over-snoc : (ts : List (Turn W)) (t : Turn W) → mode.ends t.first ≡ true → IsOver mode (ts ++ t ∷ [])
  over-snoc [] t e = e
  over-snoc (u ∷ []) t e = e
  over-snoc (u ∷ v ∷ ts) t e = over-snoc (v ∷ ts) t e

  pub heard_all : (n : ℕ) (ts : List (Turn W)) → map heard_of (pieces_of mode n ts) ≡ replies_of mode ts
  heard_all n [] = refl
  heard_all n (t ∷ ts) =
      let m = n + length (inputs_in t) in
      map-append heard_of (piece_of m (owed mode t)) (pieces_of mode m ts)
      ∙ ap (λ (l : List Heard). l ++ map heard_of (pieces_of mode m ts)) (heard_one m (owed mode t))
      ∙ ap (λ (l : List Heard). owed mode t ++ l) (heard_all m ts)

  pub pieces_of-snoc : (n : ℕ) (ts : List (Turn W)) (t : Turn W)
      → pieces_of mode n (ts ++ t ∷ []) ≡ pieces_of mode n ts ++ piece_of (n + length (inputs_of ts) + length (inputs_in t)) (owed mode t)
  pieces_of-snoc n [] t =
      let k = length (inputs_in t) in
      let e : n + k ≡ n + 0 + k = omega arith in
      append-nil (piece_of (n + k) (owed mode t)) ∙ ap (λ (m : ℕ). piece_of m (owed mode t)) e
  pieces_of-snoc n (u ∷ ts) t =
      let k = length (inputs_in t) in
      let m = n + length (inputs_in u) in
      let e : m + length (inputs_of ts) + k ≡ n + length (inputs_of (u ∷ ts)) + k = omega (arith, length-append (inputs_in u) (inputs_of ts)) in
      ap (λ (l : List Piece). piece_of m (owed mode u) ++ l) (pieces_of-snoc m ts t ∙ ap (λ (j : ℕ). pieces_of mode m ts ++ piece_of j (owed mode t)) e)
      ∙ sym (append_assoc (piece_of m (owed mode u)) (pieces_of mode m ts) (piece_of (n + length (inputs_of (u ∷ ts)) + k) (owed mode t)))

  -- what is said with one turn more
  pub pieces_join : (first : List (Input W)) (told : List Piece) (ts : List (Turn W)) (t : Turn W)
      → (told ++ pieces_of mode (length first) ts) ++ piece_of (length (first ++ inputs_of ts) + length (inputs_in t)) (owed mode t) ≡ told ++ pieces_of mode (length first) (ts ++ t ∷ [])
  pieces_join first told ts t =
      let ps = pieces_of mode (length first) ts in
      ap (λ (m : ℕ). (told ++ ps) ++ piece_of (m + length (inputs_in t)) (owed mode t)) (length-append first (inputs_of ts))
      ∙ append_assoc told ps (piece_of (length first + length (inputs_of ts) + length (inputs_in t)) (owed mode t))
      ∙ ap (λ (l : List Piece). told ++ l) (sym (pieces_of-snoc (length first) ts t))

  later_piece : (least m : ℕ) (hs : List Heard) (ps : List Piece) → least ≤ m → ((l : ℕ) → l ≤ m → AreLater l ps ps) → AreLater least (piece_of m hs ++ ps) (piece_of m hs ++ ps)
  later_piece least m [] ps le rest = rest least le
  later_piece least m (h ∷ hs) ps le rest = (refl, refl, omega arith, le, later_piece m m hs ps (omega arith) rest)

  later_all : (least n : ℕ) (ts : List (Turn W)) → least ≤ n → AreLater least (pieces_of mode n ts) (pieces_of mode n ts)
  later_all least n [] le = tt
  later_all least n (t ∷ ts) le =
      let m = n + length (inputs_in t) in
      later_piece least m (owed mode t) (pieces_of mode m ts) (omega (arith, le)) (λ l small. later_all l m ts small)

  -- what is said at once is said in order
  pub said_at_once : (n : ℕ) (ts : List (Turn W)) → AreLater n (pieces_of mode n ts) (pieces_of mode n ts)
  said_at_once n ts = later_all n n ts (omega arith)

-- in a session no input tells a moment
pub session_last : {W : Type 0} (last : Option ℕ) (is : List (Input W)) → last_told session last is ≡ last
session_last last [] = refl
session_last last (i ∷ is) = session_last last is

-- each input of a session is a turn of its own
pub session_more : {W : Type 0} (is : List (Input W)) → AreMore session is → is ≡ []
session_more [] m = refl
session_more (i ∷ is) m = absurd (cc m.0)

-- and no more than one may have begun
pub session_one : {W : Type 0} (is : List (Input W)) → IsOneTurn session is → length is ≤ 1
session_one [] m = omega arith
session_one (i ∷ is) m = omega (arith, ap length (session_more is m))
