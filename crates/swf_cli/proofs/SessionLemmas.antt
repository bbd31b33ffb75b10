-- Turn after turn, the session follows the meaning, and so it does at every moment.
use Rattle.std.proofs.Common.{◌≡◌, ◌∙◌, ap, sym, refl, subst, ◌⊎◌, inl, inr, ⊎_elim, ℕ, ◌+◌, List, [], ◌∷◌, ◌++◌, append-nil, append_assoc, length, length-append, Bool, true, false, Option, Some, None, arith}
use Rattle.swf_store.specs.declared.image.Image.{Image}
use Rattle.swf_store.specs.declared.said.Piece.{Piece}
use Rattle.swf_store.specs.Said.{and_piece}
use Rattle.swf_store.specs.Stops.{Leaves}
use Rattle.swf_store.proofs.Moments.{goes_on}
use Rattle.swf_meaning.specs.declared.label.Label.{Label}
use Rattle.swf_runs.proofs.OnceLemmas.{once_of_legal}
use Rattle.swf_host.specs.declared.host.Input.{Input}
use Rattle.swf_engine.specs.Core.{Core}
use Rattle.swf_engine.specs.History.{IsHistory, Begins}
use Rattle.swf_engine.specs.Settling.{Called}
use Rattle.swf_engine.proofs.HistoryLemmas.{left_history}
use Rattle.swf_protocol.specs.Spoken.{full_bytes}
use Rattle.swf_turns.specs.Dialect.{session}
use Rattle.swf_turns.specs.Finish.{most_turns, Ran, TellsFull}
use Rattle.swf_turns.specs.Follows.{AreOpen, IsGoing, IsOneTurn, MayBegin}
use Rattle.swf_turns.specs.Moments.{IsMoment, IsLastPiece, IsLastUnsaid}
use Rattle.swf_turns.specs.Owed.{Heard, conn_of, owed, piece_of, pieces_of, replies_of}
use Rattle.swf_turns.specs.Steps.{Stand, TurnLeft, Turned, Whole, Unsaid, Broken, IsTold, Nothing, TurnDone}
use Rattle.swf_turns.specs.declared.saying.After.TheVariants.{Stops}
use Rattle.swf_turns.specs.Turns.{Turn, AreMore, IsAnswered, AreTurns, labels_of, inputs_in, inputs_of, answers_of, last_told}
use Rattle.swf_turns.proofs.TurnListLemmas.{flat_map-snoc, allowed-snoc, open-snoc, over-snoc, heard_all, inputs_join, pieces_join, said_at_once, session_last}
use Rattle.swf_words.specs.declared.words.Words.{Words}

module _ (words : Words) where
  module _ {W : Type 0} (before : List Label) (first : List (Input W)) (told : List Piece) where
    -- a moment behind these turns
    moment_at : (answered unsaid : List (Turn W)) (opened : List (Input W)) (asked heard : List Called) (part : List Label) (all : List (Input W)) (image : Image) (pieces : List Piece)
        → AreTurns session words None before (answered ++ unsaid) → IsGoing session words before (answered ++ unsaid) opened heard part → asked ≡ answers_of (answered ++ unsaid) ++ heard
        → IsHistory image (before ++ (labels_of (answered ++ unsaid) ++ part)) → all ≡ first ++ (inputs_of (answered ++ unsaid) ++ opened) → IsLastUnsaid unsaid opened
        → (pieces ≡ told ++ pieces_of session (length first) answered)
        ⊎ ((last : Piece) × (pieces ≡ told ++ (pieces_of session (length first) answered ++ last ∷ [])) × IsLastPiece (session {W = W}) (replies_of session unsaid) opened last)
        → IsMoment session words before first told all asked image pieces
    moment_at answered unsaid opened asked heard part all image pieces allowed going asked_is stands all_is one are = record {
      history = before ++ (labels_of (answered ++ unsaid) ++ part);
      stands = stands;
      once = once_of_legal (before ++ (labels_of (answered ++ unsaid) ++ part)) stands.legal;
      taken = inputs_of (answered ++ unsaid) ++ opened;
      later = [];
      taken_are = all_is ∙ ap (λ (l : List (Input W)). first ++ l) (sym (append-nil (inputs_of (answered ++ unsaid) ++ opened)));
      asked = answers_of (answered ++ unsaid) ++ heard;
      unasked = [];
      asked_are = asked_is ∙ sym (append-nil (answers_of (answered ++ unsaid) ++ heard));
      whole = pieces_of session (length first) answered;
      follows = record {
        answered = answered;
        unsaid = unsaid;
        «open» = opened;
        part = part;
        heard = heard;
        allowed = allowed;
        going = going;
        inputs_are = refl;
        answers_are = refl;
        labels_are = refl;
        replies_are = heard_all session (length first) answered;
      };
      said_are = said_at_once session (length first) answered;
      prompt = refl;
      one = one;
      pieces_are = are;
    }

    -- a moment of a session is one where more inputs were taken, and the board answered more
    later_moment : (all more : List (Input W)) (asked later : List Called) (image : Image) (pieces : List Piece) → IsMoment session words before first told all asked image pieces
        → IsMoment session words before first told (all ++ more) (asked ++ later) image pieces
    later_moment all more asked later image pieces m = record {
      history = m.history;
      stands = m.stands;
      once = m.once;
      taken = m.taken;
      later = m.later ++ more;
      taken_are = ap (λ (l : List (Input W)). l ++ more) m.taken_are ∙ append_assoc first (m.taken ++ m.later) more ∙ ap (λ (l : List (Input W)). first ++ l) (append_assoc m.taken m.later more);
      asked = m.asked;
      unasked = m.unasked ++ later;
      asked_are = ap (λ (l : List Called). l ++ later) m.asked_are ∙ append_assoc m.asked m.unasked later;
      whole = m.whole;
      follows = m.follows;
      said_are = m.said_are;
      prompt = m.prompt;
      one = m.one;
      pieces_are = m.pieces_are;
    }

    module _ (ts : List (Turn W)) (allowed : AreTurns session words None before ts) (opens : AreOpen session ts) (asked : List Called) (answers_are : answers_of ts ≡ asked) where
      -- between two turns
      pub at_rest : (image : Image) (pieces : List Piece) → IsHistory image (before ++ labels_of ts) → pieces ≡ told ++ pieces_of session (length first) ts → IsMoment session words before first told (first ++ inputs_of ts) asked image pieces
      at_rest image pieces stands are =
          let e : ts ++ [] ≡ ts = append-nil ts in
          moment_at ts [] [] asked [] [] (first ++ inputs_of ts) image pieces
          (subst (AreTurns session words None before) (sym e) allowed) (refl, refl) (sym (append-nil (answers_of (ts ++ [])) ∙ ap answers_of e ∙ answers_are))
          (subst (λ (us : List (Turn W)). IsHistory image (before ++ (labels_of us ++ []))) (sym e) (subst (λ (l : List Label). IsHistory image (before ++ l)) (sym (append-nil (labels_of ts))) stands))
          (ap (λ (l : List (Input W)). first ++ l) (sym (append-nil (inputs_of (ts ++ [])) ∙ ap inputs_of e)))
          tt
          (inl are)

      module _ (answers : List Called) where
        -- an input was taken, and a part of its labels is there
        at_open : (input : Input W) (more : List (Input W)) (part : List Label) (image : Image) (pieces : List Piece) → AreMore session more → MayBegin session words None answers (before ++ labels_of ts) input part
            → IsHistory image ((before ++ labels_of ts) ++ part)
            → (pieces ≡ told ++ pieces_of session (length first) ts) ⊎ ((last : Piece) × (pieces ≡ told ++ (pieces_of session (length first) ts ++ last ∷ [])) × IsLastPiece (session {W = W}) [] (input ∷ more) last)
            → IsMoment session words before first told ((first ++ inputs_of ts) ++ input ∷ more) (asked ++ answers) image pieces
        at_open input more part image pieces belong may stands are =
            let e : ts ++ [] ≡ ts = append-nil ts in
            moment_at ts [] (input ∷ more) (asked ++ answers) answers part ((first ++ inputs_of ts) ++ input ∷ more) image pieces
            (subst (AreTurns session words None before) (sym e) allowed)
            (subst (λ (us : List (Turn W)). AreOpen session us × AreMore session more × MayBegin session words (last_told session None (inputs_of us)) answers (before ++ labels_of us) input part) (sym e)
            (opens, belong, subst (λ (l : Option ℕ). MayBegin session words l answers (before ++ labels_of ts) input part) (sym (session_last None (inputs_of ts))) may))
            (ap (λ (l : List Called). l ++ answers) (sym (ap answers_of e ∙ answers_are)))
            (subst (λ (us : List (Turn W)). IsHistory image (before ++ (labels_of us ++ part))) (sym e) (subst (λ (l : List Label). IsHistory image l) (append_assoc before (labels_of ts) part) stands))
            (append_assoc first (inputs_of ts) (input ∷ more) ∙ ap (λ (us : List (Turn W)). first ++ (inputs_of us ++ input ∷ more)) (sym e))
            tt
            are

        module _ (t : Turn W) (heard : t.answers ≡ answers) (belong : AreMore session t.more) (answered : IsAnswered session words None t.answers (before ++ labels_of ts) t.first t.labels t.reply) where
          labels_join : before ++ labels_of (ts ++ t ∷ []) ≡ (before ++ labels_of ts) ++ t.labels
          labels_join = ap (λ (l : List Label). before ++ l) (flat_map-snoc (λ u. u.labels) ts t) ∙ sym (append_assoc before (labels_of ts) t.labels)

          answers_join : answers_of (ts ++ t ∷ []) ≡ asked ++ answers
          answers_join = flat_map-snoc (λ u. u.answers) ts t ∙ ap (λ (l : List Called). l ++ t.answers) answers_are ∙ ap (λ (l : List Called). asked ++ l) heard

          pub turns_join : AreTurns session words None before (ts ++ t ∷ [])
          turns_join = allowed-snoc session words None before ts t allowed opens
              (subst (λ (l : Option ℕ). IsAnswered session words l t.answers (before ++ labels_of ts) t.first t.labels t.reply) (sym (session_last None (inputs_of ts))) answered) belong

          -- the turn's labels are there, and its reply was not said, or only a part of it
          at_unsaid : (image : Image) (pieces : List Piece) → IsHistory image ((before ++ labels_of ts) ++ t.labels)
              → (pieces ≡ told ++ pieces_of session (length first) ts) ⊎ ((last : Piece) × (pieces ≡ told ++ (pieces_of session (length first) ts ++ last ∷ [])) × IsLastPiece (session {W = W}) (replies_of session (t ∷ [])) [] last)
              → IsMoment session words before first told ((first ++ inputs_of ts) ++ inputs_in t) (asked ++ answers) image pieces
          at_unsaid image pieces stands are =
              moment_at ts (t ∷ []) [] (asked ++ answers) [] [] ((first ++ inputs_of ts) ++ inputs_in t) image pieces
              turns_join (refl, refl) (sym (append-nil (answers_of (ts ++ t ∷ [])) ∙ answers_join))
              (subst (λ (l : List Label). IsHistory image (before ++ l)) (sym (append-nil (labels_of (ts ++ t ∷ [])))) (subst (λ (l : List Label). IsHistory image l) (sym labels_join) stands))
              (inputs_join first ts t ∙ ap (λ (l : List (Input W)). first ++ l) (sym (append-nil (inputs_of (ts ++ t ∷ [])))))
              refl
              are

          -- its reply was said whole
          at_answered : (image : Image) (pieces : List Piece) → IsHistory image ((before ++ labels_of ts) ++ t.labels)
              → pieces ≡ told ++ pieces_of session (length first) (ts ++ t ∷ []) → IsMoment session words before first told ((first ++ inputs_of ts) ++ inputs_in t) (asked ++ answers) image pieces
          at_answered image pieces stands are =
              let us = ts ++ t ∷ [] in
              let f : us ++ [] ≡ us = append-nil us in
              moment_at us [] [] (asked ++ answers) [] [] ((first ++ inputs_of ts) ++ inputs_in t) image pieces
              (subst (AreTurns session words None before) (sym f) turns_join) (refl, refl) (sym (append-nil (answers_of (us ++ [])) ∙ ap answers_of f ∙ answers_join))
              (subst (λ (vs : List (Turn W)). IsHistory image (before ++ (labels_of vs ++ []))) (sym f)
              (subst (λ (l : List Label). IsHistory image (before ++ l)) (sym (append-nil (labels_of us))) (subst (λ (l : List Label). IsHistory image l) (sym labels_join) stands)))
              (inputs_join first ts t ∙ ap (λ (l : List (Input W)). first ++ l) (sym (append-nil (inputs_of (us ++ [])) ∙ ap inputs_of f)))
              tt
              (inl are)

          -- the piece that says the reply, or the first of it
          said_some : (one : Heard) (part rest : List ℕ) (image : Image) (pieces : List Piece) → owed session t ≡ one ∷ [] → one.bytes ≡ part ++ rest
              → IsHistory image ((before ++ labels_of ts) ++ t.labels) → pieces ≡ and_piece one.conn part (length (first ++ inputs_of ts) + length (inputs_in t)) (told ++ pieces_of session (length first) ts)
              → IsMoment session words before first told ((first ++ inputs_of ts) ++ inputs_in t) (asked ++ answers) image pieces
          said_some one part [] image pieces e joined stands are =
              let ps = told ++ pieces_of session (length first) ts in
              let n = length (first ++ inputs_of ts) + length (inputs_in t) in
              at_answered image pieces stands
              (are ∙ ap (λ (l : List ℕ). and_piece one.conn l n ps) (sym (joined ∙ append-nil part)) ∙ ap (λ (hs : List Heard). ps ++ piece_of n hs) (sym e) ∙ pieces_join session first told ts t)
          said_some one part (x ∷ xs) image pieces e joined stands are =
              let piece : Piece = record { conn = one.conn; bytes = part; inputs = length (first ++ inputs_of ts) + length (inputs_in t) } in
              at_unsaid image pieces stands
              (inr (
                piece,
                are ∙ append_assoc told (pieces_of session (length first) ts) (piece ∷ []),
                subst (λ (hs : List Heard). IsLastPiece (session {W = W}) (hs ++ []) [] piece) (sym e) (refl, record { rest = x ∷ xs; joined = joined; some = λ none. cc }),
              ))

          -- what a stop in a turn leaves is a moment
          turn_moment : ((part : List Label) → Begins part t.labels → MayBegin session words None answers (before ++ labels_of ts) t.first part) → (image : Image) (pieces : List Piece)
              → TurnLeft (before ++ labels_of ts) (length (first ++ inputs_of ts) + length (inputs_in t)) (told ++ pieces_of session (length first) ts) t.labels (owed session t) image pieces
              → IsMoment session words before first told ((first ++ inputs_of ts) ++ inputs_in t) (asked ++ answers) image pieces
          turn_moment may image pieces (inl h) = at_open t.first t.more h.0.part image pieces belong (may h.0.part h.0.begins) h.0.stands (inl h.1)
          turn_moment may image pieces (inr h) =
              ⊎_elim (λ same. at_unsaid image pieces h.2 (inl same)) (λ more. said_some h.0 h.3.part h.3.rest image pieces h.1 h.3.begins h.2 more) h.3.told

        -- the same of a turn that the store or a full journal broke
        broken_moment : (input : Input W) (more : List (Input W)) (group : List Label) (line : List Heard) → AreMore session more
            → ((part : List Label) → Begins part group → MayBegin session words None answers (before ++ labels_of ts) input part)
            → ((one : Heard) → line ≡ one ∷ [] → (size : ℕ) × (one.bytes ≡ full_bytes size) × (one.conn ≡ conn_of input)) → (image : Image) (pieces : List Piece)
            → TurnLeft (before ++ labels_of ts) (length (first ++ inputs_of ts) + length (input ∷ more)) (told ++ pieces_of session (length first) ts) group line image pieces
            → IsMoment session words before first told ((first ++ inputs_of ts) ++ input ∷ more) (asked ++ answers) image pieces
        broken_moment input more group line belong may is_full image pieces (inl h) = at_open input more h.0.part image pieces belong (may h.0.part h.0.begins) h.0.stands (inl h.1)
        broken_moment input more group line belong may is_full image pieces (inr h) =
            let full = is_full h.0 h.1 in
            let piece : Piece = record { conn = h.0.conn; bytes = h.3.part; inputs = length (first ++ inputs_of ts) + length (input ∷ more) } in
            let all = may group (record { rest = []; joined = sym (append-nil group) }) in
            ⊎_elim (λ same. at_open input more group image pieces belong all h.2 (inl same))
            (λ said. at_open input more group image pieces belong all h.2 (inr (piece, said ∙ append_assoc told (pieces_of session (length first) ts) (piece ∷ []), (full.2, full.0, h.3.rest, sym full.1 ∙ h.3.begins)))) h.3.told

  module _ {W S : Type 0} (moment : S → ℕ) (left_since : S → ℕ → Image → List Piece → Type 0) (said : S → Option (List Piece)) (may_leave : S → Image → Type 0) (seen : S → Option Image) (taken : S → Option (List (Input W))) where
    -- the session so far, in so many turns, since some state
    pub record SoFar (start now : S) (engine : Core) (before : List Label) (first : List (Input W)) (told : List Piece) (asked : List Called) (count : ℕ) : Type 0 where
      pub turns : List (Turn W)
      pub allowed : AreTurns session words None before turns
      pub opens : AreOpen session turns
      pub answers_are : answers_of turns ≡ asked
      pub stands : Stand moment left_since said may_leave seen now engine (before ++ labels_of turns)
      pub took : taken now ≡ Some (first ++ inputs_of turns)
      pub said_all : said now ≡ Some (told ++ pieces_of session (length first) turns)
      pub leaves : Leaves moment left_since start now (IsMoment session words before first told (first ++ inputs_of turns) asked)
      pub many : length turns ≡ count

    pub begins : (start old : S) (engine : Core) (before : List Label) (first : List (Input W)) (told : List Piece) → taken old ≡ Some first → said old ≡ Some told
        → Stand moment left_since said may_leave seen old engine before → Leaves moment left_since start old (IsMoment session words before first told first []) → SoFar start old engine before first told [] 0
    begins start old engine before first told took is stands leaves = record {
      turns = [];
      allowed = tt;
      opens = tt;
      answers_are = refl;
      stands = subst (Stand moment left_since said may_leave seen old engine) (sym (append-nil before)) stands;
      took = took ∙ ap Some (sym (append-nil first));
      said_all = is ∙ ap Some (sym (append-nil told));
      leaves = subst (λ (l : List (Input W)). Leaves moment left_since start old (IsMoment session words before first told l [])) (sym (append-nil first)) leaves;
      many = refl;
    }

    module _ (start now new : S) (engine after : Core) (before : List Label) (first : List (Input W)) (told : List Piece) (asked : List Called) (count : ℕ) (s : SoFar start now engine before first told asked count) (answers : List Called) where
      -- the moments of one turn more
      moments : (P : Image → List Piece → Type 0) (more : List (Input W)) → Leaves moment left_since now new P
          → ((image : Image) (pieces : List Piece) → P image pieces → IsMoment session words before first told ((first ++ inputs_of s.turns) ++ more) (asked ++ answers) image pieces)
          → Leaves moment left_since start new (IsMoment session words before first told ((first ++ inputs_of s.turns) ++ more) (asked ++ answers))
      moments P more run p =
          goes_on moment left_since start now new (IsMoment session words before first told (first ++ inputs_of s.turns) asked) P (IsMoment session words before first told ((first ++ inputs_of s.turns) ++ more) (asked ++ answers)) s.leaves run
          (λ image pieces m. later_moment before first told (first ++ inputs_of s.turns) more asked answers image pieces m) p

      turn_moments : (t : Turn W) → t.answers ≡ answers → IsAnswered session words None t.answers (before ++ labels_of s.turns) t.first t.labels t.reply
          → Turned session words None answers moment left_since said may_leave seen taken now new (before ++ labels_of s.turns) (first ++ inputs_of s.turns) (told ++ pieces_of session (length first) s.turns) t.first t.more t.labels (owed session t)
          → Leaves moment left_since start new (IsMoment session words before first told ((first ++ inputs_of s.turns) ++ inputs_in t) (asked ++ answers))
      turn_moments t heard a turned =
          moments (TurnLeft (before ++ labels_of s.turns) (length (first ++ inputs_of s.turns) + length (inputs_in t)) (told ++ pieces_of session (length first) s.turns) t.labels (owed session t)) (inputs_in t) turned.leaves
          (turn_moment before first told s.turns s.allowed s.opens asked s.answers_are answers t heard turned.belong a turned.may)

      module _ (over : Bool) (w : Whole session words None answers moment left_since said may_leave seen taken now new after (before ++ labels_of s.turns) (first ++ inputs_of s.turns) (told ++ pieces_of session (length first) s.turns) over) where
        whole_allowed : AreTurns session words None before (s.turns ++ w.turn ∷ [])
        whole_allowed = turns_join before first told s.turns s.allowed s.opens asked s.answers_are answers w.turn w.asked w.turned.belong w.answered

        whole_answers : answers_of (s.turns ++ w.turn ∷ []) ≡ asked ++ answers
        whole_answers = answers_join before first told s.turns s.allowed s.opens asked s.answers_are answers w.turn w.asked w.turned.belong w.answered

        whole_stands : Stand moment left_since said may_leave seen new after (before ++ labels_of (s.turns ++ w.turn ∷ []))
        whole_stands = subst (Stand moment left_since said may_leave seen new after) (sym (labels_join before first told s.turns s.allowed s.opens asked s.answers_are answers w.turn w.asked w.turned.belong w.answered)) w.stands

        whole_said : said new ≡ Some (told ++ pieces_of session (length first) (s.turns ++ w.turn ∷ []))
        whole_said = w.said_all ∙ ap Some (pieces_join session first told s.turns w.turn)

        whole_leaves : Leaves moment left_since start new (IsMoment session words before first told (first ++ inputs_of (s.turns ++ w.turn ∷ [])) (asked ++ answers))
        whole_leaves = subst (λ (l : List (Input W)). Leaves moment left_since start new (IsMoment session words before first told l (asked ++ answers))) (inputs_join first s.turns w.turn) (turn_moments w.turn w.asked w.answered w.turned)

      -- a turn that goes on
      pub turn_goes_on : Whole session words None answers moment left_since said may_leave seen taken now new after (before ++ labels_of s.turns) (first ++ inputs_of s.turns) (told ++ pieces_of session (length first) s.turns) false
          → SoFar start new after before first told (asked ++ answers) (count + 1)
      turn_goes_on w = record {
        turns = s.turns ++ w.turn ∷ [];
        allowed = whole_allowed false w;
        opens = open-snoc session s.turns w.turn s.opens w.ends;
        answers_are = whole_answers false w;
        stands = whole_stands false w;
        took = w.turned.took ∙ ap Some (inputs_join first s.turns w.turn);
        said_all = whole_said false w;
        leaves = whole_leaves false w;
        many = length-append s.turns (w.turn ∷ []) ∙ ap (λ (n : ℕ). n + 1) s.many;
      }

      -- the turn that ends the input
      pub turn_ends : Whole session words None answers moment left_since said may_leave seen taken now new after (before ++ labels_of s.turns) (first ++ inputs_of s.turns) (told ++ pieces_of session (length first) s.turns) true
          → Ran session words moment left_since said may_leave seen taken start new before first (asked ++ answers) told 0
      turn_ends w = record {
        all = first ++ inputs_of (s.turns ++ w.turn ∷ []);
        took = w.turned.took ∙ ap Some (inputs_join first s.turns w.turn);
        leaves = whole_leaves true w;
        finish = λ zero. record {
          turns = s.turns ++ w.turn ∷ [];
          allowed = whole_allowed true w;
          over = inl (over-snoc session s.turns w.turn w.ends);
          taken = w.turned.took ∙ ap Some (inputs_join first s.turns w.turn);
          asked = sym (whole_answers true w);
          whole = pieces_of session (length first) (s.turns ++ w.turn ∷ []);
          told = whole_said true w;
          said_are = said_at_once session (length first) (s.turns ++ w.turn ∷ []);
          prompt = refl;
          stands = λ image may. let stood = whole_stands true w in left_history stood.0 (may_leave new) after (before ++ labels_of (s.turns ++ w.turn ∷ [])) stood.2 image may;
        };
        full = λ seven. absurd (omega arith);
        short = λ which. absurd (⊎_elim (λ three. omega arith) (λ six. omega arith) which);
      }

      -- what was taken, and the moments, where the program stopped in a turn
      which_stopped : Nothing moment left_since said may_leave seen taken now new (before ++ labels_of s.turns) (first ++ inputs_of s.turns) (told ++ pieces_of session (length first) s.turns)
          ⊎ Unsaid session words None answers moment left_since said may_leave seen taken now new (before ++ labels_of s.turns) (first ++ inputs_of s.turns) (told ++ pieces_of session (length first) s.turns)
          ⊎ Broken session words None answers moment left_since said may_leave seen taken now new (before ++ labels_of s.turns) (first ++ inputs_of s.turns) (told ++ pieces_of session (length first) s.turns)
          → (more : List (Input W)) × IsOneTurn session more × (taken new ≡ Some ((first ++ inputs_of s.turns) ++ more)) × Leaves moment left_since start new (IsMoment session words before first told ((first ++ inputs_of s.turns) ++ more) (asked ++ answers))
      which_stopped (inl n) = (
        [],
        tt,
        n.took ∙ ap Some (sym (append-nil (first ++ inputs_of s.turns))),
        moments (λ image pieces. IsHistory image (before ++ labels_of s.turns) × (pieces ≡ told ++ pieces_of session (length first) s.turns)) [] n.leaves
            (λ image pieces h. later_moment before first told (first ++ inputs_of s.turns) [] asked answers image pieces (at_rest before first told s.turns s.allowed s.opens asked s.answers_are image pieces h.0 h.1)),
      )
      which_stopped (inr (inl u)) = (inputs_in u.turn, u.turned.belong, u.turned.took, turn_moments u.turn u.asked u.answered u.turned)
      which_stopped (inr (inr b)) = (
        b.input ∷ b.more,
        b.turned.belong,
        b.turned.took,
        moments (TurnLeft (before ++ labels_of s.turns) (length (first ++ inputs_of s.turns) + length (b.input ∷ b.more)) (told ++ pieces_of session (length first) s.turns) b.group b.line) (b.input ∷ b.more) b.turned.leaves
            (broken_moment before first told s.turns s.allowed s.opens asked s.answers_are answers b.input b.more b.group b.line b.turned.belong b.turned.may b.is_full),
      )

      -- the line of a full journal, behind the turns
      full_told : IsTold session words None answers moment left_since said may_leave seen taken new after (before ++ labels_of s.turns) (first ++ inputs_of s.turns) (told ++ pieces_of session (length first) s.turns)
          → TellsFull session words moment left_since said may_leave seen taken new before first (asked ++ answers) told
      full_told t = record {
        engine = after;
        turns = s.turns;
        allowed = s.allowed;
        heard = answers;
        asked = ap (λ (l : List Called). l ++ answers) (sym s.answers_are);
        whole = pieces_of session (length first) s.turns;
        said_are = said_at_once session (length first) s.turns;
        prompt = refl;
        told = subst (λ (l : Option ℕ). IsTold session words l answers moment left_since said may_leave seen taken new after (before ++ labels_of s.turns) (first ++ inputs_of s.turns) (told ++ pieces_of session (length first) s.turns))
            (sym (session_last None (inputs_of s.turns))) t;
      }

      -- the program stopped in a turn
      pub turn_stops : (status : ℕ)
          → TurnDone session words None answers moment left_since said may_leave seen taken now new after (before ++ labels_of s.turns) (first ++ inputs_of s.turns) (told ++ pieces_of session (length first) s.turns) (Stops status)
          → Ran session words moment left_since said may_leave seen taken start new before first (asked ++ answers) told status
      turn_stops status d =
          let stopped = which_stopped d.0 in record {
            all = (first ++ inputs_of s.turns) ++ stopped.0;
            took = stopped.2;
            leaves = stopped.3;
            finish = λ zero. absurd (d.1 zero);
            full = λ seven. full_told (d.2 seven);
            short = λ which. record {
              turns = s.turns;
              allowed = s.allowed;
              more = stopped.0;
              most = stopped.1;
              taken = stopped.2;
              heard = answers;
              asked = ap (λ (l : List Called). l ++ answers) (sym s.answers_are);
              whole = pieces_of session (length first) s.turns;
              told = d.3 (λ four. ⊎_elim (λ three. omega arith) (λ six. omega arith) which) (λ seven. ⊎_elim (λ three. omega arith) (λ six. omega arith) which);
              said_are = said_at_once session (length first) s.turns;
              prompt = refl;
            };
          }

    -- the most turns were made
    pub all_made : (start now : S) (engine : Core) (before : List Label) (first : List (Input W)) (told : List Piece) (asked : List Called) (count : ℕ) → SoFar start now engine before first told asked count → count ≡ most_turns
        → Ran session words moment left_since said may_leave seen taken start now before first asked told 0
    all_made start now engine before first told asked count s e = record {
      all = first ++ inputs_of s.turns;
      took = s.took;
      leaves = s.leaves;
      finish = λ zero. record {
        turns = s.turns;
        allowed = s.allowed;
        over = inr (s.many ∙ e);
        taken = s.took;
        asked = sym s.answers_are;
        whole = pieces_of session (length first) s.turns;
        told = s.said_all;
        said_are = said_at_once session (length first) s.turns;
        prompt = refl;
        stands = λ image may. left_history s.stands.0 (may_leave now) engine (before ++ labels_of s.turns) s.stands.2 image may;
      };
      full = λ seven. absurd (omega arith);
      short = λ which. absurd (⊎_elim (λ three. omega arith) (λ six. omega arith) which);
    }
