-- What holds of clients and their connections.
use Rattle.std.proofs.Common.{◌≡◌, ◌⊎◌, ◌∙◌, inl, inr, sym, refl, ap, ℕ, zero, suc, ◌+◌, ◌≤◌, ◌==◌, List, [], ◌∷◌, Bool, true, false, Option, Some, None, if◌then◌else◌, arith}
use Rattle.std.proofs.lemmas.Bool.{eqb-true, eq-eqb, false≢true}
use Rattle.swf_desk.specs.Clients.{Event, asks, says, count, who, asked, told, told_to}
use Rattle.swf_desk.specs.Answered.{AskedOn, WasAnswered, AreAsked, IsRight, IsOnce, IsHeard, IsAnswered, IsSilent}

-- no connection is greater than how many asked
most : {L : Type 0} (es : List (Event L)) (conn : ℕ) (client : L) (bytes : List ℕ) → AskedOn conn client bytes es → conn ≤ count es
most [] conn client bytes h = absurd h
most (asks other line ∷ es) conn client bytes (inl p) = let e = p.0 in omega arith
most (asks other line ∷ es) conn client bytes (inr h) = let m = most es conn client bytes h in omega arith
most (says other reply ∷ es) conn client bytes h = most es conn client bytes h

-- nor is one to which something was said after a client asked on it
most_answered : {L : Type 0} (es : List (Event L)) (conn : ℕ) → WasAnswered conn es → conn ≤ count es
most_answered [] conn h = absurd h
most_answered (asks client bytes ∷ es) conn h = let m = most_answered es conn h in omega arith
most_answered (says other reply ∷ es) conn (inl p) = p.1
most_answered (says other reply ∷ es) conn (inr h) = most_answered es conn h

-- ---- who waits asked

asked_right : {L : Type 0} (b : Bool) (es : List (Event L)) (conn : ℕ) (client other : L) (line : List ℕ) (o : Option L) → (b ≡ true → conn ≡ count es + 1)
    → (o ≡ Some client → (bytes : List ℕ) × AskedOn conn client bytes es) → (if b then Some other else o) ≡ Some client → (bytes : List ℕ) × AskedOn conn client bytes (asks other line ∷ es)
asked_right true es conn client other line o t ih h = (line, inl (t refl, (cc), refl))
asked_right false es conn client other line o t ih h = let r = ih h in (r.0, inr r.1)

said_right : {L : Type 0} (b : Bool) (client : L) (o : Option L) (P : Type 0) → (o ≡ Some client → P) → (if b then None else o) ≡ Some client → P
said_right true client o P ih h = absurd (cc)
said_right false client o P ih h = ih h

pub right : {L : Type 0} (es : List (Event L)) → IsRight es
right [] conn client h = absurd (cc)
right (asks other line ∷ es) conn client h = asked_right (conn == count es + 1) es conn client other line (who es conn) (eqb-true conn (count es + 1)) (right es conn client) h
right {L} (says other reply ∷ es) conn client h = said_right (conn == other) client (who es conn) ((bytes : List ℕ) × AskedOn conn client bytes es) (right es conn client) h

-- ---- a connection is of one client

pub once : {L : Type 0} (es : List (Event L)) → IsOnce es
once [] conn client other bytes line g h = absurd g
once (asks new asked ∷ es) conn client other bytes line (inl p) (inl q) = ((cc), (cc), omega arith)
once (asks new asked ∷ es) conn client other bytes line (inl p) (inr h) = let e = p.0 in let m = most es conn other line h in absurd (omega arith)
once (asks new asked ∷ es) conn client other bytes line (inr g) (inl q) = let e = q.0 in let m = most es conn client bytes g in absurd (omega arith)
once (asks new asked ∷ es) conn client other bytes line (inr g) (inr h) = let r = once es conn client other bytes line g h in (r.0, r.1, omega (arith, r.2))
once (says to reply ∷ es) conn client other bytes line g h = once es conn client other bytes line g h

-- ---- a client waits until it is told something

-- who asked on a connection is no other, whether it asked last or not
last_is : {L : Type 0} (es : List (Event L)) (conn : ℕ) (other client : L) (line bytes : List ℕ) → AskedOn conn client bytes (asks other line ∷ es)
    → (conn == count es + 1) ≡ true → other ≡ client
last_is es conn other client line bytes (inl p) e = sym p.1
last_is es conn other client line bytes (inr h) e = let m = most es conn client bytes h in let q = eqb-true conn (count es + 1) e in absurd (omega arith)

-- and whether it waits, where it did not ask last
before : {L : Type 0} (es : List (Event L)) (conn : ℕ) (other client : L) (line bytes : List ℕ) (Waits : Type 0) → (AskedOn conn client bytes es → Waits)
    → AskedOn conn client bytes (asks other line ∷ es) → (conn == count es + 1) ≡ false → Waits
before es conn other client line bytes Waits ih (inl p) e = absurd (false≢true (sym e ∙ eq-eqb conn (count es + 1) p.0))
before es conn other client line bytes Waits ih (inr h) e = ih h

asked_heard : {L : Type 0} (b : Bool) (other client : L) (o : Option L) (P : Type 0) → (b ≡ true → other ≡ client) → (b ≡ false → (o ≡ Some client) ⊎ P)
    → ((if b then Some other else o) ≡ Some client) ⊎ P
asked_heard true other client o P t f = let e = t refl in inl (cc)
asked_heard false other client o P t f = f refl

said_heard : {L : Type 0} (b : Bool) (Said : Type 0) (client : L) (o : Option L) (P : Type 0) → (b ≡ true → Said) → (o ≡ Some client) ⊎ P
    → ((if b then None else o) ≡ Some client) ⊎ (Said ⊎ P)
said_heard true Said client o P t h = inr (inl (t refl))
said_heard false Said client o P t (inl e) = inl e
said_heard false Said client o P t (inr p) = inr (inr p)

pub heard : {L : Type 0} (es : List (Event L)) → IsHeard es
heard [] conn client bytes h = absurd h
heard (asks other line ∷ es) conn client bytes h = asked_heard (conn == count es + 1) other client (who es conn) (WasAnswered conn es) (last_is es conn other client line bytes h)
    (before es conn other client line bytes ((who es conn ≡ Some client) ⊎ WasAnswered conn es) (heard es conn client bytes) h)
heard (says other reply ∷ es) conn client bytes h = said_heard (conn == other) ((conn ≡ other) × (conn ≤ count es)) client (who es conn) (WasAnswered conn es)
    (λ e. (eqb-true conn other e, most es conn client bytes h)) (heard es conn client bytes h)

-- ---- inputs

pub asked_by : {L : Type 0} (W : Type 0) (es : List (Event L)) → AreAsked W es
asked_by W [] conn bytes (k, below, e) = absurd (omega (arith, below))
asked_by W (asks client line ∷ es) conn bytes (zero, below, e) = (client, inl ((cc), refl, (cc)))
asked_by W (asks client line ∷ es) conn bytes (suc k, below, e) = let r = asked_by W es conn bytes (k, omega (arith, below), e) in (r.0, inr r.1)
asked_by W (says other reply ∷ es) conn bytes h = asked_by W es conn bytes h

-- ---- what is told

answered_by : {L : Type 0} (es : List (Event L)) (conn : ℕ) (client : L) (reply : List ℕ) → (who es conn ≡ Some client) ⊎ WasAnswered conn es → (WasAnswered conn es → ⊥)
    → told (says conn reply ∷ es) ≡ (record { client = client; reply = reply }) ∷ told es
answered_by es conn client reply (inl e) n = ap (λ o. told_to o reply (told es)) e
answered_by es conn client reply (inr w) n = absurd (n w)

pub answered : {L : Type 0} (es : List (Event L)) → IsAnswered es
answered es conn client bytes reply h n = answered_by es conn client reply (heard es conn client bytes h) n

asked_gone : {L : Type 0} (b : Bool) (other : L) (o : Option L) → (b ≡ false) → o ≡ None → (if b then Some other else o) ≡ None
asked_gone true other o f e = absurd (cc)
asked_gone false other o f e = e

said_gone : {L : Type 0} (b : Bool) (Said P : Type 0) (o : Option L) → (Said → b ≡ true) → (P → o ≡ None) → Said ⊎ P → (if b then None else o) ≡ None
said_gone true Said P o t ih h = refl
said_gone false Said P o t ih (inl s) = absurd (false≢true (t s))
said_gone false Said P o t ih (inr p) = ih p

not_last : (conn n : ℕ) (b : Bool) → (b ≡ true → conn ≡ n + 1) → conn ≤ n → b ≡ false
not_last conn n true t le = let e = t refl in absurd (omega arith)
not_last conn n false t le = refl

-- who was told something waits no more
gone : {L : Type 0} (es : List (Event L)) (conn : ℕ) → WasAnswered conn es → who es conn ≡ None
gone [] conn h = absurd h
gone (asks client bytes ∷ es) conn h = asked_gone (conn == count es + 1) client (who es conn)
    (not_last conn (count es) (conn == count es + 1) (eqb-true conn (count es + 1)) (most_answered es conn h)) (gone es conn h)
gone (says other reply ∷ es) conn h = said_gone (conn == other) ((conn ≡ other) × (conn ≤ count es)) (WasAnswered conn es) (who es conn) (λ p. eq-eqb conn other p.0) (gone es conn) h

-- nor does anybody where nobody asked
nobody : {L : Type 0} (o : Option L) → ((client : L) → o ≡ Some client → ⊥) → o ≡ None
nobody None n = refl
nobody (Some client) n = absurd (n client refl)

silent_at : {L : Type 0} (es : List (Event L)) (conn : ℕ) → WasAnswered conn es ⊎ ((client : L) (bytes : List ℕ) → AskedOn conn client bytes es → ⊥) → who es conn ≡ None
silent_at es conn (inl w) = gone es conn w
silent_at es conn (inr n) = nobody (who es conn) (λ client e. let r = right es conn client e in n client r.0 r.1)

pub silent : {L : Type 0} (es : List (Event L)) → IsSilent es
silent es conn reply h = ap (λ o. told_to o reply (told es)) (silent_at es conn h)
