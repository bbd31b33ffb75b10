-- What one word after another is to the meaning of all.
use Rattle.std.proofs.Common.{◌≡◌, ◌∙◌, ap, sym, refl, ℕ, ◌+◌, ◌<◌, ◌≤◌, length, drop, get_or, List, [], ◌∷◌, Bool, true, false, Option, Some, None, is_some, option_map, unwrap_or, if◌then◌else◌, nat_lt, nat_le, ◌&&◌, arith}
use Rattle.std.specs.Prelude.{codes, String, string_bytes}
use Rattle.std.specs.declared.alloc.Global.{Global}
use Rattle.std.proofs.lemmas.Bool.{leb-true}
use Rattle.std.proofs.lemmas.List.{drop_all, drop_more, get_or-map, length-map}
use Rattle.swf_text.specs.Same.{same}
use Rattle.swf_protocol.specs.Number.{number_of, budget, budget_of, greatest_budget}
use Rattle.swf_words.specs.declared.arguments.Expects.{Expects}
use Rattle.swf_words.specs.declared.arguments.Expects.TheVariants.{Any, Value, Other}
use Rattle.swf_words.specs.declared.arguments.Progress.{Progress}
use Rattle.swf_words.specs.declared.arguments.Setting.{Setting}
use Rattle.swf_words.specs.declared.arguments.Setting.TheVariants.{Steps, Calls, Workers}
use Rattle.swf_words.specs.declared.words.Mode.{Mode}
use Rattle.swf_words.specs.declared.words.Words.{Words}
use Rattle.swf_words.specs.Words.{Apart, Settings, texts, told_apart, option_named, with_value, with_other, with_word, with_setting, value_in, calls_of, is_dashed, once, set_all, unset, mode_named, mode_of, both, meaning_of, words_of}
use Rattle.swf_words.specs.Arguments.{told_behind, mode_with, meaning_with, settings_of, meant, Takes, TakesValue, TakesOther}

mode_first : (w : List ℕ) (ws : List (List ℕ)) (m : Mode) → mode_named w ≡ Some m → mode_of (w ∷ ws) ≡ mode_with (Some m) ws
mode_first w [] m e = e
mode_first w (v ∷ ws) m e = refl

mode_none : (w : List ℕ) (ws : List (List ℕ)) → mode_named w ≡ None → mode_of (w ∷ ws) ≡ None
mode_none w [] e = e
mode_none w (v ∷ ws) e = refl

-- no other word was told apart
abbrev told_nothing : Option Apart → Type 0
told_nothing None = Unit {0}
told_nothing (Some a) = a.others ≡ []

both_none : (s : Option Settings) → both s None ≡ None
both_none None = refl
both_none (Some s) = refl

-- an option's value, and what it sets
pub value_set : (s : Settings) (mode : Option Mode) (v : Setting × List ℕ) (t : Option Settings) (a : Option Apart) → with_setting s v ≡ t → meaning_with (Some s) mode (with_value v a) ≡ meaning_with t mode a
value_set s mode v t None e = refl
value_set s mode v t (Some a) e = ap (λ (o : Option Settings). both (set_all o a.values) (mode_with mode a.others)) e

none_set : (mode : Option Mode) (a : Option Apart) → meaning_with None mode a ≡ None
none_set mode None = refl
none_set mode (Some a) = refl

-- a value that sets nothing
pub value_refused : (s : Settings) (mode : Option Mode) (v : Setting × List ℕ) (a : Option Apart) → with_setting s v ≡ None → meaning_with (Some s) mode (with_value v a) ≡ None
value_refused s mode v a e = value_set s mode v None a e ∙ none_set mode a

-- what stands twice
pub once_twice : {A : Type 0} (o v : Option A) → is_some o ≡ true → once o v ≡ None
once_twice None v e = absurd (cc)
once_twice (Some x) v e = refl

-- and what stands once
pub once_first : {A : Type 0} (o v : Option A) → is_some o ≡ false → once o v ≡ v
once_first None v e = refl
once_first (Some x) v e = absurd (cc)

-- the mode
pub other_taken : (s : Option Settings) (w : List ℕ) (m : Mode) (a : Option Apart) → mode_named w ≡ Some m → meaning_with s None (with_other w a) ≡ meaning_with s (Some m) a
other_taken s w m None e = refl
other_taken s w m (Some a) e = ap (λ (o : Option Mode). both (set_all s a.values) o) (mode_first w a.others m e)

-- no mode has this name
pub other_refused : (s : Option Settings) (w : List ℕ) (a : Option Apart) → mode_named w ≡ None → meaning_with s None (with_other w a) ≡ None
other_refused s w None e = refl
other_refused s w (Some a) e = ap (λ (o : Option Mode). both (set_all s a.values) o) (mode_none w a.others e) ∙ both_none (set_all s a.values)

-- one word too many
pub other_twice : (s : Option Settings) (m : Mode) (w : List ℕ) (a : Option Apart) → meaning_with s (Some m) (with_other w a) ≡ None
other_twice s m w None = refl
other_twice s m w (Some a) = both_none (set_all s a.values)

-- the same of a mode that was read or not
pub other_twice_in : (s : Option Settings) (mode : Option Mode) (w : List ℕ) (a : Option Apart) → is_some mode ≡ true → meaning_with s mode (with_other w a) ≡ None
other_twice_in s None w a e = absurd (cc)
other_twice_in s (Some m) w a e = other_twice s m w a

pub other_taken_in : (s : Option Settings) (mode : Option Mode) (w : List ℕ) (m : Mode) (a : Option Apart) → is_some mode ≡ false → mode_named w ≡ Some m → meaning_with s mode (with_other w a) ≡ meaning_with s (Some m) a
other_taken_in s None w m a e b = other_taken s w m a b
other_taken_in s (Some n) w m a e b = absurd (cc)

pub other_refused_in : (s : Option Settings) (mode : Option Mode) (w : List ℕ) (a : Option Apart) → is_some mode ≡ false → mode_named w ≡ None → meaning_with s mode (with_other w a) ≡ None
other_refused_in s None w a e b = other_refused s w a b
other_refused_in s (Some n) w a e b = absurd (cc)

-- behind the end of the options
pub takes_ended : (b : Bool) (old new : Progress) (w : List ℕ) → old.expects ≡ Other → TakesOther b old w new → Takes b old w new
takes_ended true old new w ended t = λ ws.
    ap (λ (e : Expects). meaning_with (settings_of old) old.mode (told_behind e (w ∷ ws))) ended
    ∙ t.1 (Some (record { values = []; others = ws }))
    ∙ ap (λ (e : Expects). meaning_with (settings_of new) new.mode (told_behind e ws)) (sym (t.0 ∙ ended))
takes_ended false old new w ended t = λ ws.
    ap (λ (e : Expects). meaning_with (settings_of old) old.mode (told_behind e (w ∷ ws))) ended ∙ t (Some (record { values = []; others = ws }))

-- what is meant by the words to come
meant_as : (p : Progress) (ws : List (List ℕ)) (e : Expects) → p.expects ≡ e → meant p ws ≡ meaning_with (settings_of p) p.mode (told_behind e ws)
meant_as p ws e is = ap (λ (x : Expects). meaning_with (settings_of p) p.mode (told_behind x ws)) is

-- the value of the option before
pub takes_awaited : (b : Bool) (old middle new : Progress) (o : Setting) (w : List ℕ) → old.expects ≡ Value o → middle ≡ record old { expects = Any } → TakesValue b middle (o, w) new → Takes b old w new
takes_awaited true old middle new o w awaits is t = λ ws.
    meant_as old (w ∷ ws) (Value o) awaits
    ∙ ap (λ (m : Progress). meaning_with (settings_of m) m.mode (with_value (o, w) (told_apart None ws))) (sym is)
    ∙ t.1 (told_apart None ws)
    ∙ sym (meant_as new ws Any (t.0 ∙ ap (λ (m : Progress). m.expects) is))
takes_awaited false old middle new o w awaits is t = λ ws.
    meant_as old (w ∷ ws) (Value o) awaits
    ∙ ap (λ (m : Progress). meaning_with (settings_of m) m.mode (with_value (o, w) (told_apart None ws))) (sym is)
    ∙ t (told_apart None ws)

-- what one word makes of those behind it
abbrev plain : Option Setting → Bool → Option (Setting × List ℕ) → Bool → List ℕ → List (List ℕ) → Option Apart
plain named ends value dashed w ws = if is_some named then told_apart named ws else (if ends then Some (record { values = []; others = ws }) else with_word w value dashed (told_apart None ws))

meant_plain : (p : Progress) (w : List ℕ) (ws : List (List ℕ)) (named : Option Setting) (ends dashed : Bool) (value : Option (Setting × List ℕ)) → p.expects ≡ Any
    → option_named w ≡ named → same w (codes "--") ≡ ends → value_in w ≡ value → is_dashed w ≡ dashed → meant p (w ∷ ws) ≡ meaning_with (settings_of p) p.mode (plain named ends value dashed w ws)
meant_plain p w ws named ends dashed value any e f g h =
    meant_as p (w ∷ ws) Any any
    ∙ ap (λ (o : Option Setting). meaning_with (settings_of p) p.mode (plain o (same w (codes "--")) (value_in w) (is_dashed w) w ws)) e
    ∙ ap (λ (b : Bool). meaning_with (settings_of p) p.mode (plain named b (value_in w) (is_dashed w) w ws)) f
    ∙ ap (λ (o : Option (Setting × List ℕ)). meaning_with (settings_of p) p.mode (plain named ends o (is_dashed w) w ws)) g
    ∙ ap (λ (b : Bool). meaning_with (settings_of p) p.mode (plain named ends value b w ws)) h

-- the option itself
pub takes_option : (old new : Progress) (o : Setting) (w : List ℕ) → old.expects ≡ Any → option_named w ≡ Some o → new ≡ record old { expects = Value o } → Takes true old w new
takes_option old new o w any named is = λ ws.
    meant_plain old w ws (Some o) (same w (codes "--")) (is_dashed w) (value_in w) any named refl refl refl
    ∙ ap (λ (p : Progress). meaning_with (settings_of p) p.mode (told_apart (Some o) ws)) (sym is)
    ∙ sym (meant_as new ws (Value o) (ap (λ (p : Progress). p.expects) is))

-- the end of the options
pub takes_end : (old new : Progress) (w : List ℕ) → old.expects ≡ Any → option_named w ≡ None → same w (codes "--") ≡ true → new ≡ record old { expects = Other } → Takes true old w new
takes_end old new w any named ends is = λ ws.
    meant_plain old w ws None true (is_dashed w) (value_in w) any named ends refl refl
    ∙ ap (λ (p : Progress). meaning_with (settings_of p) p.mode (Some (record { values = []; others = ws }))) (sym is)
    ∙ sym (meant_as new ws Other (ap (λ (p : Progress). p.expects) is))

-- the option with its value
pub takes_value : (b : Bool) (old new : Progress) (w : List ℕ) (v : Setting × List ℕ) → old.expects ≡ Any → option_named w ≡ None → same w (codes "--") ≡ false → value_in w ≡ Some v → TakesValue b old v new → Takes b old w new
takes_value true old new w v any named ends value t = λ ws.
    meant_plain old w ws None false (is_dashed w) (Some v) any named ends value refl ∙ t.1 (told_apart None ws) ∙ sym (meant_as new ws Any (t.0 ∙ any))
takes_value false old new w v any named ends value t = λ ws.
    meant_plain old w ws None false (is_dashed w) (Some v) any named ends value refl ∙ t (told_apart None ws)

-- a word that begins with `-` and is no option
pub takes_dashed : (old new : Progress) (w : List ℕ) → old.expects ≡ Any → option_named w ≡ None → same w (codes "--") ≡ false → value_in w ≡ None → is_dashed w ≡ true → Takes false old w new
takes_dashed old new w any named ends value dashed = λ ws. meant_plain old w ws None false true None any named ends value dashed

-- another word
pub takes_other : (b : Bool) (old new : Progress) (w : List ℕ) → old.expects ≡ Any → option_named w ≡ None → same w (codes "--") ≡ false → value_in w ≡ None → is_dashed w ≡ false → TakesOther b old w new → Takes b old w new
takes_other true old new w any named ends value dashed t = λ ws.
    meant_plain old w ws None false false None any named ends value dashed ∙ t.1 (told_apart None ws) ∙ sym (meant_as new ws Any (t.0 ∙ any))
takes_other false old new w any named ends value dashed t = λ ws.
    meant_plain old w ws None false false None any named ends value dashed ∙ t (told_apart None ws)

-- nothing was read yet
pub meant_first : (p : Progress) (ws : List (List ℕ)) → p.steps ≡ None → p.http ≡ None → p.mode ≡ None → p.expects ≡ Any → words_of ws ≡ meant p ws
meant_first p ws steps http mode any =
    first_is (told_apart None ws)
    ∙ sym (meant_as p ws Any any
    ∙ ap (λ (o : Option ℕ). meaning_with (Some (record { steps = o; http = p.http })) p.mode (told_apart None ws)) steps
    ∙ ap (λ (o : Option Bool). meaning_with (Some (record { steps = None; http = o })) p.mode (told_apart None ws)) http
    ∙ ap (λ (o : Option Mode). meaning_with (Some unset) o (told_apart None ws)) mode)
  where
    first_is : (a : Option Apart) → meaning_of a ≡ meaning_with (Some unset) None a
    first_is None = refl
    first_is (Some a) = refl

-- the next of the words of the command line
pub meant_next : (p : Progress) (ws : List (String Global)) (i : ℕ) (s : String Global) (w : List ℕ) → i < length ws → s ≡ get_or ws i s → w ≡ string_bytes s → meant p (drop i (texts ws)) ≡ meant p (w ∷ drop (i + 1) (texts ws))
meant_next p ws i s w lt item is =
    ap (meant p)
    (drop_more (texts ws) i (string_bytes s) (omega (arith, lt, length-map ws string_bytes))
    ∙ ap (λ (v : List ℕ). v ∷ drop (i + 1) (texts ws)) (get_or-map string_bytes ws i s (string_bytes s) lt ∙ ap string_bytes (sym item) ∙ sym is))

-- and behind the last
pub meant_all : (p : Progress) (ws : List (String Global)) (i : ℕ) → length ws ≤ i → meant p (drop i (texts ws)) ≡ meant p []
meant_all p ws i le = ap (meant p) (drop_all i (texts ws) (omega (arith, le, length-map ws string_bytes)))

-- no word comes any more
pub meant_end : (p : Progress) (m : Mode) (e : Expects) → p.expects ≡ e → told_behind e [] ≡ Some (record { values = []; others = [] }) → p.mode ≡ Some m → meant p [] ≡ Some (record { steps = unwrap_or p.steps 1000; http = unwrap_or p.http false; mode = m })
meant_end p m e is none mode =
    meant_as p [] e is
    ∙ ap (λ (a : Option Apart). meaning_with (settings_of p) p.mode a) none
    ∙ ap (λ (o : Option Mode). both (settings_of p) (mode_with o [])) mode

pub meant_no_value : (p : Progress) (o : Setting) → p.expects ≡ Value o → meant p [] ≡ None
meant_no_value p o is = meant_as p [] (Value o) is

no_mode : (s : Option Settings) (a : Option Apart) → told_nothing a → meaning_with s None a ≡ None
no_mode s None t = refl
no_mode s (Some a) t = ap (λ (ws : List (List ℕ)). both (set_all s a.values) (mode_of ws)) t ∙ both_none (set_all s a.values)

pub meant_no_mode : (p : Progress) → p.mode ≡ None → meant p [] ≡ None
meant_no_mode p none = ap (λ (o : Option Mode). meaning_with (settings_of p) o (told_behind p.expects [])) none ∙ no_mode (settings_of p) (told_behind p.expects []) (nothing p.expects)
  where
    nothing : (e : Expects) → told_nothing (told_behind e [])
    nothing Any = refl
    nothing (Value o) = tt
    nothing Other = refl

-- a settling takes at most a million steps
by_tests : (b c : Bool) (m n : ℕ) → nat_le m greatest_budget ≡ c → (if b && c then Some m else None) ≡ Some n → n ≤ 1000000
by_tests true true m n q e = let same : m ≡ n = cc in omega (arith, leb-true m 1000000 q)
by_tests true false m n q e = absurd (cc)
by_tests false c m n q e = absurd (cc)

budget_small : (o : Option ℕ) (n : ℕ) → budget o ≡ Some n → n ≤ 1000000
budget_small None n e = absurd (cc)
budget_small (Some m) n e = by_tests (nat_lt 0 m) (nat_le m greatest_budget) m n refl e

-- what options have set is in its form
abbrev AreSmall : Option Settings → Type 0
AreSmall None = Unit {0}
AreSmall (Some s) = unwrap_or s.steps 1000 ≤ 1000000

steps_small : (s : Settings) (o : Option ℕ) → ((n : ℕ) → o ≡ Some n → n ≤ 1000000) → AreSmall (option_map (λ (n : ℕ). record s { steps = Some n }) o)
steps_small s None small = tt
steps_small s (Some n) small = small n refl

-- who answers calls changes no number
calls_small : (s : Settings) (o : Option Bool) → AreSmall (Some s) → AreSmall (option_map (λ (b : Bool). record s { http = Some b }) o)
calls_small s None small = tt
calls_small s (Some b) small = small

setting_small : (s : Settings) (v : Setting × List ℕ) → AreSmall (Some s) → AreSmall (with_setting s v)
setting_small s (Steps, v) small = first_small s.steps
  where
    first_small : (steps : Option ℕ) → AreSmall (option_map (λ (n : ℕ). record s { steps = Some n }) (once steps (budget_of v)))
    first_small (Some n) = tt
    first_small None = steps_small s (budget_of v) (λ n e. budget_small (number_of v) n e)
setting_small s (Calls, v) small = calls_small s (once s.http (calls_of v)) small
setting_small s (Workers, v) small = tt

all_small : (o : Option Settings) (vs : List (Setting × List ℕ)) → AreSmall o → AreSmall (set_all o vs)
all_small None vs small = tt
all_small (Some s) [] small = small
all_small (Some s) (v ∷ vs) small = all_small (with_setting s v) vs (setting_small s v small)

both_small : (s : Option Settings) (m : Option Mode) (w : Words) → both s m ≡ Some w → AreSmall s → w.steps ≤ 1000000
both_small None m w e small = absurd (cc)
both_small (Some s) None w e small = absurd (cc)
both_small (Some s) (Some m) w e small =
    let same : (record { steps = unwrap_or s.steps 1000; http = unwrap_or s.http false; mode = m }) ≡ w = cc in
    omega (arith, small, ap (λ (v : Words). v.steps) same)

meaning_small : (a : Option Apart) (w : Words) → meaning_of a ≡ Some w → w.steps ≤ 1000000
meaning_small None w e = absurd (cc)
meaning_small (Some a) w e = both_small (set_all (Some unset) a.values) (mode_of a.others) w e (all_small (Some unset) a.values (omega arith))

pub words_small : (ws : List (List ℕ)) (w : Words) → words_of ws ≡ Some w → w.steps ≤ 1000000
words_small ws w e = meaning_small (told_apart None ws) w e
