-- Where bytes end that begin a request.
use Rattle.std.specs.Prelude.{ℕ, List, [], ◌∷◌, ◌==◌, cond}
use Rattle.httparse.specs.Grammar.{is_token_byte, is_uri_byte}
use Rattle.swf_http.specs.declared.target.Place.{Place}
use Rattle.swf_http.specs.declared.target.Place.TheVariants.{Blank, AfterReturn, Method, Target, Nowhere}

abbrev pub step : Place → ℕ → Place
step Blank b = cond (b == 10) Blank (cond (b == 13) AfterReturn (cond (is_token_byte b) Method Nowhere))
step AfterReturn b = cond (b == 10) Blank Nowhere
step Method b = cond (b == 32) Target (cond (is_token_byte b) Method Nowhere)
step Target b = cond (is_uri_byte b) Target Nowhere
step Nowhere b = Nowhere

abbrev pub run : Place → List ℕ → Place
run place [] = place
run place (b ∷ bytes) = run (step place b) bytes
