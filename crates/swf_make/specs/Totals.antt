-- What replies come to: how many started an instance, how many report one that is completed, and the sum of what those put out.
use Rattle.std.specs.Prelude.{◌+◌, ◌*◌, ◌++◌, ◌∷◌, ◌+ℤ◌, ◌≤ℤ◌, neg_ℤ, ℕ, ℤ, pos, List, [], Bool, false, codes, fold, refl, option_map, unwrap_or, if◌then◌else◌}
use Rattle.std.specs.Fmt.{decimal, signed_decimal}
use Rattle.std.specs.Coded.{Coded, code_by, coded×, coded_ℕ, coded_ℤ}
use Rattle.swf_text.specs.Same.{same}
use Rattle.swf_value.specs.Value.{Value, int, text}
use Rattle.swf_value.specs.Members.{member_at}
use Rattle.swf_protocol.specs.declared.reply.Reply.{Reply}
use Rattle.swf_protocol.specs.declared.reply.Reply.TheVariants.{Started, Report}

pub record Totals : Type 0 where
  pub completed : ℕ
  pub started : ℕ
  pub total : ℤ

abbrev pub totals_code : Coded Totals
totals_code = code_by (ℕ × (ℕ × ℤ)) (coded× coded_ℕ (coded× coded_ℕ coded_ℤ)) (λ t. (t.completed, (t.started, t.total))) (λ p. record { completed = p.0; started = p.1.0; total = p.1.1 }) (λ _. refl)

-- the text of a value is this word
abbrev pub is_text : List ℕ → Value → Bool
is_text word (text t) = same t word
is_text word v = false

-- the number that a value is; 0 where it is none
abbrev pub number_of : Value → ℤ
number_of (int z) = z
number_of v = pos 0

-- a report is of an instance that is completed
abbrev pub is_completed : Value → Bool
is_completed report = unwrap_or (option_map (is_text (codes "completed")) (member_at (codes "status") report)) false

-- the number that an output has under `n`, and that of a report's output; 0 where there is none
abbrev pub number_in : Value → ℤ
number_in output = unwrap_or (option_map number_of (member_at (codes "n") output)) (pos 0)

abbrev pub amount_of : Value → ℤ
amount_of report = unwrap_or (option_map number_in (member_at (codes "output") report)) (pos 0)

-- no more in all than so many numbers of a value come to, above 0 or below
abbrev pub IsBounded : ℕ → ℤ → Type 0
IsBounded completed total = (neg_ℤ (pos (completed * 9007199254740991)) ≤ℤ total) × (total ≤ℤ pos (completed * 9007199254740991))

-- behind one more reply
abbrev pub with_report : Totals → Value → Totals
with_report t report = if is_completed report then record t { completed = t.completed + 1; total = t.total +ℤ amount_of report } else t

abbrev pub with_reply : Totals → Reply → Totals
with_reply t (Started place) = record t { started = t.started + 1 }
with_reply t (Report report) = with_report t report
with_reply t r = t

-- of no reply
abbrev pub nothing : Totals
nothing = record { completed = 0; started = 0; total = pos 0 }

-- of some replies
abbrev pub totals_of : List Reply → Totals
totals_of replies = fold with_reply nothing replies

-- `{"completed":C,"started":S,"total":T}`, with its newline
abbrev pub line_of : ℕ → ℕ → ℤ → List ℕ
line_of completed started total =
    codes "{\"completed\":" ++ (decimal completed ++ (codes ",\"started\":" ++ (decimal started ++ (codes ",\"total\":" ++ (signed_decimal total ++ (codes "}" ++ 10 ∷ []))))))

abbrev pub totals_line : Totals → List ℕ
totals_line t = line_of t.completed t.started t.total
