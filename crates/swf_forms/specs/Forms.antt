-- The forms of the texts in a document (DSL 1.0.0, reference; SemVer 2.0.0; RFC 1123 labels; RFC 9110, section 9; RFC 6570, section 3.2.2).
use Rattle.std.specs.Prelude.{◌==◌, ◌&&◌, ◌||◌, ◌-◌, ◌+◌, ℕ, List, [], ◌∷◌, Bool, true, false, not, codes, length, drop, take, map, slice_index, nat_le, nat_lt, Option, Some, None, is_some, if◌then◌else◌}
use Rattle.std.specs.List.{list_all, list_any, position_or_len, starts_with}
use Rattle.std.specs.Char.{to_ascii_lowercase}
use Rattle.std.specs.Str.{encode_utf8_all}
use Rattle.swf_text.specs.Ascii.{is_digit, is_lower}
use Rattle.swf_text.specs.Same.{same}
use Rattle.swf_expr.specs.Name.{is_name, starts_name, goes_on_name}
use Rattle.swf_calls.specs.declared.method.Method.{Method}
use Rattle.swf_calls.specs.declared.method.Method.TheVariants as method
use Rattle.swf_document.specs.declared.fault.FaultKind.{FaultKind}
use Rattle.swf_document.specs.declared.fault.FaultKind.TheVariants as kind
use Rattle.swf_forms.specs.declared.form.Brace.{Brace}
use Rattle.swf_forms.specs.declared.form.Brace.TheVariants as brace
use Rattle.swf_forms.specs.declared.form.Form.{Form}
use Rattle.swf_forms.specs.declared.form.Form.TheVariants as form
use Rattle.swf_forms.specs.Expression.{parses, is_version}

-- `1.0.` and digits
abbrev pub is_dsl : List ℕ → Bool
is_dsl t = starts_with ◌==◌ t (codes "1.0.") && nat_lt 4 (length t) && list_all is_digit (drop 4 t)

abbrev pub is_label_end : ℕ → Bool
is_label_end c = is_lower c || is_digit c

abbrev pub is_label_char : ℕ → Bool
is_label_char c = is_label_end c || c == 45

-- 1 to 63 lower-case letters, digits and `-`, with a letter or digit at both ends
abbrev pub is_label : List ℕ → Bool
is_label t = nat_lt 0 (length t) && nat_le (length t) 63 && list_all is_label_char t && is_label_end (slice_index t 0) && is_label_end (slice_index t (length t - 1))

abbrev pub is_blank : ℕ → Bool
is_blank c = c == 32 || c == 9 || c == 13 || c == 10

abbrev pub is_mark : ℕ → Bool
is_mark c = not (is_blank c)

-- without the blanks at its start
abbrev pub after_blanks : List ℕ → List ℕ
after_blanks t = drop (position_or_len is_mark t) t

-- where the last character that is no blank ends, from a place on and as far as it is known
abbrev pub end_from : ℕ → ℕ → List ℕ → ℕ
end_from i e [] = e
end_from i e (c ∷ cs) = end_from (i + 1) (if is_blank c then e else i + 1) cs

abbrev pub end_of : List ℕ → ℕ
end_of t = end_from 0 0 t

-- without the blanks at its ends
abbrev pub trimmed : List ℕ → List ℕ
trimmed t = take (end_of (after_blanks t)) (after_blanks t)

-- it stands between `${` and `}`
abbrev pub is_enclosed : List ℕ → Bool
is_enclosed s = nat_le 3 (length s) && slice_index s 0 == 36 && slice_index s 1 == 123 && slice_index s (length s - 1) == 125

-- what stands between `${` and `}`
abbrev pub inner : List ℕ → List ℕ
inner s = drop 2 (take (length s - 1) s)

-- a trimmed text as an expression, with or without `${` and `}` round it
abbrev pub bare : List ℕ → List ℕ
bare s = if is_enclosed s then inner s else s

abbrev pub is_like : List ℕ → List ℕ → Bool
is_like t w = same (map to_ascii_lowercase (encode_utf8_all t)) (map to_ascii_lowercase w)

-- the method that a text names, in any case of letters
abbrev pub method_of : List ℕ → Option Method
method_of t =
    if is_like t (codes "get") then Some method.Get
    else (if is_like t (codes "head") then Some method.Head
    else (if is_like t (codes "post") then Some method.Post
    else (if is_like t (codes "put") then Some method.Put
    else (if is_like t (codes "delete") then Some method.Delete
    else (if is_like t (codes "patch") then Some method.Patch
    else (if is_like t (codes "options") then Some method.Options
    else None))))))

-- the names that every expression may have
abbrev pub reserved : List (List ℕ)
reserved = codes "context" ∷ codes "input" ∷ codes "output" ∷ codes "task" ∷ codes "workflow" ∷ []

-- a name that a document may give a value
abbrev pub is_variable : List ℕ → Bool
is_variable t = is_name t && not (list_any (same t) reserved)

-- where a pattern stands after one more character: `{` opens a name, and `}` ends it
abbrev pub brace_after : Brace → ℕ → Brace
brace_after brace.Outside c = if c == 123 then brace.Opened else (if c == 125 then brace.Broken else brace.Outside)
brace_after brace.Opened c = if starts_name c then brace.Named else brace.Broken
brace_after brace.Named c = if c == 125 then brace.Outside else (if goes_on_name c then brace.Named else brace.Broken)
brace_after brace.Broken c = brace.Broken

abbrev pub is_outside : Brace → Bool
is_outside brace.Outside = true
is_outside b = false

abbrev pub brace_in : Brace → List ℕ → Brace
brace_in b [] = b
brace_in b (c ∷ cs) = brace_in (brace_after b c) cs

-- braces stand only as `{name}`
abbrev pub is_pattern : List ℕ → Bool
is_pattern t = is_outside (brace_in brace.Outside t)

-- no fault where the test holds
abbrev pub unless : Bool → FaultKind → Option FaultKind
unless b k = if b then None else Some k

-- no fault of what is taken; the DSL has the one that is left out too
abbrev pub choice : Bool → Bool → Option FaultKind
choice taken left = if taken then None else Some (if left then kind.NotInProfile else kind.BadText)

-- the fault of a text between `${` and `}` that is no expression, or else what is said of other texts
abbrev pub enclosed_fault : List ℕ → Option FaultKind → Option FaultKind
enclosed_fault s other = if is_enclosed s then unless (parses (inner s)) kind.BadExpression else other

-- the fault of a text that should have a form
abbrev pub text_verdict : Form → List ℕ → Option FaultKind
text_verdict form.Plain t = None
text_verdict form.Dsl t = unless (is_dsl (encode_utf8_all t)) kind.BadText
text_verdict form.Label t = unless (is_label (encode_utf8_all t)) kind.BadText
text_verdict form.Version t = unless (is_version t) kind.BadText
text_verdict form.VersionOrLatest t = unless (same t (codes "latest") || is_version t) kind.BadText
text_verdict form.Variable t = unless (is_variable t) kind.BadText
text_verdict form.Method t = unless (is_some (method_of t)) kind.BadText
text_verdict form.Language t = unless (same t (codes "jq")) kind.NotInProfile
text_verdict form.Mode t = choice (same t (codes "strict")) (same t (codes "loose"))
text_verdict form.Output t = choice (same t (codes "content") || same t (codes "response")) (same t (codes "raw"))
text_verdict form.Read t = choice (same t (codes "data") || same t (codes "envelope")) (same t (codes "raw"))
text_verdict form.Callee t = if same t (codes "asyncapi") || same t (codes "grpc") || same t (codes "openapi") then Some kind.NotInProfile else None
text_verdict form.Expression t = unless (parses (bare (trimmed t))) kind.BadExpression
text_verdict form.Template t = enclosed_fault (trimmed t) None
text_verdict form.Enclosed t = enclosed_fault (trimmed t) (Some kind.BadText)
text_verdict form.Endpoint t = enclosed_fault (trimmed t) (unless (is_pattern t) kind.BadText)
