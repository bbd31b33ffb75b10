-- Standard errors, how an error is printed, and which ones a filter matches (DSL reference, "Error" and "Catch"; RFC 9457).
use Rattle.std.specs.Prelude.{◌&&◌, ◌==◌, ◌++◌, ℕ, pos, List, Bool, true, false, codes, Option, Some, None}
use Rattle.swf_text.specs.Pointer.{pointer}
use Rattle.swf_text.specs.Same.{same}
use Rattle.swf_value.specs.Value.{Value, int, text, object, Members, member, no_members}
use Rattle.swf_document.specs.declared.error.ErrorFilter.{ErrorFilter}
use Rattle.swf_document.specs.declared.error.ErrorKind.{ErrorKind}
use Rattle.swf_document.specs.declared.error.ErrorKind.TheVariants as kinds
use Rattle.swf_document.specs.declared.error.Problem.{Problem}

abbrev pub kind_word : ErrorKind → List ℕ
kind_word kinds.Configuration = codes "configuration"
kind_word kinds.Validation = codes "validation"
kind_word kinds.Expression = codes "expression"
kind_word kinds.Authentication = codes "authentication"
kind_word kinds.Authorization = codes "authorization"
kind_word kinds.Timeout = codes "timeout"
kind_word kinds.Communication = codes "communication"
kind_word kinds.Runtime = codes "runtime"

abbrev pub kind_status : ErrorKind → ℕ
kind_status kinds.Configuration = 400
kind_status kinds.Validation = 400
kind_status kinds.Expression = 400
kind_status kinds.Authentication = 401
kind_status kinds.Authorization = 403
kind_status kinds.Timeout = 408
kind_status kinds.Communication = 500
kind_status kinds.Runtime = 500

-- a standard error of the task at a place
abbrev pub standard : ErrorKind → List (List ℕ) → List ℕ → Problem
standard k place detail =
    record { uri = codes "https://serverlessworkflow.io/spec/1.0.0/errors/" ++ kind_word k; status = kind_status k; title = Some (kind_word k); detail = Some detail; instance = Some (pointer place) }

abbrev pub given : List ℕ → Option (List ℕ) → Members → Members
given k None ms = ms
given k (Some x) ms = member k (text x) ms

-- an error as a value
abbrev pub problem_value : Problem → Value
problem_value p =
    object (given (codes "detail") p.detail (given (codes "instance") p.instance (member (codes "status") (int (pos p.status)) (given (codes "title") p.title (member (codes "type") (text p.uri) no_members)))))

abbrev pub text_matches : Option (List ℕ) → Option (List ℕ) → Bool
text_matches None x = true
text_matches (Some a) None = false
text_matches (Some a) (Some b) = same a b

abbrev pub status_matches : Option ℕ → ℕ → Bool
status_matches None n = true
status_matches (Some m) n = m == n

-- each member that the filter gives is the error's
abbrev pub matches : ErrorFilter → Problem → Bool
matches f p = text_matches f.uri (Some p.uri) && status_matches f.status p.status && text_matches f.instance p.instance && text_matches f.title p.title && text_matches f.detail p.detail
