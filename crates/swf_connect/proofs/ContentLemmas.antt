-- Bytes that are a text, and bytes that are none.
use Rattle.std.proofs.Common.{◌≡◌, ◌≢◌, refl, ap, ℕ, List, [], ◌∷◌, length, Bool, true, false, chars, cond, Some, None}
use Rattle.std.specs.Str.{IsUtf8, is_utf8}
use Rattle.std.proofs.lemmas.Str.{IsUtf8-from_is_utf8, is_utf8-from_IsUtf8}
use Rattle.base64.specs.GeneralPurpose.{encode_of}
use Rattle.base64.specs.Engines.{standard}
use Rattle.swf_value.specs.Value.{Value}
use Rattle.swf_calls.specs.declared.headers.Header.{Header}
use Rattle.swf_connect.specs.Content.{content_of, json_content, or_plain, plain_content}

pub utf8_text : (bytes : List ℕ) → IsUtf8 bytes → chars bytes ≡ chars (cond (is_utf8 bytes) bytes (encode_of standard bytes))
utf8_text bytes is = rw (is_utf8-from_IsUtf8 bytes is) refl

other_by : (bytes : List ℕ) (b : Bool) → is_utf8 bytes ≡ b → ¬ (IsUtf8 bytes) → chars (encode_of standard bytes) ≡ chars (cond (is_utf8 bytes) bytes (encode_of standard bytes))
other_by bytes true e none = absurd (none (IsUtf8-from_is_utf8 bytes e))
other_by bytes false e none = rw e refl

pub other_text : (bytes : List ℕ) → ¬ (IsUtf8 bytes) → chars (encode_of standard bytes) ≡ chars (cond (is_utf8 bytes) bytes (encode_of standard bytes))
other_text bytes none = other_by bytes (is_utf8 bytes) refl none

-- ---- the content of a body that is not empty

pub found_content : (headers : List Header) (body : List ℕ) (v : Value) → length body ≢ 0 → Some v ≡ json_content headers body → v ≡ content_of headers body
found_content headers [] v some is = absurd (some refl)
found_content headers (b ∷ body) v some is = ap (λ o. or_plain o (b ∷ body)) is

pub other_content : (headers : List Header) (body : List ℕ) → length body ≢ 0 → None ≡ json_content headers body → plain_content body ≡ content_of headers body
other_content headers [] some is = absurd (some refl)
other_content headers (b ∷ body) some is = ap (λ o. or_plain o (b ∷ body)) is
