-- Which text is base64 (RFC 4648, section 4).
use Rattle.std.specs.Prelude.{ℕ, List, Bool}
use Rattle.std.specs.Result.{is_ok}
use Rattle.std.specs.Str.{encode_utf8_all}
use Rattle.base64.specs.GeneralPurpose.{decode_of}
use Rattle.base64.specs.Engines.{standard}

abbrev pub is_base64 : List ℕ → Bool
is_base64 t = is_ok (decode_of standard (encode_utf8_all t))
