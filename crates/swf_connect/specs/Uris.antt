-- By what a URI begins (RFC 3986, section 3.1).
use Rattle.std.specs.Prelude.{ℕ, List, Bool, ◌==◌, ◌&&◌, length, slice_index, nat_lt}
use Rattle.std.specs.List.{starts_with}
use Rattle.std.specs.Str.{encode_utf8_all}
use Rattle.swf_calls.specs.Request.{Request}

-- the bytes begin with a scheme and `:`
abbrev pub has_scheme : List ℕ → List ℕ → Bool
has_scheme scheme bytes = starts_with ◌==◌ bytes scheme && nat_lt (length scheme) (length bytes) && (slice_index bytes (length scheme) == 58)

-- the URI of a request, as bytes
abbrev pub uri_of : Request → List ℕ
uri_of request = encode_utf8_all request.uri
