-- Whom a URI reaches: a URL and its host (URL Standard, section 4.4).
use Rattle.std.specs.Prelude.{ℕ, List, Option, Some, None, option_map, unwrap_or, Result, Ok, Err}
use Rattle.url.specs.declared.error.ParseError.{ParseError}
use Rattle.url.specs.Host.{host_text}
use Rattle.url.specs.Parts.{Parts, nonempty_host}
use Rattle.url.specs.Parser.{parse_url}
use Rattle.swf_calls.specs.Request.{Request}
use Rattle.swf_connect.specs.Uris.{uri_of}

-- a URL, and its host as the URL writes it
pub record Target : Type 0 where
  pub url : Parts
  pub host : List ℕ

abbrev pub host_of : Parts → Option (List ℕ)
host_of url = option_map host_text (nonempty_host url)

-- the port that the URL gives, or that of HTTP (RFC 9110, section 4.2.1)
abbrev pub port_of : Parts → ℕ
port_of url = unwrap_or url.port 80

abbrev pub with_host : Parts → Option (List ℕ) → Option Target
with_host url None = None
with_host url (Some host) = Some (record { url = url; host = host })

abbrev pub reached_by : Result Parts ParseError → Option Target
reached_by (Ok url) = with_host url (host_of url)
reached_by (Err e) = None

-- whom a request reaches; none where its URI is no URL, or has no host
abbrev pub reached : Request → Option Target
reached request = reached_by (parse_url None (uri_of request))
