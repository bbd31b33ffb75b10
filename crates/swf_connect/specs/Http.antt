-- The count of a connector over HTTP.
use Rattle.std.specs.Prelude.{ℕ}
use Rattle.swf_connect.specs.declared.http_connector.HttpConnector.{HttpConnector}

-- how many requests reached nobody
abbrev pub unreached_of : {D : Type 0} → HttpConnector D → ℕ
unreached_of connector = connector.unreached
