-- What a desk knows of what happened at it.
use Rattle.std.specs.Prelude.{◌≡◌, ℕ, List}
use Rattle.std.specs.Ordering.{nat_cmp}
use Rattle.std.specs.BTreeMap.{get}
use Rattle.swf_desk.specs.declared.desk.Desk.{Desk}
use Rattle.swf_desk.specs.Clients.{Event, count, who}

-- it has each client that waits by its connection, and how many asked
pub record Keeps {L : Type 0} (desk : Desk L) (es : List (Event L)) : Type 0 where
  pub admitted : desk.admitted ≡ count es
  pub clients : (conn : ℕ) → get nat_cmp desk.clients conn ≡ who es conn
