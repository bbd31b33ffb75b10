-- What holds of the parts of every world in memory.
use Rattle.std.specs.Prelude.{◌≡◌, ◌≤◌, ◌<◌, ℕ, List, false, None}
use Rattle.std.specs.List.{AllByRecursion}
use Rattle.swf_document.specs.declared.document.DocKey.{DocKey}
use Rattle.swf_meaning.specs.declared.key.Key.TheVariants as keys
use Rattle.swf_meaning.specs.Answer.{instance_at}
use Rattle.swf_meaning.specs.World.{World}
use Rattle.swf_meaning.specs.Documents.{document_at}
use Rattle.swf_runs.specs.After.{is_used}
use Rattle.swf_world.specs.Early.{IsEarly, most_labels}

-- what is kept has a used key, and no moment above now has one
pub record New (w : World) : Type 0 where
  pub document : (k : DocKey) → is_used (keys.Document k) w ≡ false → document_at k w.documents ≡ None
  pub instance : (id : List ℕ) → is_used (keys.Instance id) w ≡ false → instance_at id w.instances ≡ None
  pub moment : (m : ℕ) → w.now < m → is_used (keys.Moment m) w ≡ false

-- the parts agree with each other
pub record Kept (w : World) : Type 0 where
  pub new : New w
  pub early : AllByRecursion IsEarly w.keys
  pub few : w.count ≤ most_labels
