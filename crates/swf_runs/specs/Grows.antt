-- What is in a world is in each later one.
use Rattle.std.specs.Prelude.{◌≡◌, ◌≤◌, ℕ, List, ◌++◌, map}
use Rattle.swf_value.specs.Value.{Value}
use Rattle.swf_document.specs.declared.document.Document.{Document}
use Rattle.swf_meaning.specs.World.{Instance, World}

-- the second list goes on where the first one ends
abbrev pub Begins : {A : Type 0} → List A → List A → Type 0
Begins {A} xs ys = (zs : List A) × (ys ≡ xs ++ zs)

-- what an instance is from its start on: its id, its document, its input and when it started
abbrev pub origin : Instance → List ℕ × Document × Value × ℕ
origin i = (i.id, i.document, i.input, i.started)

-- what was loaded, started and sent in one world has its place in the other, whose moment is no earlier one
pub record Grows (w m : World) : Type 0 where
  pub documents : Begins w.documents m.documents
  pub instances : Begins (map origin w.instances) (map origin m.instances)
  pub outbox : Begins w.outbox m.outbox
  pub now : w.now ≤ m.now
