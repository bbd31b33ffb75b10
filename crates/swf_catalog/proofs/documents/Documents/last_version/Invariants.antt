use Rattle.std.proofs.Common.{◌≡◌, take}
use Rattle.swf_meaning.specs.Documents.{last_version}
use Rattle.swf_catalog.specs.Loads.{loaded_in}
use Rattle.swf_catalog.proofs.documents.Documents.last_version.Given as goal

-- the version of the last of the documents so far
abbrev pub invariant-loop-number : goal.invariant-loop-number
invariant-loop-number l = last_version l.key (take l.number (loaded_in l.self-inside.by_key.entries)) l.key.version ≡ l.version
