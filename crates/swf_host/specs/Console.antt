-- A host over files, a reader and a writer: its files, and how many of its own calls have failed.
use Rattle.std.specs.Prelude.{ℕ}
use Rattle.swf_store.specs.declared.files.FileStore.{FileStore}
use Rattle.swf_host.specs.declared.console_host.ConsoleHost.{ConsoleHost}

abbrev pub files_of : {F R W File Dir : Type 0} → ConsoleHost F R W File Dir → FileStore F File Dir
files_of host = host.store

abbrev pub console_faults : {F R W File Dir : Type 0} → ConsoleHost F R W File Dir → ℕ
console_faults host = host.faults
