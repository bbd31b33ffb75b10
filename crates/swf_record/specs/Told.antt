-- What a call of the decoder's reader tells of the bytes before it.
use Rattle.std.specs.Prelude.{◌≡◌, ◌⊎◌, List, ℕ, Result, Ok, Err}
use Rattle.swf_record.specs.Decodes.{Reading}
use Rattle.swf_record.specs.declared.reader.Stop.{Stop}
use Rattle.swf_record.specs.declared.reader.Stop.TheVariants.{OutOfMemory}

-- what was read, seen by f, and what is left
abbrev pub told : {A B : Type 0} → (A → B) → Result A Stop → List ℕ → Reading B
told f (Ok x) rest = Ok (f x, rest)
told f (Err e) rest = Err rest

-- memory was missing, or the call tells this reading
abbrev pub Tells : {A B : Type 0} → (A → B) → Result A Stop → List ℕ → Reading B → Type 0
Tells f result rest reading = (result ≡ Err OutOfMemory) ⊎ (told f result rest ≡ reading)
