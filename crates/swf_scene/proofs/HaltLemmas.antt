-- How a rule goes on with what a part of it gave.
use Rattle.std.proofs.Common.{◌≡◌, ℕ, List, Ok, Err, ap, sym, ◌∙◌, subst}
use Rattle.std.proofs.lemmas.Result.{err_from_is_err_and}
use Rattle.std.specs.Prelude.{Result}
use Rattle.std.specs.Result.{IsErrAnd}
use Rattle.swf_document.specs.Task.{Task}
use Rattle.swf_document.specs.declared.error.ErrorKind.{ErrorKind}
use Rattle.swf_document.specs.declared.error.Problem.{Problem}
use Rattle.swf_meaning.specs.Complete.{Stepped}
use Rattle.swf_meaning.specs.Line.{Line}
use Rattle.swf_meaning.specs.Rule.{◌>>=◌, fails}
use Rattle.swf_scene.specs.Halts.{Gives, Makes, IsFault}
use Rattle.swf_scene.specs.declared.halt.Halt.{Halt}
use Rattle.swf_scene.specs.declared.halt.Halt.TheVariants as halts
use Rattle.swf_stack.specs.declared.made.Made.{Made}

-- without memory
pub Gives-memory : {A : Type 0} (m : Result A Problem) (e : Halt) → e ≡ halts.OutOfMemory → Gives m (Err e)
Gives-memory m e h = subst (λ x. Gives m (Err x)) (sym h) tt

pub Makes-memory : (l : Line) (m : Result Stepped Problem) (e : Halt) → e ≡ halts.OutOfMemory → Makes l m (Err e)
Makes-memory l m e h = subst (λ x. Makes l m (Err x)) (sym h) tt

-- what is the same gives the same
pub Gives-same : {A : Type 0} (m n : Result A Problem) (r : Result A Halt) → m ≡ n → Gives m r → Gives n r
Gives-same m n r e h = subst (λ x. Gives x r) e h

pub Makes-same : (l : Line) (m n : Result Stepped Problem) (r : Result Made Halt) → m ≡ n → Makes l m r → Makes l n r
Makes-same l m n r e h = subst (λ x. Makes l x r) e h

-- a part that gave a value
pub Gives-on : {A B : Type 0} (m : Result A Problem) (x : A) (k : A → Result B Problem) (r : Result B Halt) → Gives m (Ok x) → Gives (k x) r → Gives (m >>= k) r
Gives-on m x k r e h = subst (λ y. Gives (y >>= k) r) (sym e) h

pub Makes-on : {A : Type 0} (l : Line) (m : Result A Problem) (x : A) (k : A → Result Stepped Problem) (r : Result Made Halt) → Gives m (Ok x) → Makes l (k x) r → Makes l (m >>= k) r
Makes-on l m x k r e h = subst (λ y. Makes l (y >>= k) r) (sym e) h

-- a part that ended the rule
pub Gives-halt : {A B : Type 0} (m : Result A Problem) (k : A → Result B Problem) (e : Halt) → Gives m (Err e) → Gives (m >>= k) (Err e)
Gives-halt m k (halts.Fault p) h = ap (λ y. y >>= k) h
Gives-halt m k halts.OutOfMemory h = tt

pub Makes-halt : {A : Type 0} (l : Line) (m : Result A Problem) (k : A → Result Stepped Problem) (e : Halt) → Gives m (Err e) → Makes l (m >>= k) (Err e)
Makes-halt l m k (halts.Fault p) h = ap (λ y. y >>= k) h
Makes-halt l m k halts.OutOfMemory h = tt

-- the same where `?` handed it on
pub Gives-passed : {A B : Type 0} (m : Result A Problem) (k : A → Result B Problem) (r : Result B Halt) (e : Halt) → IsErrAnd r (λ y. y ≡ e) → Gives m (Err e) → Gives (m >>= k) r
Gives-passed m k r e same h = let p = err_from_is_err_and r same in subst (λ x. Gives (m >>= k) x) (sym (p.1 ∙ ap Err p.2)) (Gives-halt m k e h)

pub Makes-passed : {A : Type 0} (l : Line) (m : Result A Problem) (k : A → Result Stepped Problem) (r : Result Made Halt) (e : Halt) → IsErrAnd r (λ y. y ≡ e) → Gives m (Err e) → Makes l (m >>= k) r
Makes-passed l m k r e same h = let p = err_from_is_err_and r same in subst (λ x. Makes l (m >>= k) x) (sym (p.1 ∙ ap Err p.2)) (Makes-halt l m k e h)

-- a standard error of a task
pub Gives-fails : (A : Type 0) (t : Task) (k : ErrorKind) (d : List ℕ) (e : Halt) → IsFault t k d e → Gives {A = A} (fails t k d) (Err e)
Gives-fails A t k d (halts.Fault p) h = ap Err (sym h)
Gives-fails A t k d halts.OutOfMemory h = tt

pub Makes-fails : (l : Line) (t : Task) (k : ErrorKind) (d : List ℕ) (e : Halt) → IsFault t k d e → Makes l (fails t k d) (Err e)
Makes-fails l t k d (halts.Fault p) h = ap Err (sym h)
Makes-fails l t k d halts.OutOfMemory h = tt
