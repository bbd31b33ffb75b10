-- What rounds keep, and what is seen inside running tasks.
use Rattle.std.proofs.Common.{◌≡◌, true, false, List, [], ◌∷◌, ◌++◌, refl}
use Rattle.swf_value.specs.Value.{Value}
use Rattle.swf_meaning.specs.Around.{seen}
use Rattle.swf_meaning.specs.Line.{Line}
use Rattle.swf_meaning.specs.Put.{keeping, context_around}
use Rattle.swf_document.specs.Task.{Task}
use Rattle.swf_catalog.specs.Rounds.{is_sub, keeping_in, round_of}
use Rattle.swf_catalog.specs.declared.round.Round.{Round}
use Rattle.swf_catalog.specs.declared.round.Round.TheVariants as rounds
use Rattle.swf_stack.specs.Stack.{seen_in}
use Rattle.swf_stack.specs.declared.made.Frame.{Frame}

-- a round that keeps a context
pub keeping_of : (r : Round) (c : Value) → round_of (keeping_in r c) ≡ keeping (round_of r) c
keeping_of rounds.Seq c = refl
keeping_of (rounds.Each i) c = refl
keeping_of (rounds.Try n) c = refl
keeping_of (rounds.Catch p) c = refl
keeping_of rounds.Function c = refl
keeping_of (rounds.SubWorkflow s) c = refl

-- none but a sub-workflow keeps one
pub keeping_none : (r : Round) (c : Value) → is_sub r ≡ false → keeping (round_of r) c ≡ round_of r
keeping_none rounds.Seq c e = refl
keeping_none (rounds.Each i) c e = refl
keeping_none (rounds.Try n) c e = refl
keeping_none (rounds.Catch p) c e = refl
keeping_none rounds.Function c e = refl
keeping_none (rounds.SubWorkflow s) c e = cc

-- the context inside is that around, but of a sub-workflow
pub around_none : (l : Line) (r : Round) (c : Value) → is_sub r ≡ false → context_around l (round_of r) c ≡ c
around_none l rounds.Seq c e = refl
around_none l (rounds.Each i) c e = refl
around_none l (rounds.Try n) c e = refl
around_none l (rounds.Catch p) c e = refl
around_none l rounds.Function c e = refl
around_none l (rounds.SubWorkflow s) c e = cc

-- and the one around a sub-workflow stays
pub around_sub : (l : Line) (r : Round) (c : Value) → is_sub r ≡ true → context_around l (round_of r) c ≡ l.context
around_sub l rounds.Seq c e = cc
around_sub l (rounds.Each i) c e = cc
around_sub l (rounds.Try n) c e = cc
around_sub l (rounds.Catch p) c e = cc
around_sub l rounds.Function c e = cc
around_sub l (rounds.SubWorkflow s) c e = refl

-- a context that did not change is kept as it was
pub keeping_same : (l : Line) (t : Task) (r : Round) → keeping (round_of r) (seen l t (round_of r)).context ≡ round_of r
keeping_same l t rounds.Seq = refl
keeping_same l t (rounds.Each i) = refl
keeping_same l t (rounds.Try n) = refl
keeping_same l t (rounds.Catch p) = refl
keeping_same l t rounds.Function = refl
keeping_same l t (rounds.SubWorkflow s) = refl

pub around_same : (l : Line) (t : Task) (r : Round) → context_around l (round_of r) (seen l t (round_of r)).context ≡ l.context
around_same l t rounds.Seq = refl
around_same l t (rounds.Each i) = refl
around_same l t (rounds.Try n) = refl
around_same l t (rounds.Catch p) = refl
around_same l t rounds.Function = refl
around_same l t (rounds.SubWorkflow s) = refl

-- what is seen inside running tasks and then inside more of them
pub seen_in-append : (l : Line) (fs gs : List Frame) → seen_in l (fs ++ gs) ≡ seen_in (seen_in l fs) gs
seen_in-append l [] gs = refl
seen_in-append l (f ∷ fs) gs = seen_in-append (seen l f.running.task (round_of f.round)) fs gs
