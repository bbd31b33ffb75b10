-- What a step changes of a node.
use Rattle.std.specs.Prelude.{◌≡◌, ◌≤◌, ◌+◌, ℕ, List, [], ◌∷◌, Bool, true, false, length, nat_eq, take, Option, Some, None, if◌then◌else◌}
use Rattle.swf_value.specs.Node.{items_of}
use Rattle.swf_value.specs.Value.{Value, list}
use Rattle.swf_frames.specs.Tree.{Branch}
use Rattle.swf_frames.specs.Paths.{Found, nth}
use Rattle.swf_meaning.specs.Complete.{Stepped}
use Rattle.swf_meaning.specs.Local.{local}
use Rattle.swf_meaning.specs.Node.{Node}
use Rattle.swf_meaning.specs.Line.{Line, Site}
use Rattle.swf_stack.specs.Stands.{top_of}
use Rattle.swf_stack.specs.Stack.{context_or}
use Rattle.swf_stack.specs.declared.made.Frame.{Frame}
use Rattle.swf_stack.specs.declared.made.Stand.{Stand}
use Rattle.swf_stack.specs.declared.made.Top.{Top}
use Rattle.swf_stack.specs.declared.made.Top.TheVariants as tops
use Rattle.swf_strands.specs.Strands.{is_fork, made_stand, node_of}
use Rattle.swf_strands.specs.Ways.{has_strand, replaced}
use Rattle.swf_tasks.specs.declared.prepared.Prepared.{Prepared}
use Rattle.swf_tasks.specs.declared.prepared.Strands.{Strands}
use Rattle.swf_tasks.specs.declared.prepared.Strands.TheVariants as strands

abbrev pub listed : List Value → Value
listed ws = list (items_of ws)

abbrev pub has_ended : Top → Bool
has_ended (tops.Done w f) = true
has_ended (tops.Fault p) = true
has_ended t = false

-- what stands innermost, where it ended
abbrev pub if_ended : Top → Option Top
if_ended t = if has_ended t then Some t else None

-- what a strand ended in with nothing around it
abbrev pub ended_in : List Frame → Top → Option Top
ended_in [] t = if_ended t
ended_in (f ∷ fs) t = None

-- what the strand ended in that so many branch numbers lead to, where it is the one that is put anew
abbrev pub ended_at : ℕ → Strands → Option Top
ended_at n (strands.One d h) = if nat_eq d n then ended_in h.around h.top else None
ended_at n (strands.All f) = None

-- the output of what ended with nothing around it
abbrev pub output_of_top : Top → Option Value
output_of_top (tops.Done w f) = Some w
output_of_top t = None

abbrev pub output_on : List Frame → Top → Option Value
output_on [] t = output_of_top t
output_on (f ∷ fs) t = None

-- the step that puts that strand anew to which the first branch numbers lead, so many
abbrev pub change_at : ℕ → Stand → Value → ℕ → Prepared → List ℕ → Node → Stepped
change_at d h c used p bs n = record { node = replaced (take d bs) (made_stand h) n; context = context_or c p.context; used = used; emitted = p.emitted }

-- a strand of the node is put anew, which so many branch numbers lead to; others before them lead to the node
pub record IsChange (s : Site) (l : Line) (way : List ℕ) (above : ℕ) (bs : List ℕ) (n : Node) (p : Prepared) : Type 0 where
  pub depth : ℕ
  pub stand : Stand
  pub used : ℕ
  pub puts : p.strands ≡ strands.One (above + depth) stand
  pub deep : depth ≤ length bs
  pub there : has_strand (take depth bs) n ≡ true
  pub step : local s l bs n ≡ Some (change_at depth stand l.context used p bs n)
  pub named : p.strand ≡ way
  pub number : p.number ≡ s.number + used

-- the branch of that number of the strand takes the step
abbrev pub IsChangeOf : Site → Line → List ℕ → ℕ → List ℕ → Branch Stand → ℕ → Prepared → Type 0
IsChangeOf s l way above inner b number p = (h : Found Stand) × ((nth b.below number ≡ Some h) × IsChange s l way above inner (node_of h.held) p)

-- a `fork` stands innermost on the strand, which has a branch of that number
abbrev pub IsForkOf : Branch Stand → ℕ → Type 0
IsForkOf b number = (is_fork (top_of b.frames) ≡ true) × ((h : Found Stand) × (nth b.below number ≡ Some h))
