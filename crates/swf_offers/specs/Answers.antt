-- What an answer leaves of the strands of an instance.
use Rattle.std.specs.Prelude.{◌≡◌, ◌&&◌, ℕ, List, [], ◌∷◌, Bool, true, false, is_some, map, not, Option, Some, None, if◌then◌else◌}
use Rattle.swf_text.specs.Same.{same}
use Rattle.swf_calls.specs.Request.{Request}
use Rattle.swf_calls.specs.declared.reply.CallReply.{CallReply}
use Rattle.swf_frames.specs.Paths.{edit, AreDistinct}
use Rattle.swf_frames.specs.Tree.{Tree, Branch, Strands, no_strands, strand}
use Rattle.swf_meaning.specs.Reply.{is_open}
use Rattle.swf_stack.specs.Stands.{top_of}
use Rattle.swf_stack.specs.declared.made.Stand.{Stand}
use Rattle.swf_stack.specs.declared.made.Top.{Top}
use Rattle.swf_stack.specs.declared.made.Top.TheVariants as tops
use Rattle.swf_strands.specs.Strands.{node_of, nodes_of, strand_node}

-- the call of that activity stands innermost, and has no answer
abbrev pub is_open_in_top : List ℕ → Top → Bool
is_open_in_top a (tops.Fresh t v) = false
is_open_in_top a (tops.Done w f) = false
is_open_in_top a (tops.Fault p) = false
is_open_in_top a (tops.Waiting r n m) = false
is_open_in_top a (tops.Hearing r bound hs) = false
is_open_in_top a (tops.Awaiting r b q o) = same a b && not (is_some o)
is_open_in_top a (tops.Forked r) = false

-- the call that stands innermost, where it awaits an answer
abbrev pub own_call : Top → List (List ℕ × Request)
own_call (tops.Fresh t v) = []
own_call (tops.Done w f) = []
own_call (tops.Fault p) = []
own_call (tops.Waiting r n m) = []
own_call (tops.Hearing r bound hs) = []
own_call (tops.Awaiting r a q None) = (a, q) ∷ []
own_call (tops.Awaiting r a q (Some p)) = []
own_call (tops.Forked r) = []

-- what stands innermost with an answer, where it is a call
abbrev pub answered_top : CallReply → Top → Top
answered_top p (tops.Fresh t v) = tops.Fresh t v
answered_top p (tops.Done w f) = tops.Done w f
answered_top p (tops.Fault q) = tops.Fault q
answered_top p (tops.Waiting r n m) = tops.Waiting r n m
answered_top p (tops.Hearing r bound hs) = tops.Hearing r bound hs
answered_top p (tops.Awaiting r a q o) = tops.Awaiting r a q (Some p)
answered_top p (tops.Forked r) = tops.Forked r

abbrev pub answered_stand : CallReply → Stand → Stand
answered_stand p h = record h { top = answered_top p h.top }

abbrev pub answered_stands : CallReply → List Stand → List Stand
answered_stands p hs = map (answered_stand p) hs

-- the answer stands in the first open call of the activity: of a strand before those below it, and of these in order
abbrev pub answered_strands : List ℕ → CallReply → Strands Stand → Strands Stand
answered_strands a p no_strands = no_strands
answered_strands a p (strand m ls below after) =
    if is_open_in_top a (top_of ls)
    then strand m (answered_stands p ls) below after
    else if is_open a (strand_node ls (nodes_of below)) then strand m ls (answered_strands a p below) after else strand m ls below (answered_strands a p after)

-- a strand alone
abbrev pub answered_here : CallReply → Branch Stand → Branch Stand
answered_here p b = record b { frames = answered_stands p b.frames }

-- and with those below it
abbrev pub answered_held : List ℕ → CallReply → Branch Stand → Branch Stand
answered_held a p b = if is_open_in_top a (top_of b.frames) then answered_here p b else record b { below = answered_strands a p b.below }

-- the answer was put into the call of that strand, or is handed back
abbrev pub IsAnswerHere : List ℕ → CallReply → ℕ → Branch Stand → Tree Stand → Tree Stand → Option CallReply → Type 0
IsAnswerHere a p n b old new None = (is_open_in_top a (top_of b.frames) ≡ true) × ((new.strands ≡ edit (answered_here p) old.strands n) × AreDistinct new.strands)
IsAnswerHere a p n b old new (Some q) = (is_open_in_top a (top_of b.frames) ≡ false) × ((q ≡ p) × (new ≡ old))

-- the same of the strand with those below it
abbrev pub IsAnswerIn : List ℕ → CallReply → ℕ → Branch Stand → Tree Stand → Tree Stand → Option CallReply → Type 0
IsAnswerIn a p n b old new None = (is_open a (node_of b) ≡ true) × ((new.strands ≡ edit (answered_held a p) old.strands n) × AreDistinct new.strands)
IsAnswerIn a p n b old new (Some q) = (is_open a (node_of b) ≡ false) × ((q ≡ p) × (new ≡ old))
