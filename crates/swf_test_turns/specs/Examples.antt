-- Turns in the mode of these examples.
use Rattle.std.specs.Prelude.{ℕ, List, [], ◌∷◌, Bool, Some, None, codes}
use Rattle.swf_calls.specs.Request.{Request}
use Rattle.swf_calls.specs.declared.reply.CallReply.{CallReply}
use Rattle.swf_store.specs.declared.said.Piece.{Piece}
use Rattle.swf_host.specs.declared.host.Input.{Input}
use Rattle.swf_host.specs.declared.host.Input.TheVariants.{Ask as Asks, Work, Idle, Closed}
use Rattle.swf_host.specs.declared.script.Turn.TheVariants.{In}
use Rattle.swf_host.specs.Script.{Play, first_play}
use Rattle.swf_meaning.specs.declared.label.Label.{Label}
use Rattle.swf_meaning.specs.declared.label.Label.TheVariants.{Moment, Reply, Step}
use Rattle.swf_runs.specs.Runs.{world_at}
use Rattle.swf_engine.specs.Settling.{Called, is_settled}
use Rattle.swf_protocol.specs.Spoken.{spoken}
use Rattle.swf_protocol.specs.declared.reply.Reply.TheVariants.{Reached}
use Rattle.swf_turns.specs.Turns.{Turn, settle_reply}
use Rattle.swf_test_turns.specs.declared.work.Done.{Done}
use Rattle.swf_test_turns.specs.declared.work.Job.{Job}

abbrev pub step : Label
step = Step (codes "i") []

abbrev pub go : Input Done
go = Asks 0 (codes "go")

-- what a board answered to a call
abbrev pub given : List ℕ → Request → CallReply → Called
given call request reply = record { activity = call; request = request; reply = Some reply }

-- two steps, and between them what the board answered to a call
abbrev pub answered_step : List ℕ → CallReply → List Label
answered_step call reply = step ∷ Reply call reply ∷ step ∷ []

-- `go`, and then `done` twice, once from another connection
abbrev pub settled_of_three : Bool → List ℕ → Request → CallReply → Turn Done
settled_of_three http call request reply = record {
  first = go;
  more = Asks 0 (codes "done") ∷ Asks 1 (codes "done") ∷ [];
  answers = given call request reply ∷ [];
  labels = answered_step call reply;
  reply = Some (settle_reply (is_settled http (world_at (answered_step call reply))) 2 2);
}

-- `go`, and then what came of two jobs, and that no more comes
abbrev pub settled_with_work : Bool → Done → Done → Turn Done
settled_with_work http a b = record {
  first = go;
  more = Work a ∷ Work b ∷ Idle ∷ [];
  answers = [];
  labels = step ∷ step ∷ [];
  reply = Some (settle_reply (is_settled http (world_at (step ∷ step ∷ []))) 2 2);
}

-- a host in memory before the first turn of its script: `go`, and then what came of a job
abbrev pub started : Done → Play Job Done
started w = first_play (In go ∷ In (Work w) ∷ []) [] []

-- work that no line came before
abbrev pub early_work : Done → Turn Done
early_work a = record { first = Work a; more = []; answers = []; labels = []; reply = None }

-- three calls were answered, and the last two of the answers are used, the last one first
abbrev pub used : List ℕ → List ℕ → CallReply → List Label
used b c reply = Reply c reply ∷ step ∷ Reply b reply ∷ step ∷ []

abbrev pub both_answers : Bool → List ℕ → List ℕ → List ℕ → Request → CallReply → Turn Done
both_answers http a b c request reply = record {
  first = go;
  more = [];
  answers = given a request reply ∷ given b request reply ∷ given c request reply ∷ [];
  labels = used b c reply;
  reply = Some (settle_reply (is_settled http (world_at (used b c reply))) 2 2);
}

-- no line came, and moment 9 was told
abbrev pub ticked : Turn Done
ticked = record { first = Closed; more = []; answers = []; labels = []; reply = None }

-- a line of twelve bytes
abbrev pub twelfth : Turn Done
twelfth = record { first = Asks 0 (codes "twelve bytes"); more = []; answers = []; labels = Moment 9 ∷ Moment 12 ∷ []; reply = Some (Reached 1) }

-- the same without the moment that was told
abbrev pub untimely : Turn Done
untimely = record twelfth { labels = Moment 12 ∷ []; reply = Some (Reached 0) }

-- a line of fifteen bytes, behind the moment
abbrev pub fifteenth : Turn Done
fifteenth = record { first = Asks 0 (codes "fifteen of them"); more = []; answers = []; labels = Moment 15 ∷ []; reply = Some (Reached 2) }

abbrev pub fifth : Label
fifth = Moment 5

abbrev pub seventh : Label
seventh = Moment 7

-- a line of five bytes from one connection, and one of seven from another
abbrev pub both_held : List (Turn Done)
both_held =
    (record { first = Asks 0 (codes "fifth"); more = []; answers = []; labels = fifth ∷ []; reply = Some (Reached 0) })
    ∷ (record { first = Asks 1 (codes "seventh"); more = []; answers = []; labels = seventh ∷ []; reply = Some (Reached 1) })
    ∷ []

-- both replies, each behind two inputs
abbrev pub late_pieces : List Piece
late_pieces = (record { conn = 0; bytes = spoken (Reached 0); inputs = 2 }) ∷ (record { conn = 1; bytes = spoken (Reached 1); inputs = 2 }) ∷ []

-- the first reply before its line was taken
abbrev pub early_pieces : List Piece
early_pieces = (record { conn = 0; bytes = spoken (Reached 0); inputs = 0 }) ∷ (record { conn = 1; bytes = spoken (Reached 1); inputs = 2 }) ∷ []
