-- Every step leads to a node whose forks at work have a branch that goes on, and none in an error, nor one that won.
use Rattle.std.proofs.Common.{◌≡◌, ◌∙◌, refl, ap, sym, subst, cond, if◌then◌else◌, ℕ, zero, suc, List, [], ◌∷◌, Bool, true, false, Option, Some, None, option_map, Result, Ok, Err}
use Rattle.swf_value.specs.Value.{Value, list}
use Rattle.swf_value.specs.Node.{items_of}
use Rattle.swf_document.specs.declared.common.Flow.{Flow}
use Rattle.swf_document.specs.declared.common.Flow.TheVariants as flows
use Rattle.swf_document.specs.declared.error.Problem.{Problem}
use Rattle.std.proofs.lemmas.Bool.{both_ways}
use Rattle.swf_document.specs.Task.{Task}
use Rattle.swf_meaning.specs.Around.{seen}
use Rattle.swf_meaning.specs.Complete.{Stepped, step_of, complete}
use Rattle.swf_meaning.specs.Fork.{put, outputs, output_before, joined, settled, after_branch, competes}
use Rattle.swf_meaning.specs.Line.{Line, Site}
use Rattle.swf_meaning.specs.Local.{local}
use Rattle.swf_meaning.specs.Node.{Node, Fresh, Live, Done, Fault, Inside, At, Later, Sleep, Hear, Await, Forked, Nodes, no_nodes, branch, Running}
use Rattle.swf_meaning.specs.Put.{put_at, put_inside, put_branch}
use Rattle.swf_runs.specs.Alive.{has_ended, is_error, some_goes_on, all_go_on, IsAlive, IsAliveInside, AreAlive}
use Rattle.swf_runs.proofs.RuleLemmas.{AreFresh, IsMade, IsMadeInside, Yields, completes, local_put}

-- a node that a rule makes is alive
fresh_alive : (ns : Nodes) → AreFresh ns → AreAlive ns
fresh_alive no_nodes h = tt
fresh_alive (branch (Fresh t v) ns) h = (refl, tt, fresh_alive ns h.1)
fresh_alive (branch (Live r k) ns) h = absurd h.0
fresh_alive (branch (Done w f) ns) h = absurd h.0
fresh_alive (branch (Fault p) ns) h = absurd h.0

fresh_goes : (n : Node) (ns : Nodes) → AreFresh (branch n ns) → some_goes_on (branch n ns) ≡ true
fresh_goes (Fresh t v) ns h = refl
fresh_goes (Live r k) ns h = absurd h.0
fresh_goes (Done w f) ns h = absurd h.0
fresh_goes (Fault p) ns h = absurd h.0

fresh_all : (ns : Nodes) → AreFresh ns → all_go_on ns ≡ true
fresh_all no_nodes h = refl
fresh_all (branch (Fresh t v) ns) h = fresh_all ns h.1
fresh_all (branch (Live r k) ns) h = absurd h.0
fresh_all (branch (Done w f) ns) h = absurd h.0
fresh_all (branch (Fault p) ns) h = absurd h.0

made_inside : (s : Site) (t : Task) (k : Inside) → IsMadeInside s k → IsAliveInside t k
made_inside s t (At round i (Fresh x v)) h = tt
made_inside s t (At round i (Live r k)) h = absurd h
made_inside s t (At round i (Done w f)) h = tt
made_inside s t (At round i (Fault p)) h = tt
made_inside s t (Later n m) h = tt
made_inside s t (Sleep m) h = tt
made_inside s t (Hear bound hs) h = tt
made_inside s t (Await a q o) h = tt
made_inside s t (Forked no_nodes) h = absurd h
made_inside s t (Forked (branch n ns)) h = (fresh_goes n ns h.1, λ c. fresh_all (branch n ns) h.1, fresh_alive (branch n ns) h.1)

made_alive : (s : Site) (n : Node) → IsMade s n → IsAlive n
made_alive s (Fresh t v) h = tt
made_alive s (Live r k) h = made_inside s r.task k h
made_alive s (Done w f) h = tt
made_alive s (Fault p) h = tt

-- a rule gives a node that is alive, or an error
abbrev Gives : Result Stepped Problem → Type 0
Gives (Ok m) = IsAlive m.node
Gives (Err p) = Unit {0}

yields_alive : (s : Site) (o : Result Stepped Problem) → Yields s o → Gives o
yields_alive s (Ok m) h = made_alive s m.node h
yields_alive s (Err p) h = tt

gives_on : (l : Line) (o : Result Stepped Problem) → Gives o → IsAlive (step_of l o).node
gives_on l (Ok m) h = h
gives_on l (Err p) h = tt

some_go : (e b c : Bool) → cond e b true ≡ true → (b ≡ true → c ≡ true) → cond e c true ≡ true
some_go true b c h f = f h
some_go false b c h f = refl

rest_go : (e b : Bool) → cond e false b ≡ true → b ≡ true
rest_go true b h = cc
rest_go false b h = h

both_go : (e b c : Bool) → cond e false b ≡ true → (b ≡ true → c ≡ true) → cond e false c ≡ true
both_go true b c h f = h
both_go false b c h f = f h

-- a node that goes on in the place of a branch
goes_put : (ns : Nodes) (b : ℕ) (m : Node) → has_ended m ≡ false → some_goes_on ns ≡ true → some_goes_on (put ns b m) ≡ true
goes_put no_nodes b m on some = some
goes_put (branch n ns) zero m on some = ap (λ e. cond e (some_goes_on ns) true) on
goes_put (branch n ns) (suc b) m on some = some_go (has_ended n) (some_goes_on ns) (some_goes_on (put ns b m)) some (goes_put ns b m on)

-- where none has ended, and none does
all_put : (ns : Nodes) (b : ℕ) (m : Node) → has_ended m ≡ false → all_go_on ns ≡ true → all_go_on (put ns b m) ≡ true
all_put no_nodes b m on all = refl
all_put (branch n ns) zero m on all = ap (λ e. cond e false (all_go_on ns)) on ∙ rest_go (has_ended n) (all_go_on ns) all
all_put (branch n ns) (suc b) m on all = both_go (has_ended n) (all_go_on ns) (all_go_on (put ns b m)) all (all_put ns b m on)

alive_put : (ns : Nodes) (b : ℕ) (m : Node) → AreAlive ns → is_error m ≡ false → IsAlive m → AreAlive (put ns b m)
alive_put no_nodes b m all sound alive = tt
alive_put (branch n ns) zero m all sound alive = (sound, alive, all.2)
alive_put (branch n ns) (suc b) m all sound alive = (all.0, all.1, alive_put ns b m all.2 sound alive)

-- where not all outputs are there, and no branch is in an error, one goes on
without_output : (n : Node) (ns : Nodes) → is_error n ≡ false → output_before n (outputs ns) ≡ None → (outputs ns ≡ None → some_goes_on ns ≡ true) → some_goes_on (branch n ns) ≡ true
without_output (Fresh t v) ns sound none rest = refl
without_output (Live r k) ns sound none rest = refl
without_output (Done w f) ns sound none rest = by (outputs ns) refl none
  where
    by : (o : Option (List Value)) → outputs ns ≡ o → option_map (λ ws. w ∷ ws) o ≡ None → some_goes_on ns ≡ true
    by None e h = rest e
    by (Some ws) e h = cc
without_output (Fault p) ns sound none rest = cc

still_open : (ns : Nodes) → AreAlive ns → outputs ns ≡ None → some_goes_on ns ≡ true
still_open no_nodes all none = cc
still_open (branch n ns) all none = without_output n ns all.0 none (still_open ns all.2)

joins : (s : Site) (l : Line) (r : Running) (ns : Nodes) (o : Option (List Value)) → outputs ns ≡ o → competes r.task ≡ false → AreAlive ns → Gives (joined l r ns o)
joins s l r ns None e c all = (still_open ns all e, λ t. absurd (both_ways (competes r.task) c t), all)
joins s l r ns (Some ws) e c all = yields_alive s (complete l r (list (items_of ws))) (completes s l r (list (items_of ws)))

-- a `fork` after one of its branches came to a node
settles : (s : Site) (l : Line) (r : Running) (compete : Bool) (ns : Nodes) (b : ℕ) (m : Node) → competes r.task ≡ compete → some_goes_on ns ≡ true → (competes r.task ≡ true → all_go_on ns ≡ true) → AreAlive ns → IsAlive m → Gives (settled l r compete (put ns b m) m)
settles s l r compete ns b (Fresh t v) is some none all alive = (goes_put ns b (Fresh t v) refl some, λ c. all_put ns b (Fresh t v) refl (none c), alive_put ns b (Fresh t v) all refl alive)
settles s l r compete ns b (Live q k) is some none all alive = (goes_put ns b (Live q k) refl some, λ c. all_put ns b (Live q k) refl (none c), alive_put ns b (Live q k) all refl alive)
settles s l r compete ns b (Done w f) is some none all alive = by f
  where
    done : (g : Flow) (c : Bool) → competes r.task ≡ c → Gives (if c then complete l r w else joined l r (put ns b (Done w g)) (outputs (put ns b (Done w g))))
    done g true e = yields_alive s (complete l r w) (completes s l r w)
    done g false e = joins s l r (put ns b (Done w g)) (outputs (put ns b (Done w g))) refl e (alive_put ns b (Done w g) all refl tt)

    by : (g : Flow) → Gives (settled l r compete (put ns b (Done w g)) (Done w g))
    by flows.Continue = done flows.Continue compete is
    by flows.Exit = done flows.Exit compete is
    by flows.End = tt
    by (flows.Task n) = done (flows.Task n) compete is
settles s l r compete ns b (Fault p) is some none all alive = tt

-- a node that is alive in the place of the top leaves all of it alive
branch_alive : (s : Site) (l : Line) (r : Running) (ns : Nodes) (b : ℕ) (m : Stepped) → IsAliveInside r.task (Forked ns) → IsAlive m.node → IsAlive (after_branch l r ns b m).node
branch_alive s l r ns b m a h = gives_on l (settled l r (competes r.task) (put ns b m.node) m.node) (settles s l r (competes r.task) ns b m.node refl a.0 a.1 a.2 h)

mutual
  put_alive : (s : Site) (l : Line) (bs : List ℕ) (n : Node) (m : Stepped) → IsAlive n → IsAlive m.node → IsAlive (put_at l bs n m).node
  put_alive s l bs (Fresh t v) m a h = h
  put_alive s l bs (Live r k) m a h = inside_alive s l bs r k m a h
  put_alive s l bs (Done w f) m a h = h
  put_alive s l bs (Fault p) m a h = h

  inside_alive : (s : Site) (l : Line) (bs : List ℕ) (r : Running) (k : Inside) (m : Stepped) → IsAliveInside r.task k → IsAlive m.node → IsAlive (put_inside l bs r k m).node
  inside_alive s l bs r (At round i (Fresh t v)) m a h = h
  inside_alive s l bs r (At round i (Live q k)) m a h = inside_alive s (seen l r.task round) bs q k m a h
  inside_alive s l bs r (At round i (Done w f)) m a h = h
  inside_alive s l bs r (At round i (Fault p)) m a h = h
  inside_alive s l bs r (Later n until) m a h = h
  inside_alive s l bs r (Sleep until) m a h = h
  inside_alive s l bs r (Hear bound hs) m a h = h
  inside_alive s l bs r (Await b q o) m a h = h
  inside_alive s l [] r (Forked ns) m a h = h
  inside_alive s l (b ∷ bs) r (Forked ns) m a h = branch_alive s l r ns b (put_branch l b bs ns m) a (among_alive s l b bs ns m a.2 h)

  among_alive : (s : Site) (l : Line) (b : ℕ) (bs : List ℕ) (ns : Nodes) (m : Stepped) → AreAlive ns → IsAlive m.node → IsAlive (put_branch l b bs ns m).node
  among_alive s l b bs no_nodes m a h = h
  among_alive s l zero bs (branch n ns) m a h = put_alive s l bs n m a.1 h
  among_alive s l (suc b) bs (branch n ns) m a h = among_alive s l b bs ns m a.2 h

-- a step leads to a node that is alive
pub local_alive : (s : Site) (l : Line) (bs : List ℕ) (n : Node) (m : Stepped) → local s l bs n ≡ Some m → IsAlive n → IsAlive m.node
local_alive s l bs n m e a =
    let p = local_put s l bs n m e in
    subst (λ (x : Stepped). IsAlive x.node) (sym p.2) (put_alive s l bs n p.0 a (made_alive s p.0.node p.1))
