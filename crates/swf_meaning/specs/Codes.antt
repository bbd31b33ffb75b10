-- Codes for labels, nodes and worlds, by which a ghost name tells them apart.
use Rattle.std.specs.Prelude.{◌≡◌, refl, ℕ}
use Rattle.std.specs.Coded.{Coded, codes, coded_list, coded_option, coded_ℕ}
use base.Stored.{Gv, gnil, gnum, gcons}
use mathlib.Core.Path.{ap}
use Rattle.swf_value.specs.ValueCode.{value_code, members_code}
use Rattle.swf_calls.specs.Codes.{reply_code}
use Rattle.swf_calls.specs.Request.{request_code}
use Rattle.swf_cloudevents.specs.Codes.{event_code}
use Rattle.swf_document.specs.Code.{head, tail}
use Rattle.swf_document.specs.DocumentCode.{document_code}
use Rattle.swf_document.specs.TaskCode.{task_code}
use Rattle.swf_document.specs.declared.common.Flow.{Flow}
use Rattle.swf_document.specs.declared.error.Problem.{Problem}
use Rattle.swf_meaning.specs.declared.heard.Heard.{Heard}
use Rattle.swf_meaning.specs.declared.label.Label.{Label}
use Rattle.swf_meaning.specs.Node.{Node, Fresh, Live, Done, Fault, Inside, At, Later, Sleep, Hear, Await, Forked, Nodes, no_nodes, branch, Round, Seq, Each, Try, Catch, Fun, Sub, Running}
use Rattle.swf_meaning.specs.World.{Instance, World}

pub label_code : Coded Label
label_code = hlevel (codes, value_code, members_code)

pub flow_code : Coded Flow
flow_code = hlevel codes

pub problem_code : Coded Problem
problem_code = hlevel codes

pub heard_code : Coded Heard
heard_code = hlevel (codes, event_code)

pub running_code : Coded Running
running_code = hlevel (codes, task_code, value_code)

abbrev number_in : Gv → ℕ
number_in gnil = 0
number_in (gnum n) = n
number_in (gcons a b) = 0

abbrev code_round : Round → Gv
code_round Seq = gcons (gnum 0) gnil
code_round (Each items j) = gcons (gnum 1) (gcons ((coded_list value_code).code items) (gnum j))
code_round (Try n) = gcons (gnum 2) (gnum n)
code_round (Catch p) = gcons (gnum 3) (problem_code.code p)
code_round Fun = gcons (gnum 4) gnil
code_round (Sub d v c) = gcons (gnum 5) (gcons (document_code.code d) (gcons (value_code.code v) (value_code.code c)))

pub code_round_inj : (x y : Round) → code_round x ≡ code_round y → x ≡ y
code_round_inj Seq Seq p = refl
code_round_inj (Each xs i) (Each ys j) p = λ h. Each ((coded_list value_code).inj xs ys (ap (λ g. head (tail g)) p) h) (ap (λ g. number_in (tail (tail g))) p h)
code_round_inj (Try n) (Try m) p = ap (λ g. Try (number_in (tail g))) p
code_round_inj (Catch p) (Catch q) e = ap Catch (problem_code.inj p q (ap tail e))
code_round_inj Fun Fun p = refl
code_round_inj (Sub d v c) (Sub e w b) p =
    λ h. Sub (document_code.inj d e (ap (λ g. head (tail g)) p) h) (value_code.inj v w (ap (λ g. head (tail (tail g))) p) h) (value_code.inj c b (ap (λ g. tail (tail (tail g))) p) h)
code_round_inj x y p = cc

abbrev mutual
  code_node : Node → Gv
  code_node (Fresh t v) = gcons (gnum 0) (gcons (task_code.code t) (value_code.code v))
  code_node (Live r k) = gcons (gnum 1) (gcons (running_code.code r) (code_inside k))
  code_node (Done w f) = gcons (gnum 2) (gcons (value_code.code w) (flow_code.code f))
  code_node (Fault p) = gcons (gnum 3) (problem_code.code p)

  code_inside : Inside → Gv
  code_inside (At r i n) = gcons (gnum 0) (gcons (code_round r) (gcons (gnum i) (code_node n)))
  code_inside (Later n m) = gcons (gnum 1) (gcons (gnum n) (gnum m))
  code_inside (Sleep m) = gcons (gnum 2) (gnum m)
  code_inside (Hear bound hs) = gcons (gnum 3) (gcons (members_code.code bound) ((coded_list heard_code).code hs))
  code_inside (Await a q o) = gcons (gnum 5) (gcons ((coded_list coded_ℕ).code a) (gcons (request_code.code q) ((coded_option reply_code).code o)))
  code_inside (Forked ns) = gcons (gnum 4) (code_nodes ns)

  code_nodes : Nodes → Gv
  code_nodes no_nodes = gnil
  code_nodes (branch n ns) = gcons (code_node n) (code_nodes ns)

mutual
  pub code_node_inj : (x y : Node) → code_node x ≡ code_node y → x ≡ y
  code_node_inj (Fresh t v) (Fresh s w) p = λ i. Fresh (task_code.inj t s (ap (λ g. head (tail g)) p) i) (value_code.inj v w (ap (λ g. tail (tail g)) p) i)
  code_node_inj (Live r k) (Live s l) p = λ i. Live (running_code.inj r s (ap (λ g. head (tail g)) p) i) (code_inside_inj k l (ap (λ g. tail (tail g)) p) i)
  code_node_inj (Done v f) (Done w g) p = λ i. Done (value_code.inj v w (ap (λ g. head (tail g)) p) i) (flow_code.inj f g (ap (λ g. tail (tail g)) p) i)
  code_node_inj (Fault p) (Fault q) e = ap Fault (problem_code.inj p q (ap tail e))
  code_node_inj x y p = cc

  pub code_inside_inj : (x y : Inside) → code_inside x ≡ code_inside y → x ≡ y
  code_inside_inj (At r i n) (At q j m) p =
      λ h. At (code_round_inj r q (ap (λ g. head (tail g)) p) h) (ap (λ g. number_in (head (tail (tail g)))) p h) (code_node_inj n m (ap (λ g. tail (tail (tail g))) p) h)
  code_inside_inj (Later n m) (Later k l) p = λ h. Later (ap (λ g. number_in (head (tail g))) p h) (ap (λ g. number_in (tail (tail g))) p h)
  code_inside_inj (Sleep m) (Sleep l) p = ap (λ g. Sleep (number_in (tail g))) p
  code_inside_inj (Hear a hs) (Hear b ks) p = λ h. Hear (members_code.inj a b (ap (λ g. head (tail g)) p) h) ((coded_list heard_code).inj hs ks (ap (λ g. tail (tail g)) p) h)
  code_inside_inj (Await a q o) (Await b r w) p =
      λ h. Await ((coded_list coded_ℕ).inj a b (ap (λ g. head (tail g)) p) h) (request_code.inj q r (ap (λ g. head (tail (tail g))) p) h) ((coded_option reply_code).inj o w (ap (λ g. tail (tail (tail g))) p) h)
  code_inside_inj (Forked ns) (Forked ms) p = λ h. Forked (code_nodes_inj ns ms (ap tail p) h)
  code_inside_inj x y p = cc

  pub code_nodes_inj : (x y : Nodes) → code_nodes x ≡ code_nodes y → x ≡ y
  code_nodes_inj no_nodes no_nodes p = refl
  code_nodes_inj (branch n ns) (branch m ms) p = λ h. branch (code_node_inj n m (ap head p) h) (code_nodes_inj ns ms (ap tail p) h)
  code_nodes_inj x y p = cc

abbrev pub node_code : Coded Node
node_code = record { code = code_node; inj = code_node_inj }

pub instance_code : Coded Instance
instance_code = hlevel (codes, value_code, document_code, node_code)

pub world_code : Coded World
world_code = hlevel (codes, value_code, members_code, document_code, node_code)
