-- What stands on a strand: its top, what it goes by, and what becomes of the node where another is put there.
use Rattle.std.proofs.Common.{◌≡◌, ◌∙◌, refl, sym, ap, ℕ, zero, suc, List, [], ◌∷◌, Bool, false, Some, Ok}
use Rattle.std.proofs.lemmas.Option.{same_Some}
use Rattle.swf_document.specs.Task.{Task}
use Rattle.swf_meaning.specs.Around.{seen}
use Rattle.swf_meaning.specs.Complete.{Stepped, becomes, step_of}
use Rattle.swf_meaning.specs.Fork.{put, settled, after_branch, competes}
use Rattle.swf_meaning.specs.Line.{Line}
use Rattle.swf_meaning.specs.Node.{Node, Fresh, Live, Done, Fault, Inside, At, Later, Sleep, Hear, Await, Forked, Nodes, no_nodes, branch, Round, Seq, Each, Try, Catch, Fun, Sub, Running}
use Rattle.swf_meaning.specs.Put.{keeping, context_around, put_back, put_at, put_inside, put_branch}
use Rattle.swf_meaning.specs.Top.{top_at, top_inside, top_branch, line_at, line_inside, line_branch}
use Rattle.swf_lines.specs.Own.{outer_line, outer_inside, outer_among, has_ended}
use Rattle.swf_strands.specs.Ways.{at, at_inside, at_among, replaced, replaced_inside, replaced_among}

-- ---- the top of the strand is that of what stands on it

mutual
  pub top_same : (bs : List ℕ) (n m : Node) → at bs n ≡ Some m → top_at bs n ≡ top_at [] m
  top_same [] n m e = ap (top_at []) (same_Some n m e)
  top_same (b ∷ bs) (Fresh t v) m e = cc
  top_same (b ∷ bs) (Live r k) m e = top_inside_same b bs r k m e
  top_same (b ∷ bs) (Done w f) m e = cc
  top_same (b ∷ bs) (Fault p) m e = cc

  top_inside_same : (b : ℕ) (bs : List ℕ) (r : Running) (k : Inside) (m : Node) → at_inside b bs k ≡ Some m → top_inside (b ∷ bs) r k ≡ top_at [] m
  top_inside_same b bs r (At round i (Fresh t v)) m e = cc
  top_inside_same b bs r (At round i (Live q k)) m e = top_inside_same b bs q k m e
  top_inside_same b bs r (At round i (Done w f)) m e = cc
  top_inside_same b bs r (At round i (Fault p)) m e = cc
  top_inside_same b bs r (Later n u) m e = cc
  top_inside_same b bs r (Sleep u) m e = cc
  top_inside_same b bs r (Hear bound hs) m e = cc
  top_inside_same b bs r (Await a q o) m e = cc
  top_inside_same b bs r (Forked ns) m e = top_among_same b bs ns m e

  top_among_same : (b : ℕ) (bs : List ℕ) (ns : Nodes) (m : Node) → at_among b bs ns ≡ Some m → top_branch b bs ns ≡ top_at [] m
  top_among_same b bs no_nodes m e = cc
  top_among_same zero bs (branch n ns) m e = top_same bs n m e
  top_among_same (suc b) bs (branch n ns) m e = top_among_same b bs ns m e

-- ---- and so is what the top goes by

mutual
  pub line_same : (l : Line) (bs : List ℕ) (n m : Node) → at bs n ≡ Some m → line_at l bs n ≡ line_at (outer_line l bs n) [] m
  line_same l [] n m e = ap (line_at l []) (same_Some n m e)
  line_same l (b ∷ bs) (Fresh t v) m e = cc
  line_same l (b ∷ bs) (Live r k) m e = line_inside_same l b bs r k m e
  line_same l (b ∷ bs) (Done w f) m e = cc
  line_same l (b ∷ bs) (Fault p) m e = cc

  line_inside_same : (l : Line) (b : ℕ) (bs : List ℕ) (r : Running) (k : Inside) (m : Node) → at_inside b bs k ≡ Some m → line_inside l (b ∷ bs) r k ≡ line_at (outer_inside l b bs r k) [] m
  line_inside_same l b bs r (At round i (Fresh t v)) m e = cc
  line_inside_same l b bs r (At round i (Live q k)) m e = line_inside_same (seen l r.task round) b bs q k m e
  line_inside_same l b bs r (At round i (Done w f)) m e = cc
  line_inside_same l b bs r (At round i (Fault p)) m e = cc
  line_inside_same l b bs r (Later n u) m e = cc
  line_inside_same l b bs r (Sleep u) m e = cc
  line_inside_same l b bs r (Hear bound hs) m e = cc
  line_inside_same l b bs r (Await a q o) m e = cc
  line_inside_same l b bs r (Forked ns) m e = line_among_same l b bs ns m e

  line_among_same : (l : Line) (b : ℕ) (bs : List ℕ) (ns : Nodes) (m : Node) → at_among b bs ns ≡ Some m → line_branch l b bs ns ≡ line_at (outer_among l b bs ns) [] m
  line_among_same l b bs no_nodes m e = cc
  line_among_same l zero bs (branch n ns) m e = line_same l bs n m e
  line_among_same l (suc b) bs (branch n ns) m e = line_among_same l b bs ns m e

-- ---- another in its place

mutual
  pub at_replaced : (bs : List ℕ) (n m x : Node) → at bs n ≡ Some m → at bs (replaced bs x n) ≡ Some x
  at_replaced [] n m x e = refl
  at_replaced (b ∷ bs) (Fresh t v) m x e = cc
  at_replaced (b ∷ bs) (Live r k) m x e = at_inside_replaced b bs k m x e
  at_replaced (b ∷ bs) (Done w f) m x e = cc
  at_replaced (b ∷ bs) (Fault p) m x e = cc

  at_inside_replaced : (b : ℕ) (bs : List ℕ) (k : Inside) (m x : Node) → at_inside b bs k ≡ Some m → at_inside b bs (replaced_inside b bs x k) ≡ Some x
  at_inside_replaced b bs (At round i n) m x e = at_replaced (b ∷ bs) n m x e
  at_inside_replaced b bs (Later n u) m x e = cc
  at_inside_replaced b bs (Sleep u) m x e = cc
  at_inside_replaced b bs (Hear bound hs) m x e = cc
  at_inside_replaced b bs (Await a q o) m x e = cc
  at_inside_replaced b bs (Forked ns) m x e = at_among_replaced b bs ns m x e

  at_among_replaced : (b : ℕ) (bs : List ℕ) (ns : Nodes) (m x : Node) → at_among b bs ns ≡ Some m → at_among b bs (replaced_among b bs x ns) ≡ Some x
  at_among_replaced b bs no_nodes m x e = cc
  at_among_replaced zero bs (branch n ns) m x e = at_replaced bs n m x e
  at_among_replaced (suc b) bs (branch n ns) m x e = at_among_replaced b bs ns m x e

mutual
  pub outer_replaced : (l : Line) (bs : List ℕ) (n x : Node) → outer_line l bs (replaced bs x n) ≡ outer_line l bs n
  outer_replaced l [] n x = refl
  outer_replaced l (b ∷ bs) (Fresh t v) x = refl
  outer_replaced l (b ∷ bs) (Live r k) x = outer_inside_replaced l b bs r k x
  outer_replaced l (b ∷ bs) (Done w f) x = refl
  outer_replaced l (b ∷ bs) (Fault p) x = refl

  outer_inside_replaced : (l : Line) (b : ℕ) (bs : List ℕ) (r : Running) (k : Inside) (x : Node) → outer_inside l b bs r (replaced_inside b bs x k) ≡ outer_inside l b bs r k
  outer_inside_replaced l b bs r (At round i n) x = outer_replaced (seen l r.task round) (b ∷ bs) n x
  outer_inside_replaced l b bs r (Later n u) x = refl
  outer_inside_replaced l b bs r (Sleep u) x = refl
  outer_inside_replaced l b bs r (Hear bound hs) x = refl
  outer_inside_replaced l b bs r (Await a q o) x = refl
  outer_inside_replaced l b bs r (Forked ns) x = outer_among_replaced l b bs ns x

  outer_among_replaced : (l : Line) (b : ℕ) (bs : List ℕ) (ns : Nodes) (x : Node) → outer_among l b bs (replaced_among b bs x ns) ≡ outer_among l b bs ns
  outer_among_replaced l b bs no_nodes x = refl
  outer_among_replaced l zero bs (branch n ns) x = outer_replaced l bs n x
  outer_among_replaced l (suc b) bs (branch n ns) x = outer_among_replaced l b bs ns x

mutual
  pub replaced_twice : (bs : List ℕ) (n x y : Node) → replaced bs y (replaced bs x n) ≡ replaced bs y n
  replaced_twice [] n x y = refl
  replaced_twice (b ∷ bs) (Fresh t v) x y = refl
  replaced_twice (b ∷ bs) (Live r k) x y = ap (Live r) (replaced_inside_twice b bs k x y)
  replaced_twice (b ∷ bs) (Done w f) x y = refl
  replaced_twice (b ∷ bs) (Fault p) x y = refl

  replaced_inside_twice : (b : ℕ) (bs : List ℕ) (k : Inside) (x y : Node) → replaced_inside b bs y (replaced_inside b bs x k) ≡ replaced_inside b bs y k
  replaced_inside_twice b bs (At round i n) x y = ap (At round i) (replaced_twice (b ∷ bs) n x y)
  replaced_inside_twice b bs (Later n u) x y = refl
  replaced_inside_twice b bs (Sleep u) x y = refl
  replaced_inside_twice b bs (Hear bound hs) x y = refl
  replaced_inside_twice b bs (Await a q o) x y = refl
  replaced_inside_twice b bs (Forked ns) x y = ap Forked (replaced_among_twice b bs ns x y)

  replaced_among_twice : (b : ℕ) (bs : List ℕ) (ns : Nodes) (x y : Node) → replaced_among b bs y (replaced_among b bs x ns) ≡ replaced_among b bs y ns
  replaced_among_twice b bs no_nodes x y = refl
  replaced_among_twice zero bs (branch n ns) x y = ap (λ (z : Node). branch z ns) (replaced_twice bs n x y)
  replaced_among_twice (suc b) bs (branch n ns) x y = ap (branch n) (replaced_among_twice b bs ns x y)

mutual
  pub replaced_back : (bs : List ℕ) (n m : Node) → at bs n ≡ Some m → replaced bs m n ≡ n
  replaced_back [] n m e = sym (same_Some n m e)
  replaced_back (b ∷ bs) (Fresh t v) m e = refl
  replaced_back (b ∷ bs) (Live r k) m e = ap (Live r) (replaced_inside_back b bs k m e)
  replaced_back (b ∷ bs) (Done w f) m e = refl
  replaced_back (b ∷ bs) (Fault p) m e = refl

  replaced_inside_back : (b : ℕ) (bs : List ℕ) (k : Inside) (m : Node) → at_inside b bs k ≡ Some m → replaced_inside b bs m k ≡ k
  replaced_inside_back b bs (At round i n) m e = ap (At round i) (replaced_back (b ∷ bs) n m e)
  replaced_inside_back b bs (Later n u) m e = refl
  replaced_inside_back b bs (Sleep u) m e = refl
  replaced_inside_back b bs (Hear bound hs) m e = refl
  replaced_inside_back b bs (Await a q o) m e = refl
  replaced_inside_back b bs (Forked ns) m e = ap Forked (replaced_among_back b bs ns m e)

  replaced_among_back : (b : ℕ) (bs : List ℕ) (ns : Nodes) (m : Node) → at_among b bs ns ≡ Some m → replaced_among b bs m ns ≡ ns
  replaced_among_back b bs no_nodes m e = refl
  replaced_among_back zero bs (branch n ns) m e = ap (λ (z : Node). branch z ns) (replaced_back bs n m e)
  replaced_among_back (suc b) bs (branch n ns) m e = ap (branch n) (replaced_among_back b bs ns m e)

-- ---- the step of what stands there, put back

-- what a step of a branch comes to that goes on: the node with another in place of what stood there
pub record IsPut (y x : Stepped) (n : Node) : Type 0 where
  pub node : y.node ≡ n
  pub going : has_ended n ≡ false
  pub used : y.used ≡ x.used
  pub emitted : y.emitted ≡ x.emitted

keeps_round : (l : Line) (t : Task) (round : Round) → keeping round (seen l t round).context ≡ round
keeps_round l t Seq = refl
keeps_round l t (Each items j) = refl
keeps_round l t (Try n) = refl
keeps_round l t (Catch p) = refl
keeps_round l t Fun = refl
keeps_round l t (Sub d v c) = refl

keeps_context : (l : Line) (t : Task) (round : Round) → context_around l round (seen l t round).context ≡ l.context
keeps_context l t Seq = refl
keeps_context l t (Each items j) = refl
keeps_context l t (Try n) = refl
keeps_context l t (Catch p) = refl
keeps_context l t Fun = refl
keeps_context l t (Sub d v c) = refl

-- a `fork` goes on whose branch does
settles : (l : Line) (r : Running) (compete : Bool) (ns : Nodes) (n : Node) → has_ended n ≡ false → settled l r compete ns n ≡ Ok (becomes l (Live r (Forked ns)))
settles l r compete ns (Fresh t v) e = refl
settles l r compete ns (Live q k) e = refl
settles l r compete ns (Done w f) e = cc
settles l r compete ns (Fault p) e = cc

-- a branch
pub record IsBranchPut (l : Line) (y x : Stepped) (n : Node) : Type 0 where
  pub put : IsPut y x n
  pub context : y.context ≡ l.context

in_round : (l : Line) (r : Running) (round : Round) (i : ℕ) (y x : Stepped) (n : Node) → IsBranchPut (seen l r.task round) y x n → IsBranchPut l (put_back l r round i y) x (Live r (At round i n))
in_round l r round i y x n h = record {
  put = record {
    node = ap (λ c. Live r (At (keeping round c) i y.node)) h.context ∙ ap (λ q. Live r (At q i y.node)) (keeps_round l r.task round) ∙ ap (λ z. Live r (At round i z)) h.put.node;
    going = refl;
    used = h.put.used;
    emitted = h.put.emitted;
  };
  context = ap (context_around l round) h.context ∙ keeps_context l r.task round;
}

in_fork : (l : Line) (r : Running) (ns ms : Nodes) (b : ℕ) (y x : Stepped) → put ns b y.node ≡ ms → has_ended y.node ≡ false → y.used ≡ x.used → y.emitted ≡ x.emitted → IsBranchPut l (after_branch l r ns b y) x (Live r (Forked ms))
in_fork l r ns ms b y x e going used emitted =
    let goes = settles l r (competes r.task) (put ns b y.node) y.node going in record {
      put = record {
        node = ap (λ o. (step_of l o).node) goes ∙ ap (λ z. Live r (Forked z)) e;
        going = refl;
        used = used;
        emitted = emitted;
      };
      context = ap (λ o. (step_of l o).context) goes;
    }

-- what becomes of the branches
pub record ArePut (ns : Nodes) (b : ℕ) (y x : Stepped) (ms : Nodes) : Type 0 where
  pub nodes : put ns b y.node ≡ ms
  pub going : has_ended y.node ≡ false
  pub used : y.used ≡ x.used
  pub emitted : y.emitted ≡ x.emitted

mutual
  pub put_same : (l : Line) (b : ℕ) (bs : List ℕ) (n m : Node) (x : Stepped) → at (b ∷ bs) n ≡ Some m → has_ended (put_at (outer_line l (b ∷ bs) n) [] m x).node ≡ false
      → IsBranchPut l (put_at l (b ∷ bs) n x) (put_at (outer_line l (b ∷ bs) n) [] m x) (replaced (b ∷ bs) (put_at (outer_line l (b ∷ bs) n) [] m x).node n)
  put_same l b bs (Fresh t v) m x e h = cc
  put_same l b bs (Live r k) m x e h = put_inside_same l b bs r k m x e h
  put_same l b bs (Done w f) m x e h = cc
  put_same l b bs (Fault p) m x e h = cc

  put_inside_same : (l : Line) (b : ℕ) (bs : List ℕ) (r : Running) (k : Inside) (m : Node) (x : Stepped) → at_inside b bs k ≡ Some m → has_ended (put_at (outer_inside l b bs r k) [] m x).node ≡ false
      → IsBranchPut l (put_inside l (b ∷ bs) r k x) (put_at (outer_inside l b bs r k) [] m x) (Live r (replaced_inside b bs (put_at (outer_inside l b bs r k) [] m x).node k))
  put_inside_same l b bs r (At round i (Fresh t v)) m x e h = cc
  put_inside_same l b bs r (At round i (Live q k)) m x e h =
      in_round l r round i (put_inside (seen l r.task round) (b ∷ bs) q k x) (put_at (outer_inside (seen l r.task round) b bs q k) [] m x) (Live q (replaced_inside b bs (put_at (outer_inside (seen l r.task round) b bs q k) [] m x).node k))
      (put_inside_same (seen l r.task round) b bs q k m x e h)
  put_inside_same l b bs r (At round i (Done w f)) m x e h = cc
  put_inside_same l b bs r (At round i (Fault p)) m x e h = cc
  put_inside_same l b bs r (Later n u) m x e h = cc
  put_inside_same l b bs r (Sleep u) m x e h = cc
  put_inside_same l b bs r (Hear bound hs) m x e h = cc
  put_inside_same l b bs r (Await a q o) m x e h = cc
  put_inside_same l b bs r (Forked ns) m x e h =
      let p = put_among_same l b bs ns m x e h in
      in_fork l r ns (replaced_among b bs (put_at (outer_among l b bs ns) [] m x).node ns) b (put_branch l b bs ns x) (put_at (outer_among l b bs ns) [] m x) p.nodes p.going p.used p.emitted

  put_among_same : (l : Line) (b : ℕ) (bs : List ℕ) (ns : Nodes) (m : Node) (x : Stepped) → at_among b bs ns ≡ Some m → has_ended (put_at (outer_among l b bs ns) [] m x).node ≡ false
      → ArePut ns b (put_branch l b bs ns x) (put_at (outer_among l b bs ns) [] m x) (replaced_among b bs (put_at (outer_among l b bs ns) [] m x).node ns)
  put_among_same l b bs no_nodes m x e h = cc
  put_among_same l zero [] (branch n ns) m x e h =
      let same : put_at l [] n x ≡ put_at l [] m x = ap (λ z. put_at l [] z x) (same_Some n m e) in record {
        nodes = ap (λ (z : Stepped). branch z.node ns) same;
        going = ap (λ (z : Stepped). has_ended z.node) same ∙ h;
        used = ap (λ (z : Stepped). z.used) same;
        emitted = ap (λ (z : Stepped). z.emitted) same;
      }
  put_among_same l zero (c ∷ cs) (branch n ns) m x e h =
      let p = (put_same l c cs n m x e h).put in record {
        nodes = ap (λ (z : Node). branch z ns) p.node;
        going = ap has_ended p.node ∙ p.going;
        used = p.used;
        emitted = p.emitted;
      }
  put_among_same l (suc b) bs (branch n ns) m x e h =
      let p = put_among_same l b bs ns m x e h in record {
        nodes = ap (branch n) p.nodes;
        going = p.going;
        used = p.used;
        emitted = p.emitted;
      }

-- a step that uses no number and sends nothing does so wherever it is put, on the strand itself
mutual
  pub put_used : (l : Line) (n : Node) (x : Stepped) → ((put_at l [] n x).used ≡ x.used) × ((put_at l [] n x).emitted ≡ x.emitted)
  put_used l (Fresh t v) x = (refl, refl)
  put_used l (Live r k) x = put_inside_used l r k x
  put_used l (Done w f) x = (refl, refl)
  put_used l (Fault p) x = (refl, refl)

  put_inside_used : (l : Line) (r : Running) (k : Inside) (x : Stepped) → ((put_inside l [] r k x).used ≡ x.used) × ((put_inside l [] r k x).emitted ≡ x.emitted)
  put_inside_used l r (At round i (Fresh t v)) x = (refl, refl)
  put_inside_used l r (At round i (Live q k)) x = put_inside_used (seen l r.task round) q k x
  put_inside_used l r (At round i (Done w f)) x = (refl, refl)
  put_inside_used l r (At round i (Fault p)) x = (refl, refl)
  put_inside_used l r (Later n u) x = (refl, refl)
  put_inside_used l r (Sleep u) x = (refl, refl)
  put_inside_used l r (Hear bound hs) x = (refl, refl)
  put_inside_used l r (Await a q o) x = (refl, refl)
  put_inside_used l r (Forked ns) x = (refl, refl)
