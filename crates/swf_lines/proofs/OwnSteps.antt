-- A step that a strand takes alone is its step in the instance.
use Rattle.std.proofs.Common.{◌≡◌, ◌∙◌, refl, sym, ap, subst, cond, arith, ℕ, ◌+◌, List, [], ◌∷◌, Bool, true, false, Option, Some, None, Result}
use Rattle.std.proofs.lemmas.Option.{same_Some, option_and_then_some}
use Rattle.std.specs.Prelude.{◌&&◌, option_map, option_and_then}
use Rattle.swf_document.specs.declared.error.Problem.{Problem}
use Rattle.swf_meaning.specs.Complete.{Stepped, step_of}
use Rattle.swf_meaning.specs.Line.{Line, Site}
use Rattle.swf_meaning.specs.Local.{local, rule}
use Rattle.swf_meaning.specs.Node.{Node}
use Rattle.swf_meaning.specs.Put.{put_at}
use Rattle.swf_meaning.specs.Shared.{is_shared_top}
use Rattle.swf_meaning.specs.Top.{Top, top_at, top_is, line_at}
use Rattle.swf_meaning.specs.World.{Instance, line_of, site_of, with_step}
use Rattle.swf_lines.specs.OwnLaws.{Alone, Placed}
use Rattle.swf_lines.specs.Own.{Own, outer_line, is_branch, owned, own_at, context_with, put_own, blind, own_after, has_ended, unless_ended, own_step}
use Rattle.swf_strands.specs.Ways.{at, replaced}
use Rattle.swf_lines.proofs.Blind.{rule_blind, rule_rests, steps_rest, MayYield, Rests}
use Rattle.swf_lines.proofs.Places.{top_same, line_same, put_same, put_used, at_replaced, outer_replaced, replaced_twice, replaced_back}

mapped_some : {A B P : Type 0} (f : A → B) (o : Option A) (y : B) → option_map f o ≡ Some y → ((x : A) → o ≡ Some x → f x ≡ y → P) → P
mapped_some f None y e k = cc
mapped_some f (Some x) y e k = k x refl (same_Some (f x) y e)

not_none : {A : Type 0} (b : Bool) (o : Option A) (x : A) → cond b None o ≡ Some x → (b ≡ false) × (o ≡ Some x)
not_none true o x e = cc
not_none false o x e = (refl, e)

-- what a strand's own step is made of
record Rule (s : Site) (l : Line) (m : Node) (y : Stepped) : Type 0 where
  top : Top
  given : Result Stepped Problem
  stands : top_at [] m ≡ Some top
  alone : is_shared_top top ≡ false
  rules : rule (blind s.now) (line_at l [] m) top ≡ Some given
  makes : put_at l [] m (step_of (line_at l [] m) given) ≡ y

ruled : (s : Site) (l : Line) (m : Node) (y : Stepped) → top_is is_shared_top (top_at [] m) ≡ false → local (blind s.now) l [] m ≡ Some y → Rule s l m y
ruled s l m y free e =
    mapped_some (λ x. put_at l [] m (step_of (line_at l [] m) x)) (option_and_then (rule (blind s.now) (line_at l [] m)) (top_at [] m)) y e (λ given p q.
    option_and_then_some (rule (blind s.now) (line_at l [] m)) (top_at [] m) given p (λ top a b. record {
      top = top;
      given = given;
      stands = a;
      alone = sym (ap (top_is is_shared_top) a) ∙ free;
      rules = b;
      makes = q;
    }))

abbrev pub context_of : List ℕ → Line → Line → Line
context_of [] z l = z
context_of (b ∷ bs) z l = l

-- the step in the instance
record IsStep (s : Site) (l : Line) (bs : List ℕ) (n : Node) (p : Own) : Type 0 where
  step : Stepped
  takes : local s l bs n ≡ Some step
  node : step.node ≡ replaced bs p.node n
  context : step.context ≡ (context_of bs p.line l).context
  used : step.used ≡ 0
  emitted : step.emitted ≡ None

-- by the rule of its top, wherever the strand is
taken : (s : Site) (l : Line) (bs : List ℕ) (n m : Node) (y : Stepped) → at bs n ≡ Some m → (r : Rule s (outer_line l bs n) m y)
    → (local s l bs n ≡ Some (put_at l bs n (step_of (line_at (outer_line l bs n) [] m) r.given))) × Rests (step_of (line_at (outer_line l bs n) [] m) r.given)
taken s l bs n m y e r =
    let z = line_at (outer_line l bs n) [] m in
    let line : line_at l bs n ≡ z = line_same l bs n m e in
    let there : top_at bs n ≡ Some r.top = top_same bs n m e ∙ r.stands in
    let ruled : rule s z r.top ≡ Some r.given = rule_blind s z r.top r.alone ∙ r.rules in (
      ap (λ v. option_map (λ x. put_at l bs n (step_of v x)) (option_and_then (rule s v) (top_at bs n))) line
          ∙ ap (λ o. option_map (λ x. put_at l bs n (step_of z x)) (option_and_then (rule s z) o)) there
          ∙ ap (option_map (λ x. put_at l bs n (step_of z x))) ruled,
      steps_rest z r.given (subst MayYield ruled (rule_rests s z r.top r.alone)),
    )

going : (b : Bool) (o : Own) → (o.branch && has_ended o.node) ≡ b → (p : Own) → cond b None (Some o) ≡ Some p → (o ≡ p) × ((o.branch && has_ended o.node) ≡ false)
going true o e p h = cc
going false o e p h = (same_Some o p h, e)

lone : (s : Site) (l : Line) (n m : Node) (y : Stepped) (p : Own) → at [] n ≡ Some m → Rule s l m y → own_after (owned l [] m) y ≡ p → IsStep s l [] n p
lone s l n m y p e r made =
    let t = taken s l [] n m y e r in
    let z = step_of (line_at l [] m) r.given in
    let same : put_at l [] n z ≡ y = ap (λ x. put_at l [] x z) (same_Some n m e) ∙ r.makes in
    let rest = put_used l n z in record {
      step = put_at l [] n z;
      takes = t.0;
      node = ap (λ (x : Stepped). x.node) same ∙ ap (λ (x : Own). x.node) made;
      context = ap (λ (x : Stepped). x.context) same ∙ ap (λ (x : Own). x.line.context) made;
      used = rest.0 ∙ t.1.0;
      emitted = rest.1 ∙ t.1.1;
    }

branched : (s : Site) (l : Line) (b : ℕ) (bs : List ℕ) (n m : Node) (y : Stepped) (p : Own) → at (b ∷ bs) n ≡ Some m → Rule s (outer_line l (b ∷ bs) n) m y
    → own_after (owned (outer_line l (b ∷ bs) n) (b ∷ bs) m) y ≡ p → has_ended y.node ≡ false → IsStep s l (b ∷ bs) n p
branched s l b bs n m y p e r made goes =
    let t = taken s l (b ∷ bs) n m y e r in
    let o = outer_line l (b ∷ bs) n in
    let z = step_of (line_at o [] m) r.given in
    let on = put_same l b bs n m z e (ap (λ (x : Stepped). has_ended x.node) r.makes ∙ goes) in
    let rest = put_used o m z in record {
      step = put_at l (b ∷ bs) n z;
      takes = t.0;
      node = on.put.node ∙ ap (λ (x : Stepped). replaced (b ∷ bs) x.node n) r.makes ∙ ap (λ (x : Own). replaced (b ∷ bs) x.node n) made;
      context = on.context;
      used = on.put.used ∙ rest.0 ∙ t.1.0;
      emitted = on.put.emitted ∙ rest.1 ∙ t.1.1;
    }

either : (s : Site) (l : Line) (bs : List ℕ) (n m : Node) (y : Stepped) (p : Own) → at bs n ≡ Some m → Rule s (outer_line l bs n) m y
    → own_after (owned (outer_line l bs n) bs m) y ≡ p → (is_branch bs && has_ended y.node) ≡ false → IsStep s l bs n p
either s l [] n m y p e r made goes = lone s l n m y p e r made
either s l (b ∷ bs) n m y p e r made goes = branched s l b bs n m y p e r made goes

core : (s : Site) (l : Line) (bs : List ℕ) (n m : Node) (p : Own) → at bs n ≡ Some m → own_step s.now (owned (outer_line l bs n) bs m) ≡ Some p → IsStep s l bs n p
core s l bs n m p e h =
    let o = owned (outer_line l bs n) bs m in
    let free = not_none (top_is is_shared_top (top_at [] m)) (option_and_then unless_ended (option_map (own_after o) (local (blind s.now) o.line [] m))) p h in
    option_and_then_some unless_ended (option_map (own_after o) (local (blind s.now) o.line [] m)) p free.1 (λ q a c.
    let on = going (q.branch && has_ended q.node) q refl p c in
    mapped_some (own_after o) (local (blind s.now) o.line [] m) q a (λ y d f.
    either s l bs n m y p e (ruled s o.line m y free.0 d) (f ∙ on.0) (ap (λ (x : Own). x.branch && has_ended x.node) f ∙ on.1)))

pub with_context : (bs : List ℕ) (z : Line) (i : Instance) (m : Stepped) (n : Node) → m.node ≡ n → m.context ≡ (context_of bs z (line_of i)).context → m.used ≡ 0 → with_step i m ≡ record (context_with bs z i) { node = n }
with_context [] z i m n a b c =
    let k : i.number + 0 ≡ i.number = omega arith in
    ap (λ x. record i { node = x; context = m.context; number = i.number + m.used }) a ∙ ap (λ x. record i { node = n; context = x; number = i.number + m.used }) b
    ∙ ap (λ x. record i { node = n; context = z.context; number = i.number + x }) c ∙ ap (λ x. record i { node = n; context = z.context; number = x }) k
with_context (y ∷ ys) z i m n a b c =
    let k : i.number + 0 ≡ i.number = omega arith in
    ap (λ x. record i { node = x; context = m.context; number = i.number + m.used }) a ∙ ap (λ x. record i { node = n; context = x; number = i.number + m.used }) b
    ∙ ap (λ x. record i { node = n; number = i.number + x }) c ∙ ap (λ x. record i { node = n; number = x }) k

pub alone : Alone
alone now ds bs i o p e h =
    mapped_some (owned (outer_line (line_of i) bs i.node) bs) (at bs i.node) o e (λ m a b.
    let step = core (site_of now ds i) (line_of i) bs i.node m p a (ap (own_step now) b ∙ h) in (
      step.step,
      step.takes,
      with_context bs p.line i step.step (replaced bs p.node i.node) step.node step.context step.used,
      step.emitted,
    ))

-- ---- what is put stands in its place

put_line : (bs : List ℕ) (o : Own) (i : Instance) → outer_line (line_of (put_own bs o i)) bs (replaced bs o.node i.node) ≡ outer_line (line_of (context_with bs o.line i)) bs i.node
put_line [] o i = refl
put_line (b ∷ bs) o i = outer_replaced (line_of i) (b ∷ bs) i.node o.node

-- a step changes of a line no more than the context, and of a branch's nothing
line_kept : (bs : List ℕ) (i : Instance) (o p : Own) (m : Node) (y : Stepped) → owned (outer_line (line_of i) bs i.node) bs m ≡ o → own_after o y ≡ p → owned (outer_line (line_of (context_with bs p.line i)) bs i.node) bs p.node ≡ p
line_kept [] i o p m y e h =
    let made : own_after (owned (line_of i) [] m) y ≡ p = ap (λ x. own_after x y) e ∙ h in
    subst (λ (x : Own). owned (line_of (context_with [] x.line i)) [] x.node ≡ x) made refl
line_kept (b ∷ bs) i o p m y e h =
    let made : own_after (owned (outer_line (line_of i) (b ∷ bs) i.node) (b ∷ bs) m) y ≡ p = ap (λ x. own_after x y) e ∙ h in
    subst (λ (x : Own). owned (outer_line (line_of (context_with (b ∷ bs) x.line i)) (b ∷ bs) i.node) (b ∷ bs) x.node ≡ x) made refl

put_stands : (now : ℕ) (bs : List ℕ) (i : Instance) (o p : Own) → own_at bs i ≡ Some o → own_step now o ≡ Some p → own_at bs (put_own bs p i) ≡ Some p
put_stands now bs i o p e h =
    mapped_some (owned (outer_line (line_of i) bs i.node) bs) (at bs i.node) o e (λ m a b.
    let free = not_none (top_is is_shared_top (top_at [] o.node)) (option_and_then unless_ended (option_map (own_after o) (local (blind now) o.line [] o.node))) p h in
    option_and_then_some unless_ended (option_map (own_after o) (local (blind now) o.line [] o.node)) p free.1 (λ q c d.
    let on = going (q.branch && has_ended q.node) q refl p d in
    mapped_some (own_after o) (local (blind now) o.line [] o.node) q c (λ y f g.
    ap (option_map (owned (outer_line (line_of (put_own bs p i)) bs (replaced bs p.node i.node)) bs)) (at_replaced bs i.node m p.node a)
    ∙ ap (λ l. Some (owned l bs p.node)) (put_line bs p i)
    ∙ ap Some (line_kept bs i o p m y b (g ∙ on.0)))))

put_two : (bs : List ℕ) (i : Instance) (o p : Own) → put_own bs p (put_own bs o i) ≡ put_own bs p i
put_two [] i o p = refl
put_two (b ∷ bs) i o p = ap (λ n. record i { node = n }) (replaced_twice (b ∷ bs) i.node o.node p.node)

put_same_back : (bs : List ℕ) (i : Instance) (o : Own) → own_at bs i ≡ Some o → put_own bs o i ≡ i
put_same_back [] i o e =
    let is : owned (line_of i) [] i.node ≡ o = same_Some (owned (line_of i) [] i.node) o e in
    sym (ap (λ x. put_own [] x i) is)
put_same_back (b ∷ bs) i o e =
    mapped_some (owned (outer_line (line_of i) (b ∷ bs) i.node) (b ∷ bs)) (at (b ∷ bs) i.node) o e (λ m a c.
    sym (ap (λ (x : Own). record i { node = replaced (b ∷ bs) x.node i.node }) c) ∙ ap (λ n. record i { node = n }) (replaced_back (b ∷ bs) i.node m a))

pub placed : Placed
placed = record {
  put_own_at = put_stands;
  put_twice = put_two;
  put_back = put_same_back;
}
