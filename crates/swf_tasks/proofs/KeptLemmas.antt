-- What a context that changed does to the tasks around, and to the instance.
use Rattle.std.proofs.Common.{◌≡◌, ◌∙◌, refl, sym, ap, Bool, true, false, List, [], ◌∷◌, ◌++◌, Option, Some, None}
use Rattle.std.specs.Prelude.{option_map, if◌then◌else◌}
use Rattle.swf_value.specs.Value.{Value}
use Rattle.swf_catalog.specs.Rounds.{is_sub, keeping_in, round_of}
use Rattle.swf_meaning.specs.Around.{seen}
use Rattle.swf_meaning.specs.Complete.{Stepped}
use Rattle.swf_meaning.specs.Line.{Line}
use Rattle.swf_meaning.specs.Node.{Node, Live, At}
use Rattle.swf_meaning.specs.Put.{keeping, put_back}
use Rattle.swf_stack.proofs.RoundLemmas.{around_none, around_same, around_sub, keeping_none, keeping_of, keeping_same}
use Rattle.swf_stack.specs.Kept.{context_kept, keeping_frame, kept, kept_by, kept_or, unless_kept}
use Rattle.swf_stack.specs.Stack.{context_or, plug, seen_in}
use Rattle.swf_stack.specs.Stands.{inward}
use Rattle.swf_stack.specs.declared.made.Frame.{Frame}
use Rattle.swf_tasks.specs.Installed.{put_in}

pub plug-append : (fs gs : List Frame) (n : Node) → plug (fs ++ gs) n ≡ plug fs (plug gs n)
plug-append [] gs n = refl
plug-append (f ∷ fs) gs n = ap (λ m. plug (f ∷ []) m) (plug-append fs gs n)

put_in-append : (l : Line) (fs gs : List Frame) (m : Stepped) → put_in l (fs ++ gs) m ≡ put_in l fs (put_in (seen_in l fs) gs m)
put_in-append l [] gs m = refl
put_in-append l (f ∷ fs) gs m = ap (put_back l f.running (round_of f.round) f.place) (put_in-append (seen l f.running.task (round_of f.round)) fs gs m)

-- a step that leaves the context as it was
pub put_in-same : (l : Line) (fs : List Frame) (m : Stepped) → m.context ≡ (seen_in l fs).context → put_in l fs m ≡ record m { node = plug fs m.node; context = l.context }
put_in-same l [] m e = λ i. record m { context = e i }
put_in-same l (f ∷ fs) m e =
    ap (put_back l f.running (round_of f.round) f.place) (put_in-same (seen l f.running.task (round_of f.round)) fs m e)
    ∙ (λ i. record m { node = Live f.running (At (keeping_same l f.running.task f.round i) f.place (plug fs m.node)); context = around_same l f.running.task f.round i })

-- what a step that leaves another one makes, with these tasks around it
abbrev answer : Line → Stepped → Value → List Frame → Option (List Frame) → Stepped
answer l m c fs o = record m { node = plug (inward (kept_or fs o)) m.node; context = context_or l.context (unless_kept c o) }

-- with one task more, where it is so of those around that
kept-step : (l : Line) (f : Frame) (fs : List Frame) (m : Stepped) (c : Value) → m.context ≡ c →
    ((x : Stepped) → x.context ≡ c → put_in l (inward fs) x ≡ answer l x c fs (kept_by fs c)) → put_in l (inward (f ∷ fs)) m ≡ answer l m c (f ∷ fs) (kept_by (f ∷ fs) c)
kept-step l f fs m c e others = put_in-append l (inward fs) (f ∷ []) m ∙ by (is_sub f.round) refl
  where
    z : Line
    z = seen_in l (inward fs)

    x : Stepped
    x = put_back z f.running (round_of f.round) f.place m

    -- the innermost task is no sub-workflow
    inner : is_sub f.round ≡ false → (gs : List Frame) → plug (inward gs) x.node ≡ plug (inward (f ∷ gs)) m.node
    inner s gs =
        ap (plug (inward gs)) (λ i. Live f.running (At (keeping_none f.round m.context s i) f.place m.node)) ∙ sym (plug-append (inward gs) (f ∷ []) m.node)

    further : is_sub f.round ≡ false → (o : Option (List Frame)) → record m { node = plug (inward (kept_or fs o)) x.node; context = context_or l.context (unless_kept c o) } ≡ answer l m c (f ∷ fs) (option_map (λ gs. f ∷ gs) o)
    further s None = λ i. record m { node = inner s fs i; context = c }
    further s (Some gs) = λ i. record m { node = inner s gs i; context = l.context }

    by : (b : Bool) → is_sub f.round ≡ b → put_in l (inward fs) x ≡ answer l m c (f ∷ fs) (if is_sub f.round then Some (keeping_frame f c ∷ fs) else option_map (λ gs. f ∷ gs) (kept_by fs c))
    by true s =
        put_in-same l (inward fs) x (around_sub z f.round m.context s)
        ∙ (λ i. record m { node = plug (inward fs) (Live f.running (At ((ap (keeping (round_of f.round)) e ∙ sym (keeping_of f.round c)) i) f.place m.node)); context = l.context })
        ∙ (λ i. record m { node = sym (plug-append (inward fs) (keeping_frame f c ∷ []) m.node) i; context = l.context })
        ∙ ap (λ b. answer l m c (f ∷ fs) (if b then Some (keeping_frame f c ∷ fs) else option_map (λ gs. f ∷ gs) (kept_by fs c))) (sym s)
    by false s =
        others x (around_none z f.round m.context s ∙ e)
        ∙ further s (kept_by fs c)
        ∙ ap (λ b. answer l m c (f ∷ fs) (if b then Some (keeping_frame f c ∷ fs) else option_map (λ gs. f ∷ gs) (kept_by fs c))) (sym s)

-- a step that leaves another one
put_in-kept : (l : Line) (fs : List Frame) (m : Stepped) (c : Value) → m.context ≡ c → put_in l (inward fs) m ≡ answer l m c fs (kept_by fs c)
put_in-kept l [] m c e = λ i. record m { context = e i }
put_in-kept l (f ∷ fs) m c e = kept-step l f fs m c e (λ x h. put_in-kept l fs x c h)

-- a step that may change it
pub put_in-made : (l : Line) (fs : List Frame) (m : Stepped) (o : Option Value) → m.context ≡ context_or (seen_in l (inward fs)).context o →
    put_in l (inward fs) m ≡ record m { node = plug (inward (kept fs o)) m.node; context = context_or l.context (context_kept fs o) }
put_in-made l fs m None e = put_in-same l (inward fs) m e
put_in-made l fs m (Some c) e = put_in-kept l fs m c e
