-- The faults inside a list and inside an object, one part further.
use Rattle.std.proofs.Common.{◌≡◌, ◌∙◌, ◌+◌, ap, sym, ℕ, Bool, List, [], ◌∷◌, ◌++◌, drop, append_assoc}
use Rattle.std.specs.Fmt.{decimal}
use Rattle.swf_value.specs.Node.{items_of, members_of}
use Rattle.swf_value.specs.Value.{Value}
use Rattle.swf_value.specs.declared.value.Member.{Member}
use Rattle.swf_document.specs.declared.fault.Fault.{Fault}
use Rattle.swf_shapes.specs.Faults.{faults_in, item_faults, member_faults}
use Rattle.swf_shapes.specs.Layout.{shape_at}
use Rattle.swf_shapes.specs.declared.layout.Layout.{Layout}
use Rattle.swf_shapes.specs.declared.shape.Shape.{Shape}

pub item_step : (inside : Bool) (s : Shape) (p q : List (List ℕ)) (ds : List Value) (i : ℕ) (d : Value) (a b whole : List Fault) → drop i ds ≡ d ∷ drop (i + 1) ds → q ≡ p ++ decimal i ∷ [] → b ≡ a ++ faults_in inside s q d
    → whole ≡ a ++ item_faults inside s p i (items_of (drop i ds)) → whole ≡ b ++ item_faults inside s p (i + 1) (items_of (drop (i + 1) ds))
item_step inside s p q ds i d a b whole first place told e =
    let rest = item_faults inside s p (i + 1) (items_of (drop (i + 1) ds)) in
    e ∙ ap (λ (l : List Value). a ++ item_faults inside s p i (items_of l)) first ∙ ap (λ (r : List (List ℕ)). a ++ (faults_in inside s r d ++ rest)) (sym place)
    ∙ sym (append_assoc a (faults_in inside s q d) rest) ∙ ap (λ l. l ++ rest) (sym told)

pub member_step : (l : Layout) (p q : List (List ℕ)) (ms : List Member) (i : ℕ) (m : Member) (a b whole : List Fault) → drop i ms ≡ m ∷ drop (i + 1) ms → q ≡ p ++ m.name ∷ [] → b ≡ a ++ faults_in l.inside (shape_at l m.name) q m.value
    → whole ≡ a ++ member_faults l p (members_of (drop i ms)) → whole ≡ b ++ member_faults l p (members_of (drop (i + 1) ms))
member_step l p q ms i m a b whole first place told e =
    let s = shape_at l m.name in
    let rest = member_faults l p (members_of (drop (i + 1) ms)) in
    e ∙ ap (λ (x : List Member). a ++ member_faults l p (members_of x)) first ∙ ap (λ (r : List (List ℕ)). a ++ (faults_in l.inside s r m.value ++ rest)) (sym place)
    ∙ sym (append_assoc a (faults_in l.inside s q m.value) rest) ∙ ap (λ x. x ++ rest) (sym told)
