use Rattle.std.proofs.Common.{◌≡◌, ◌∙◌, ◌||◌, ℕ, List, [], Bool, Option, Vec, Global, Result, Ok, Err, length, get_or, false, ap}
use Rattle.std.proofs.lemmas.List.{length-map}
use Rattle.std.specs.Option.{option_map_or}
use Rattle.std.specs.Result.{IfOk}
use Rattle.swf_listeners.specs.Listeners.{numbers_where, who}
use Rattle.swf_listeners.specs.Wanted.{nothing, wants}
use Rattle.swf_listeners.proofs.MarkLemmas.{numbers_same, any_at, read_there}
use Rattle.swf_listeners.proofs.listeners.Listeners.who.Goals as goal

-- a list that was made is this one, too
is_too : {T E : Type 0} (r : Result T E) (read : T → List ℕ) (xs ys : List ℕ) → xs ≡ ys → IfOk r (λ v. read v ≡ xs) → IfOk r (λ v. read v ≡ ys)
is_too (Ok v) read xs ys e h = h ∙ e
is_too (Err x) read xs ys e h = h

pub returns : goal.returns
returns c =
    let t = c.args.event_type.now in
    let all = c.self.inside.wanted.items in
    let flags = option_map_or (λ v. v.now.items) c.get.result [] in
    let agree : (k : ℕ) → (get_or c.deref.result.now k false || get_or flags k false) ≡ wants t (get_or all k nothing) =
    λ k. ap (λ b. b || get_or flags k false) (ap (λ l. get_or l k false) (c.deref.ensures.value ∙ c.self.invariant.any) ∙ any_at all k)
    ∙ ap (λ b. (get_or all k nothing).any || b) (ap (λ l. get_or l k false) (read_there c.get.result ∙ ap (λ (o : Option (Vec Bool Global)). option_map_or (λ v. v.items) o []) c.get.ensures.value) ∙ c.self.invariant.types t k) in
    is_too c.numbers.result (λ v. v.items) (numbers_where (λ k. get_or c.deref.result.now k false || get_or flags k false) (length c.deref.result.now)) (who t c.args.self.now.wanted)
    (numbers_same (λ k. get_or c.deref.result.now k false || get_or flags k false) (λ k. wants t (get_or all k nothing)) agree (length c.deref.result.now)
    ∙ ap (numbers_where (λ k. wants t (get_or all k nothing))) (ap length (c.deref.ensures.value ∙ c.self.invariant.any) ∙ length-map all (λ w. w.any))
    ∙ ap (λ l. who t l.wanted) c.self.view_is)
    c.numbers.ensures
