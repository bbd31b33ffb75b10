use Rattle.std.proofs.Common.{◌≡◌, ◌∙◌, ◌++◌, ◌∷◌, [], ◌<◌, length, get_or, subst, sym, ap, true, false, arith, length-set}
use Rattle.std.proofs.lemmas.List.{get_or_default}
use Rattle.std.specs.VecDeque.{deque_capacity}
use Rattle.swf_queue.specs.Queue.{put}
use Rattle.swf_queue.proofs.FlagLemmas.{fits_more, flagged_put, put_new, put_there}
use Rattle.swf_queue.proofs.queue.Queue.put.Goals as goal

pub unwrap-requires : goal.unwrap-requires
unwrap-requires c =
    let fs = c.self.inside.queued.items in
    let known : c.args.number < length fs = omega (arith, c.requires, ap (λ l. l.count) c.self.view_is) in
    let clear : get_or fs c.args.number false ≡ false = sym (subst (λ b. b ≡ get_or fs c.args.number b) c.if-not-index.true c.index.ensures) in
    c.push_back.ensures.succeeds (omega (arith, fits_more c.self.inside.numbers.items fs _ c.args.number c.self.invariant known clear, c.self.invariant.enough, c.self.inside.numbers.ok))

pub invariant_of-self : goal.invariant_of-self
invariant_of-self c =
    let fs = c.self.inside.queued.items in
    let known : c.args.number < length fs = omega (arith, c.requires, ap (λ l. l.count) c.self.view_is) in
    let clear : get_or fs c.args.number false ≡ false = sym (subst (λ b. b ≡ get_or fs c.args.number b) c.if-not-index.true c.index.ensures) in
    let queue : c.push_back.new.self.items ≡ c.self.inside.numbers.items ++ c.args.number ∷ [] = rw c.unwrap.ensures at c.push_back.ensures.items in
    let places : deque_capacity c.push_back.new.self ≡ deque_capacity c.self.inside.numbers = c.push_back.ensures.in_place
    (omega (arith, fits_more c.self.inside.numbers.items fs _ c.args.number c.self.invariant known clear, c.self.invariant.enough, c.self.inside.numbers.ok)) in
    rw (queue, places) (flagged_put c.self.inside.numbers.items fs _ c.args.number c.self.invariant known clear)

pub returns-then-not-index-clause-numbers : goal.returns-then-not-index-clause-numbers
returns-then-not-index-clause-numbers c =
    let fs = c.self.inside.queued.items in
    let clear : get_or fs c.args.number false ≡ false = sym (subst (λ b. b ≡ get_or fs c.args.number b) c.if-not-index.true c.index.ensures) in
    let queue : c.push_back.new.self.items ≡ c.self.inside.numbers.items ++ c.args.number ∷ [] = rw c.unwrap.ensures at c.push_back.ensures.items in
    queue ∙ put_new c.args.number c.self.inside.numbers.items (c.self.invariant.there c.args.number ∙ clear) ∙ ap (λ l. put c.args.number l.numbers) c.self.view_is

pub returns-else-not-index-clause-numbers : goal.returns-else-not-index-clause-numbers
returns-else-not-index-clause-numbers c =
    let fs = c.self.inside.queued.items in
    let known : c.args.number < length fs = omega (arith, c.requires, ap (λ l. l.count) c.self.view_is) in
    let set : get_or fs c.args.number true ≡ true = sym (subst (λ b. b ≡ get_or fs c.args.number b) c.if-not-index.false c.index.ensures) in
    subst (λ l. l.numbers ≡ put c.args.number l.numbers) c.self.view_is
    (put_there c.args.number c.self.inside.numbers.items (c.self.invariant.there c.args.number ∙ get_or_default fs c.args.number false true known ∙ set))

pub returns-then-not-index-clause-room : goal.returns-then-not-index-clause-room
returns-then-not-index-clause-room c =
    let fs = c.self.inside.queued.items in
    let known : c.args.number < length fs = omega (arith, c.requires, ap (λ l. l.count) c.self.view_is) in
    let clear : get_or fs c.args.number false ≡ false = sym (subst (λ b. b ≡ get_or fs c.args.number b) c.if-not-index.true c.index.ensures) in
    let places : deque_capacity c.push_back.new.self ≡ deque_capacity c.self.inside.numbers = c.push_back.ensures.in_place
    (omega (arith, fits_more c.self.inside.numbers.items fs _ c.args.number c.self.invariant known clear, c.self.invariant.enough, c.self.inside.numbers.ok)) in
    rw (places, length-set fs c.args.number true) (ap (λ l. l.room) c.self.view_is)
