use Rattle.std.proofs.Common.{◌≡◌, ◌++◌, ◌∷◌, [], length, ap, true, arith, length-append}
use Rattle.std.specs.VecDeque.{deque_capacity}
use Rattle.swf_queue.proofs.FlagLemmas.{fits, flagged_added}
use Rattle.swf_queue.proofs.queue.Queue.add.Goals as goal

pub unwrap-requires : goal.unwrap-requires
unwrap-requires c =
    c.push_back.ensures.succeeds
    (omega (arith, c.requires, ap (λ l. l.room) c.self.view_is, fits c.self.inside.numbers.items c.self.inside.queued.items _ c.self.invariant, c.self.inside.numbers.ok))

pub invariant_of-self : goal.invariant_of-self
invariant_of-self c =
    let queue : c.push_back.new.self.items ≡ c.self.inside.numbers.items ++ c.len.result ∷ [] = rw c.unwrap.ensures at c.push_back.ensures.items in
    let len : c.len.result ≡ length c.self.inside.queued.items = omega (arith, c.len.ensures, c.self.inside.queued.ok) in
    let flags : c.push.new.self.items ≡ c.self.inside.queued.items ++ true ∷ [] = rw c.unwrap-2.ensures at c.push.ensures.items in
    let places : deque_capacity c.push_back.new.self ≡ deque_capacity c.self.inside.numbers = c.push_back.ensures.in_place
    (omega (arith, c.requires, ap (λ l. l.room) c.self.view_is, fits c.self.inside.numbers.items c.self.inside.queued.items _ c.self.invariant, c.self.inside.numbers.ok)) in
    rw (queue, len, flags, places) (flagged_added c.self.inside.numbers.items c.self.inside.queued.items _ c.self.invariant (omega (arith, c.requires, ap (λ l. l.room) c.self.view_is)))

pub returns-clause-room : goal.returns-clause-room
returns-clause-room c =
    let flags : c.push.new.self.items ≡ c.self.inside.queued.items ++ true ∷ [] = rw c.unwrap-2.ensures at c.push.ensures.items in
    let places : deque_capacity c.push_back.new.self ≡ deque_capacity c.self.inside.numbers = c.push_back.ensures.in_place
    (omega (arith, c.requires, ap (λ l. l.room) c.self.view_is, fits c.self.inside.numbers.items c.self.inside.queued.items _ c.self.invariant, c.self.inside.numbers.ok)) in
    omega (arith, ap length flags, length-append c.self.inside.queued.items (true ∷ []), ap (λ l. l.room) c.self.view_is)
