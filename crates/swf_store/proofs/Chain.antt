-- One call more of a store in memory: what it makes of the files, and what a stop may leave.
use Rattle.std.proofs.Common.{◌≡◌, ℕ, suc, ◌+◌, ◌≤◌, List, [], ◌∷◌, ◌++◌, length, refl, sym, ◌∙◌, ap, subst, arith}
use Rattle.std.proofs.lemmas.List.{take_all, take-append-le}
use Rattle.swf_store.specs.declared.call.Call.{Call}
use Rattle.swf_store.specs.declared.image.Image.{Image}
use Rattle.swf_store.specs.declared.replay.Change.{Change}
use Rattle.swf_store.specs.Disk.{TornIn}
use Rattle.swf_store.specs.Memory.{Memory, state_of, state_after, and_listed, fails_next}
use Rattle.swf_store.specs.Replay.{Writing, IsTornBy, and_write, whole, step, is_in, replay}

-- writes one after another
pub torn_append : (old between new : Image) (before after : List Change) → IsTornBy old before between → IsTornBy between after new → IsTornBy old (before ++ after) new
torn_append old between new [] after is torn = subst (λ i. IsTornBy i after new) is torn
torn_append old between new (change ∷ before) after first torn = (first.0, first.1, torn_append first.0 between new before after first.2 torn)

-- the last of several writes
pub torn_last : (old new : Image) (changes : List Change) (change : Change) → IsTornBy old (changes ++ change ∷ []) new → (between : Image) × IsTornBy old changes between × TornIn change.file change.at (length change.bytes) between new
torn_last old new [] change torn = (old, refl, subst (λ i. TornIn change.file change.at (length change.bytes) old i) (sym torn.2) torn.1)
torn_last old new (first ∷ changes) change torn =
    let rest = torn_last torn.0 new changes change torn.2 in
    (rest.0, (torn.0, torn.1, rest.1), rest.2)

pub whole_append : (image : Image) (before after : List Change) → whole image (before ++ after) ≡ whole (whole image before) after
whole_append image [] after = refl
whole_append image (change ∷ before) after = whole_append (and_write image change) before after

pub replay_last : (failing : List ℕ) (number : ℕ) (calls : List Call) (call : Call) (writing : Writing)
    → replay failing number (calls ++ call ∷ []) writing ≡ step (is_in failing (number + length calls)) call (replay failing number calls writing)
replay_last failing number [] call writing =
    let same : number ≡ number + 0 = omega arith in
    ap (λ n. step (is_in failing n) call writing) same
replay_last failing number (first ∷ calls) call writing =
    let same : number + 1 + length calls ≡ number + suc (length calls) = omega arith in
    let next = step (is_in failing number) first writing in
    replay_last failing (number + 1) calls call next
    ∙ ap (λ n. step (is_in failing n) call (replay failing (number + 1) calls next)) same

pub state_of_listed : (memory : Memory) (call : Call) → state_of (and_listed call memory) ≡ step (fails_next memory) call (state_of memory)
state_of_listed memory call =
    let start : Writing = record { synced = memory.first; unsynced = [] } in
    let all = memory.calls ++ call ∷ [] in
    let zero_more : 0 + length memory.calls ≡ length memory.calls = omega arith in
    ap (λ (calls : List Call). replay memory.failing 0 calls start) (take_all (length all) all (omega arith))
    ∙ replay_last memory.failing 0 memory.calls call start
    ∙ ap (λ n. step (is_in memory.failing n) call (replay memory.failing 0 memory.calls start)) zero_more
    ∙ ap (λ (calls : List Call). step (fails_next memory) call (replay memory.failing 0 calls start)) (sym (take_all (length memory.calls) memory.calls (omega arith)))

-- what was so after fewer calls stays so
pub state_after_listed : (memory : Memory) (call : Call) (number : ℕ) → number ≤ length memory.calls → state_after (and_listed call memory) number ≡ state_after memory number
state_after_listed memory call number le =
    let start : Writing = record { synced = memory.first; unsynced = [] } in
    ap (λ (calls : List Call). replay memory.failing 0 calls start) (take-append-le number memory.calls (call ∷ []) le)
