use Rattle.std.proofs.Common.{rules, ◌≡◌, ◌++◌, [], ◌∷◌, sym, ◌∙◌, ap}
use Rattle.swf_store.specs.Memory.{Memory, state_of}
use Rattle.swf_store.specs.MemoryView.{memory_view}
use Rattle.swf_store.specs.Replay.{reads}
use Rattle.swf_store.proofs.Kept.{kept_by_look}
use Rattle.swf_store.proofs.memory.MemoryStore.list.Goals as goal

pub invariant_of-self-else-is_err : goal.invariant_of-self-else-is_err
invariant_of-self-else-is_err c =
    let listed : c.push.new.self.items ≡ c.self.inside.calls.items ++ c.args.call ∷ [] = search rules in
    kept_by_look (memory_view c.self.inside) c.args.call _ _ c.self.invariant c.requires listed

pub returns-then-fails-clause-same : goal.returns-then-fails-clause-same
returns-then-fails-clause-same c =
    let listed : c.push.new.self.items ≡ c.self.inside.calls.items ++ c.args.call ∷ [] = search rules in
    sym (kept_by_look (memory_view c.self.inside) c.args.call _ c.push.new.self.items c.self.invariant c.requires listed)
    ∙ c.self.invariant ∙ ap (λ (m : Memory). reads (state_of m)) c.self.view_is

pub returns-else-fails-clause-same : goal.returns-else-fails-clause-same
returns-else-fails-clause-same c =
    let listed : c.push.new.self.items ≡ c.self.inside.calls.items ++ c.args.call ∷ [] = search rules in
    sym (kept_by_look (memory_view c.self.inside) c.args.call _ c.push.new.self.items c.self.invariant c.requires listed)
    ∙ c.self.invariant ∙ ap (λ (m : Memory). reads (state_of m)) c.self.view_is
