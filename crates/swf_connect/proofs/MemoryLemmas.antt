-- The replies of a connector in memory, by their places.
use Rattle.std.proofs.Common.{◌≡◌, refl, ℕ, zero, suc, ◌+◌, ◌<◌, ◌≤◌, List, [], ◌∷◌, length, drop, get_or, All, arith}
use Rattle.std.proofs.lemmas.List.Elements.{All-head, All-tail}
use Rattle.swf_calls.specs.declared.reply.CallReply.{CallReply}
use Rattle.swf_calls.specs.declared.reply.CallReply.TheVariants.{Answer, Unreached}
use Rattle.swf_connect.specs.Asked.{IsTellableAnswer, IsTellableReply}
use Rattle.swf_connect.specs.Memory.{answer_count, first_of}

pub at_place : (replies : List CallReply) (at : ℕ) (d : CallReply) → at < length replies → get_or replies at d ≡ first_of (drop at replies)
at_place [] at d within = absurd (omega (arith, within))
at_place (r ∷ rs) zero d within = refl
at_place (r ∷ rs) (suc at) d within = at_place rs at d (omega (arith, within))

pub past_all : (replies : List CallReply) (at : ℕ) → at ≡ length replies → Unreached ≡ first_of (drop at replies)
past_all [] zero is = refl
past_all [] (suc at) is = absurd (omega (arith, is))
past_all (r ∷ rs) zero is = absurd (omega (arith, is))
past_all (r ∷ rs) (suc at) is = past_all rs at (omega (arith, is))

pub place_fits : (reply : CallReply) (at most : ℕ) → at < most → at + answer_count reply ≤ most
place_fits (Answer s h c) at most within = omega (arith, within)
place_fits Unreached at most within = omega (arith, within)

tellable : (reply : CallReply) → IsTellableAnswer reply → IsTellableReply reply
tellable (Answer s h c) is = is
tellable Unreached is = absurd is

pub tellable_at : (replies : List CallReply) (at : ℕ) (d : CallReply) → at < length replies → All IsTellableAnswer replies → IsTellableReply (get_or replies at d)
tellable_at [] at d within all = absurd (omega (arith, within))
tellable_at (r ∷ rs) zero d within all = tellable r (All-head IsTellableAnswer r rs all)
tellable_at (r ∷ rs) (suc at) d within all = tellable_at rs at d (omega (arith, within)) (All-tail IsTellableAnswer r rs all)
