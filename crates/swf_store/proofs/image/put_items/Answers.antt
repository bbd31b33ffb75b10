use Rattle.std.proofs.Common.{◌≡◌, ◌∙◌, ◌+◌, length, rules}
use Rattle.std.proofs.lemmas.List.{take_at}
use Rattle.swf_store.proofs.PutLemmas.{put_widened}
use Rattle.swf_store.proofs.image.put_items.Goals as goal

pub returns-clause-ok : goal.returns-clause-ok
returns-clause-ok c =
    let over = c.overwrite.new.bytes in
    let same : c.as_mut_slice.result.now ≡ c.widen.new.items.items = c.as_mut_slice.ensures.value in
    let kept : length over ≡ length c.as_mut_slice.result.now = c.overwrite.auto.bytes in
    let len : length over ≡ c.widen.new.items.len = search rules in
    let end : c.args.at + length c.args.piece.now ≡ c.in_ok-end.end = search rules in
    let wide = same ∙ c.in_ok-widen.ensures.ok in
    take_at over _ _ len ∙ c.overwrite.ensures ∙ put_widened c.args.items.now.items c.args.piece.now c.args.at c.in_ok-end.end end c.as_mut_slice.result.now wide
