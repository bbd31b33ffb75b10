use Rattle.std.proofs.Common.{◌≡◌, inl, true}
use Rattle.swf_host.specs.Script.{is_among}
use Rattle.swf_host.proofs.script.Script.next.Goals as goal

pub returns-then-contains-clause-play : goal.returns-then-contains-clause-play
returns-then-contains-clause-play g c =
    let listed : is_among c.args.self.now.nexts c.args.self.now.failing_next.items ≡ true = cc in
    inl (listed, cc)
