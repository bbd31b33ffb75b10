use Rattle.std.proofs.Common.{◌≡◌, ap, ℕ, true}
use Rattle.swf_host.specs.Script.{is_among, play}
use Rattle.swf_host.proofs.HostedLemmas.{say_cut}
use Rattle.swf_host.proofs.script.Script.say.Goals as goal

pub returns-then-contains-clause-play : goal.returns-then-contains-clause-play
returns-then-contains-clause-play g c =
    let listed : is_among c.args.self.now.says c.args.self.now.failing_say.items ≡ true = cc in
    say_cut c.args.conn c.args.bytes.now c.args.calls (play c.args.self.now) _ _ (ap (λ (n : ℕ). record (play c.args.self.now) { says = n }) c.saturating_add-self.ensures) listed c.cut.ensures.play
