use Rattle.std.proofs.Common.{refl}
use Rattle.swf_http.specs.Sent.{request_bytes}
use Rattle.swf_connect.proofs.ExchangeLemmas.{counted, moved, not_dialed, talk_added}
use Rattle.swf_connect.proofs.exchange.exchange.Goals as goal

pub returns-clause-talks : goal.returns-clause-talks
returns-clause-talks g c =
    talk_added c.args.host.now c.args.port (request_bytes c.args.request.now) c.args.head c.ask-result.result (g.D.Dial.talks c.args.dial.now)
    (g.D.Dial.talks c.dial.new.self) (g.D.Dial.talks c.hang_up.new.self)
    _ _ _ _ _
    c.in-Ok.ensures.talks c.in-Ok.ensures.fresh c.ask-result.ensures.about c.ask-result.ensures.asks c.hang_up.ensures.talks

pub returns-clause-cause : goal.returns-clause-cause
returns-clause-cause g c =
    moved c.ask-result.result (g.D.Dial.dial_faults c.dial.new.self) (g.D.Dial.dial_faults c.hang_up.new.self) (g.D.Dial.dial_faults c.args.dial.now)
    (g.D.Dial.dial_faults c.hang_up.new.self)
    (counted c.ask-result.result (g.D.Dial.dial_faults c.dial.new.self) _ _ (g.D.Dial.dial_faults c.hang_up.new.self)
    (c.ask-result.ensures.cause c.in-Ok.ensures.unused.0 c.in-Ok.ensures.unused.1) c.hang_up.ensures.faults)
    c.in-Ok.ensures.cause.done refl

pub returns-in-Err-clause-talks : goal.returns-in-Err-clause-talks
returns-in-Err-clause-talks g c =
    not_dialed c.args.host.now c.args.port (request_bytes c.args.request.now) c.args.head (g.D.Dial.talks c.args.dial.now) (g.D.Dial.talks c.dial.new.self)
    c.in-Err.ensures.talks
