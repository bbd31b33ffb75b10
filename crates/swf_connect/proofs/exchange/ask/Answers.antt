use Rattle.std.proofs.Common.{◌≡◌, ◌∙◌, ◌+◌, arith}
use Rattle.swf_http.specs.Sent.{request_bytes}
use Rattle.swf_connect.proofs.ExchangeLemmas.{asked, moved, rose_on}
use Rattle.swf_connect.proofs.exchange.ask.Goals as goal

pub returns-in-Ok-clause-about : goal.returns-in-Ok-clause-about
returns-in-Ok-clause-about g c =
    (g.met.L.Link.read_keeps c.response.new.link c.write_request.new.to c.response.ensures.beside).2
    ∙ (g.met.L.Link.write_keeps c.write_request.new.to c.args.link.now c.write_request.ensures.kept).2

pub returns-in-Ok-clause-asks : goal.returns-in-Ok-clause-asks
returns-in-Ok-clause-asks g c =
    asked (request_bytes c.args.request.now) c.args.head c.response.result (g.L.Source.left c.args.link.now) (g.L.Source.left c.write_request.new.to)
    (g.L.Sink.written c.args.link.now) (g.L.Sink.written c.write_request.new.to) (g.L.Sink.written c.response.new.link)
    (g.met.L.Link.write_keeps c.write_request.new.to c.args.link.now c.write_request.ensures.kept).0
    (g.met.L.Link.read_keeps c.response.new.link c.write_request.new.to c.response.ensures.beside).0
    c.in-Ok.ensures.told c.response.ensures.tells

pub returns-in-Ok-clause-cause : goal.returns-in-Ok-clause-cause
returns-in-Ok-clause-cause g c = λ reads writes.
    let write = g.met.L.Link.write_keeps c.write_request.new.to c.args.link.now c.write_request.ensures.kept in
    let read = g.met.L.Link.read_keeps c.response.new.link c.write_request.new.to c.response.ensures.beside in
    let none = read.1 ∙ c.in-Ok.ensures.cause ∙ writes in
    moved c.response.result (g.L.Source.faults c.write_request.new.to) (g.L.Source.faults c.response.new.link) 0
    (g.L.Source.faults c.response.new.link + g.L.Sink.write_faults c.response.new.link) c.response.ensures.cause (write.1 ∙ reads) (omega (arith, none))

pub returns-in-Err-Write-clause-about : goal.returns-in-Err-Write-clause-about
returns-in-Err-Write-clause-about g c = (g.met.L.Link.write_keeps c.write_request.new.to c.args.link.now c.write_request.ensures.kept).2

pub returns-in-Err-Write-clause-cause : goal.returns-in-Err-Write-clause-cause
returns-in-Err-Write-clause-cause g c = λ reads writes.
    let write = g.met.L.Link.write_keeps c.write_request.new.to c.args.link.now c.write_request.ensures.kept in
    let none = write.1 ∙ reads in
    rose_on (g.L.Sink.write_faults c.args.link.now) (g.L.Sink.write_faults c.write_request.new.to) 0
    (g.L.Source.faults c.write_request.new.to + g.L.Sink.write_faults c.write_request.new.to) (rw c.in-Err-Write.field-0-is at c.in-Err-Write.ensures.cause) writes (omega (arith, none))

pub returns-in-Err-OutOfMemory-clause-about : goal.returns-in-Err-OutOfMemory-clause-about
returns-in-Err-OutOfMemory-clause-about g c = (g.met.L.Link.write_keeps c.write_request.new.to c.args.link.now c.write_request.ensures.kept).2

pub returns-in-Err-OutOfMemory-clause-cause : goal.returns-in-Err-OutOfMemory-clause-cause
returns-in-Err-OutOfMemory-clause-cause g c = λ reads writes.
    let write = g.met.L.Link.write_keeps c.write_request.new.to c.args.link.now c.write_request.ensures.kept in
    let read = write.1 ∙ reads in
    let cause : g.L.Sink.write_faults c.write_request.new.to ≡ g.L.Sink.write_faults c.args.link.now = rw c.in-Err-OutOfMemory.field-0-is at c.in-Err-OutOfMemory.ensures.cause in
    let wrote = cause ∙ writes in
    omega (arith, read, wrote)
