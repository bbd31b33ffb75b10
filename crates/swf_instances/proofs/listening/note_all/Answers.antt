use Rattle.std.proofs.Common.{◌<◌, ◌∙◌, sym, subst, length, arith}
use Rattle.std.proofs.lemmas.List.{length-map}
use Rattle.swf_instances.specs.Held.{instances_in}
use Rattle.swf_instances.specs.Kept.{Listening}
use Rattle.swf_instances.proofs.Lookups.{instance_there}
use Rattle.swf_instances.proofs.NoteLemmas.{first_among, noted_left}
use Rattle.swf_instances.proofs.listening.note_all.Goals as goal

pub index-requires : goal.index-requires
index-requires c =
    let n = c.in-Some.number in
    let stale = c.loop-number.stale in
    let within = c.in-Some.ensures.known n (first_among n stale.numbers (sym c.in-Some.ensures.first)) in
    omega (arith, within, c.loop-number.invariant.listening.count, length-map c.args.machines.now.entries (λ e. e.1))

pub note-requires : goal.note-requires
note-requires c =
    let n = c.in-Some.number in
    let stale = c.loop-number.stale in
    let within = c.in-Some.ensures.known n (first_among n stale.numbers (sym c.in-Some.ensures.first)) in
    omega (arith, within, c.loop-number.invariant.listening.count, c.loop-number.invariant.listening.many)

pub loop-number-preserved : goal.loop-number-preserved
loop-number-preserved c =
    let n = c.in-Some.number in
    let es = c.args.machines.now.entries in
    let is = instances_in es in
    let stale = c.loop-number.stale in
    let i = c.index.result.now in
    let was = c.loop-number.invariant in
    let within : n < length is = omega (arith, c.in-Some.ensures.known n (first_among n stale.numbers (sym c.in-Some.ensures.first)), was.listening.count) in
    record {
      listening = subst (λ ws. Listening is ws c.leave.new.self) (sym c.in_ok-note.ensures.ok)
          (noted_left is c.loop-number.listeners.wanted stale c.leave.new.self n i was.listening (sym c.in-Some.ensures.first) within (instance_there es n i c.index.ensures) c.leave.ensures.numbers c.leave.ensures.count);
      room = c.note.ensures.room ∙ was.room;
      stale = c.leave.ensures.room ∙ was.stale;
    }
