use Rattle.swf_cloudevents.proofs.write.event_json.Goals as goal

pub returns : goal.returns
returns c =
    rw (c.in_ok-put_text-4.ensures, c.in_ok-copy-3.ensures, c.in_ok-put_text-3.ensures, c.in_ok-copy-2.ensures, c.in_ok-put_text-2.ensures, c.in_ok-word.ensures, c.in_ok-put_text.ensures, c.in_ok-copy.ensures, c.in_ok-put_payload.ensures, c.in_ok-members.ensures)
    at c.to_json.ensures
