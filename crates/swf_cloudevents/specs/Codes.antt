-- A code for events, by which a ghost name tells them apart.
use Rattle.std.specs.Coded.{Coded, codes}
use Rattle.swf_value.specs.ValueCode.{value_code, members_code}
use Rattle.swf_cloudevents.specs.declared.event.Event.{Event}

pub event_code : Coded Event
event_code = hlevel (codes, value_code, members_code)
