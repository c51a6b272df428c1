-- What a record of the program says.
use Rattle.std.specs.Prelude.{nat_lt}
use Rattle.note_streams.specs.Outcomes as said
use Rattle.note_streams.specs.Record.{Recorded as Noted}
use Rattle.note_streams.specs.declared.outcomes.Outcomes.{Outcomes}
use Rattle.note_streams.specs.declared.recorded.Recorded.{Recorded}

abbrev pub outcomes_view : Outcomes → said.Outcomes
outcomes_view o = record {
  long = nat_lt 0 o.long;
  noted = o.noted;
  too_long = o.too_long;
  disabled = o.disabled;
  parse_error = o.parse_error;
  unreached = o.unreached;
  keyless = o.keyless;
}

abbrev pub recorded_view : Recorded → Noted
recorded_view r = record { text = r.text.items; lines = r.lines; refused = r.refused; outcomes = outcomes_view r.outcomes }
