-- The values of the program, without where their parts lie in memory.
use Rattle.std.specs.Prelude.{option_map}
use Rattle.std.specs.Arc.{arc_value}
use Rattle.flag_text.specs.Shape.{Shape}
use Rattle.flag_text.specs.View.{view}
use Rattle.flag_defs.specs.Floats.{marked_view}
use Rattle.library_seat.specs.LinesView.{kept_view}
use Rattle.flag_resolve.specs.Floats.{Marked}
use Rattle.sync_frames.specs.declared.feed.Feed.{Feed}
use Rattle.library_seat.specs.Connection.{Connection}
use Rattle.library_seat.specs.Question as asking
use Rattle.library_seat.specs.Seat as standing
use Rattle.library_seat.specs.declared.asked.Asked.{Asked}
use Rattle.library_seat.specs.declared.asked.Question.{Question}
use Rattle.library_seat.specs.declared.asked.ReadContext.{ReadContext}
use Rattle.library_seat.specs.declared.held.HeldFlags.{HeldFlags}
use Rattle.library_seat.specs.declared.held.HeldFlags.TheVariants.{Own, Shared}
use Rattle.library_seat.specs.declared.seat.Seat.{Seat}

abbrev pub asked_view : Asked → asking.AskedBytes
asked_view a = record { key = a.key.now; kind = a.kind; default = a.default.now; moment = a.moment }

abbrev pub question_view : Question → asking.Question
question_view q = record { key = q.key.now; kind = q.kind; default = view q.default; moment = q.moment }

abbrev pub context_view : ReadContext → Shape
context_view c = view c.tree

abbrev pub held_view : HeldFlags → Marked
held_view (Own flags) = marked_view flags
held_view (Shared flags) = marked_view (arc_value flags)

abbrev pub connection_view : Feed → Connection
connection_view feed = record { last = feed.last; kept = feed.kept.items; stage = feed.stage }

abbrev pub seat_view : Seat → standing.Standing
seat_view s = record {
  flags = option_map held_view s.flags;
  context = option_map context_view s.context;
  notes = kept_view s.notes;
  connection = connection_view s.feed;
}
