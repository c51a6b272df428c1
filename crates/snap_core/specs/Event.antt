-- The events of a service and its answers.
use Rattle.std.specs.Prelude.{ℕ, List, map, Option, option_map, string_bytes}
use Rattle.book_core.specs.Page.{PageName}
use Rattle.book_core.specs.declared.noted.Noted.{Noted}
use Rattle.snap_core.specs.Hub.{Numbered}
use Rattle.snap_core.specs.HubView.{snapshot_view}
use Rattle.snap_core.specs.declared.event.Event.{Event}
use Rattle.snap_core.specs.declared.event.Event.TheVariants.{SetSource, ClearSource, Publish, Join, Take, Leave, Note, Seal}
use Rattle.snap_core.specs.declared.event.Answer.{Answer}
use Rattle.snap_core.specs.declared.event.Answer.TheVariants.{Done, Published, Joined, Taken, Noted as NotedAnswer, Sealed, Refused}
use Rattle.snap_core.specs.declared.event.Refusal.{Refusal}

-- what is asked: to set the document of a source, to clear it, to publish the merge, to join, to take, to leave, to note an
-- input from a seat, to seal the book
pub data Happening : Type 0 where
  sets : List ℕ → List ℕ → Happening
  clears : List ℕ → Happening
  publishes : Happening
  joins : Happening
  takes : ℕ → Happening
  leaves : ℕ → Happening
  notes : ℕ → PageName → List ℕ → Happening
  seals : Happening

pub data Reply : Type 0 where
  done : Reply
  published : ℕ → Reply
  joined : ℕ → Reply
  taken : Option Numbered → Reply
  noted : Noted → Reply
  sealed : ℕ → Reply
  refused : Refusal → Reply

-- ---- of the program

abbrev pub event_view : Event → Happening
event_view (SetSource source bytes) = sets (string_bytes source) bytes.items
event_view (ClearSource source) = clears (string_bytes source)
event_view Publish = publishes
event_view Join = joins
event_view (Take sub) = takes sub.0
event_view (Leave sub) = leaves sub.0
event_view (Note seat page input) = notes seat page (string_bytes input)
event_view Seal = seals

abbrev pub answer_view : Answer → Reply
answer_view Done = done
answer_view (Published n) = published n
answer_view (Joined sub) = joined sub.0
answer_view (Taken snapshot) = taken (option_map snapshot_view snapshot)
answer_view (NotedAnswer reply) = noted reply
answer_view (Sealed inputs) = sealed inputs
answer_view (Refused refusal) = refused refusal

abbrev pub events_view : List Event → List Happening
events_view es = map event_view es

abbrev pub answers_view : List Answer → List Reply
answers_view as' = map answer_view as'
