-- What the program stores of a service.
use Rattle.std.specs.Prelude.{ℕ, Bool}
use Rattle.book_core.specs.Book.{Contents}
use Rattle.source_merge.specs.Sources.{SourceList}
use Rattle.source_merge.specs.View.{sources_view}
use Rattle.snap_core.specs.Hub.{HubState}
use Rattle.snap_core.specs.HubView.{hub_view}
use Rattle.snap_core.specs.declared.world.World.{World}

pub record Stored : Type 0 where
  pub sources : SourceList
  pub hub : HubState
  pub book : Contents
  pub seats : ℕ
  pub is_sealed : Bool

abbrev pub world_view : World → Stored
world_view w = record { sources = sources_view w.sources; hub = hub_view w.hub; book = w.book; seats = w.seats; is_sealed = w.is_sealed }
