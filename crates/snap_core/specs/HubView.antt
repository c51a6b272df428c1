-- What the program's snapshots and hubs are.
use Rattle.std.specs.Prelude.{option_map}
use Rattle.flag_defs.specs.Flags.{flags_view}
use Rattle.snap_core.specs.Hub.{Numbered, HubState}
use Rattle.snap_core.specs.declared.hub.Hub.{Hub}
use Rattle.snap_core.specs.declared.snapshot.Snapshot.{Snapshot}

abbrev pub snapshot_view : Snapshot → Numbered
snapshot_view s = record { number = s.number; flags = flags_view s.flags }

abbrev pub hub_view : Hub → HubState
hub_view h = record { current = option_map snapshot_view h.current; members = h.members.entries; next = h.next }
