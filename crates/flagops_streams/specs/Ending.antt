-- How the stream of a subscriber ended, once its connection was closed.
use Rattle.std.specs.Prelude.{◌≡◌, ◌⊎◌}
use Rattle.sync_server.specs.declared.end.StreamEnd.{StreamEnd}
use Rattle.sync_server.specs.declared.end.StreamEnd.TheVariants.{Closed, WriteFault}

-- as it ended when the last frame was written; or, if it was sent all then, by a connection that failed
abbrev pub EndedAs : StreamEnd → StreamEnd → Type 0
EndedAs before after = (after ≡ before) ⊎ ((before ≡ Closed) × (after ≡ WriteFault))
