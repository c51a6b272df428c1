use Rattle.std.proofs.Common.{◌≡◌, List, is_some, map}
use Rattle.source_merge.specs.View.{sources_view}
use Rattle.flagops_streams.specs.Documents.{texts_of}
use Rattle.flagops_service.specs.Merging.{AreRead}
use Rattle.flagops_service.specs.Rereading.{State, Watches, state_of}
use Rattle.flagops_service.proofs.watching.watch.Given as goal

-- turns led from the beginning to here
abbrev pub invariant-loop-turn : goal.invariant-loop-turn
invariant-loop-turn g l =
    ((turns : List State) × Watches (g.F.FileSet.holding l.fn.files) l.fn.watched.broken (map (λ path. path.now) l.fn.watched.paths.now) (is_some l.answering.admin) turns (state_of l.fn.watched l.fn.publisher l.fn.shown) (state_of l.watched l.publisher l.shown))
    × (g.F.FileSet.holding l.files ≡ g.F.FileSet.holding l.fn.files)
    × (l.watched.broken ≡ l.fn.watched.broken)
    × (l.watched.paths ≡ l.fn.watched.paths)
    × AreRead (texts_of l.watched.accepted.items) (sources_view l.watched.sources)
