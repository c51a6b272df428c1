use Rattle.std.proofs.Common.{List, [], ◌∷◌, ◌++◌, sym, ap, subst, ◌∙◌}
use Rattle.sync_frames.specs.Snapshots.{Numbered}
use Rattle.snap_core.specs.declared.snapshot.Snapshot.{Snapshot}
use Rattle.sync_frames.specs.Feed.{snapshots_view}
use Rattle.sync_server.specs.Ends.{Ends, FirstOf}
use Rattle.sync_server.specs.declared.read.Collected.{Collected}
use Rattle.sync_server.proofs.Followed.{collected, first_less}
use Rattle.sync_server.proofs.read.read_stream.Goals as goal

abbrev list_of : Collected → List Numbered
list_of c = snapshots_view c.snapshots.items

pub returns-in-Some-clause-ends : goal.returns-in-Some-clause-ends
returns-in-Some-clause-ends g c =
    let h = c.in-Some.ensures.follows in
    let left = g.I.Inlet.bytes c.follow_stream.new.inlet in
    let broken = g.I.Inlet.is_broken c.follow_stream.new.inlet in
    let all = collected list_of _ c.follow_stream.new.sink h.1 h.3 ∙ ap (λ (xs : List Snapshot). snapshots_view xs ++ h.1) c.new-snapshots.ensures.items in
    (h.0, h.2, subst (λ (l : List Numbered). Ends h.0 l left broken c.in-Some.end) (sym all) h.4)

pub returns-in-None-clause-ends : goal.returns-in-None-clause-ends
returns-in-None-clause-ends g c =
    let h = c.in-None.ensures.follows in
    let f = h.3 in
    let all = f.5 ∙ collected list_of _ f.2 f.0 f.4 ∙ ap (λ (xs : List Snapshot). snapshots_view xs ++ f.0) c.new-snapshots.ensures.items in
    let first : FirstOf h.0 f.0 = first_less h.0 f.0 (f.1 ∷ []) (subst (FirstOf h.0) f.3 h.4) in
    (h.0, h.2, subst (FirstOf h.0) (sym all) first)
