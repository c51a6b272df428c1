use Rattle.std.proofs.Common.{[], ◌∷◌, ◌++◌, refl, sym, ap, ◌∙◌, append_assoc}
use Rattle.std.proofs.lemmas.List.{nil_from_length}
use Rattle.sync_frames.specs.Snapshots.{snapshot_view}
use Rattle.sync_frames.specs.Feed.{snapshots_view}
use Rattle.sync_server.proofs.Followed.{took_more}
use Rattle.sync_server.proofs.follow.hand_on.Goals as goal

pub loop-snapshot-init : goal.loop-snapshot-init
loop-snapshot-init g c = ([], sym (ap snapshots_view c.into_iter-snapshot-iterator.ensures.into_iter_gives.0), refl, c.requires)

pub take-requires : goal.take-requires
take-requires g c = c.loop-snapshot.invariant.3

pub returns-then-not-take-clause-handed : goal.returns-then-not-take-clause-handed
returns-then-not-take-clause-handed g c =
    let i = c.loop-snapshot.invariant in
    let s = snapshot_view c.in-Some.snapshot in
    let rest = snapshots_view c.next.new.self.rest.items in (
      i.0 ++ s ∷ [],
      rest,
      i.1 ∙ ap (λ l. i.0 ++ snapshots_view l) c.in-Some.ensures.steps.0 ∙ sym (append_assoc i.0 (s ∷ []) rest),
      (i.0, s, c.loop-snapshot.sink, refl, i.2, c.if-not-take.ensures.took),
      tt,
    )

pub loop-snapshot-preserved : goal.loop-snapshot-preserved
loop-snapshot-preserved g c =
    let i = c.loop-snapshot.invariant in
    let s = snapshot_view c.in-Some.snapshot in
    let rest = snapshots_view c.next.new.self.rest.items in (
      i.0 ++ s ∷ [],
      i.1 ∙ ap (λ l. i.0 ++ snapshots_view l) c.in-Some.ensures.steps.0 ∙ sym (append_assoc i.0 (s ∷ []) rest),
      took_more g.S.Sink.took g.S.Sink.refused c.args.sink.now c.loop-snapshot.sink c.take.new.self i.0 s i.2 c.if-not-take.ensures.took,
      c.if-not-take.ensures.full,
    )

pub returns-clause-handed : goal.returns-clause-handed
returns-clause-handed g c =
    let i = c.loop-snapshot.invariant in
    let rest = c.loop-snapshot.snapshot-iterator.rest in
    (i.0, snapshots_view rest.items, i.1, i.2, ap snapshots_view (nil_from_length rest.items (sym rest.ok.0 ∙ c.in-None.ensures.steps.0)))

pub returns-clause-full : goal.returns-clause-full
returns-clause-full g c = c.loop-snapshot.invariant.3
