use Rattle.std.proofs.Common.{List, [], ◌++◌, false, refl, sym, ap, subst, ◌∙◌, append-nil}
use Rattle.sync_frames.specs.Snapshots.{Numbered}
use Rattle.sync_frames.specs.Feed.{Gives, snapshots_view}
use Rattle.sync_server.specs.Ends.{Ends}
use Rattle.sync_server.specs.declared.end.ReadEnd.{ReadEnd}
use Rattle.sync_server.proofs.Followed.{full, goes_on, ends_behind, refused, no_items}
use Rattle.sync_server.proofs.follow.take_piece.Goals as goal

pub returns-then-not-hand_on-clause-leads : goal.returns-then-not-hand_on-clause-leads
returns-then-not-hand_on-clause-leads g c =
    let h = c.if-not-hand_on.ensures.handed in
    let old = c.args.feed.now in
    let mid = c.feed.new.self in
    let piece = c.args.piece.now in
    let gives : Gives old mid piece (h.0 ++ h.1) = subst (λ (l : List Numbered). Gives old mid piece l) h.2 c.in-Ok.ensures.gives in
    (h.0, h.3, λ stream ss left st. full old mid stream piece ss h.0 h.1 gives st)

pub returns-in-Ok-feed-clause-leads : goal.returns-in-Ok-feed-clause-leads
returns-in-Ok-feed-clause-leads g c =
    let h = c.if-not-hand_on.ensures.handed in
    let old = c.args.feed.now in
    let mid = c.feed.new.self in
    let new = c.feed-in-Ok.new.self in
    let piece = c.args.piece.now in
    let none = c.in-Ok-feed._none.items in
    let gives : Gives old mid piece h.0 = subst (λ (l : List Numbered). Gives old mid piece l) (h.2 ∙ ap (λ (l : List Numbered). h.0 ++ l) h.4 ∙ append-nil h.0) c.in-Ok.ensures.gives in (
      h.0,
      h.3,
      λ stream ss left st. goes_on old mid new stream piece ss h.0 (snapshots_view none) left gives c.in-Ok-feed.ensures.gives (λ e. c.in-Ok-feed.ensures.quiet (no_items none e)) c.in-Ok-feed.ensures.works st,
    )

pub returns-in-Err-feed-clause-leads : goal.returns-in-Err-feed-clause-leads
returns-in-Err-feed-clause-leads g c =
    let h = c.if-not-hand_on.ensures.handed in
    let old = c.args.feed.now in
    let mid = c.feed.new.self in
    let new = c.feed-in-Ok.new.self in
    let piece = c.args.piece.now in
    let gives : Gives old mid piece h.0 = subst (λ (l : List Numbered). Gives old mid piece l) (h.2 ∙ ap (λ (l : List Numbered). h.0 ++ l) h.4 ∙ append-nil h.0) c.in-Ok.ensures.gives in (
      h.0,
      h.3,
      λ stream ss left st. subst (λ (e : ReadEnd). Ends (stream ++ piece) (ss ++ h.0) left false e) (sym c.end_by.ensures.by_fault) (ends_behind old mid new stream piece ss h.0 left c.in-Err-feed.fault gives c.in-Ok.ensures.works c.in-Err-feed.ensures.refuses st),
    )

pub returns-in-Err-clause-leads : goal.returns-in-Err-clause-leads
returns-in-Err-clause-leads g c =
    let old = c.args.feed.now in
    let new = c.feed.new.self in
    let piece = c.args.piece.now in (
      [],
      refl,
      λ stream ss left st. subst (λ (e : ReadEnd). Ends (stream ++ piece) (ss ++ []) left false e) (sym c.end_by-in-Err.ensures.by_fault) (refused old new stream piece ss left c.in-Err.fault c.requires.works c.in-Err.ensures.refuses st.0 st.1),
    )
