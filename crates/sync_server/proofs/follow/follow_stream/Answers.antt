use Rattle.std.proofs.Common.{ℕ, ◌+◌, ◌<◌, Some, add-one, List, [], ◌++◌, length, true, arith, refl, sym, subst}
use Rattle.sync_server.specs.Reads.{AfterReads}
use Rattle.sync_server.proofs.Followed.{up_to, consumes_both, consumes_none, first_of_nothing, handed_behind, refilled, stands_first, took_both, works_first}
use Rattle.sync_server.proofs.follow.follow_stream.Goals as goal

pub returns-in_default-clause-follows : goal.returns-in_default-clause-follows
returns-in_default-clause-follows g c = ([], [], consumes_none (g.I.Inlet.bytes c.args.inlet.now), refl, first_of_nothing)

pub loop-turn-init : goal.loop-turn-init
loop-turn-init g c = (
  [],
  [],
  consumes_none (g.I.Inlet.bytes c.args.inlet.now),
  refl,
  stands_first c.new-feed.result c.new-feed.ensures.fed,
  works_first c.new-feed.result c.new-feed.ensures.fresh,
  c.requires.whole,
  omega (arith, c.in-Ok.ensures.len, c.in-Ok.buffer.ok.0),
  c.requires.takes,
  refl,
)

pub take_turn-requires-clause-whole : goal.take_turn-requires-clause-whole
take_turn-requires-clause-whole g c = c.loop-turn.invariant.6

pub take_turn-requires-clause-works : goal.take_turn-requires-clause-works
take_turn-requires-clause-works g c = c.loop-turn.invariant.5

pub take_turn-requires-clause-room : goal.take_turn-requires-clause-room
take_turn-requires-clause-room g c = subst (λ (l : List ℕ). 0 < length l) (sym c.deref_mut.ensures.value) c.loop-turn.invariant.7

pub take_turn-requires-clause-takes : goal.take_turn-requires-clause-takes
take_turn-requires-clause-takes g c = c.loop-turn.invariant.8

pub returns-in-Ends-clause-follows : goal.returns-in-Ends-clause-follows
returns-in-Ends-clause-follows g c =
    let i = c.loop-turn.invariant in
    let s = c.in-Ends.ensures.steps in (
      i.0 ++ s.0,
      i.1 ++ s.1,
      consumes_both (g.I.Inlet.bytes c.args.inlet.now) (g.I.Inlet.bytes c.loop-turn.inlet) (g.I.Inlet.bytes c.take_turn.new.inlet) i.0 s.0 i.2 s.2,
      took_both g.S.Sink.took g.S.Sink.refused c.args.sink.now c.loop-turn.sink c.take_turn.new.sink i.1 s.1 i.3 s.3,
      s.4 i.0 i.1 i.4,
    )

pub returns-in-Full-clause-follows : goal.returns-in-Full-clause-follows
returns-in-Full-clause-follows g c =
    let i = c.loop-turn.invariant in
    let s = c.in-Full.ensures.steps in (
      i.0 ++ s.0,
      i.1 ++ s.1,
      consumes_both (g.I.Inlet.bytes c.args.inlet.now) (g.I.Inlet.bytes c.loop-turn.inlet) (g.I.Inlet.bytes c.take_turn.new.inlet) i.0 s.0 i.2 s.2,
      handed_behind g.S.Sink.took g.S.Sink.refused c.args.sink.now c.loop-turn.sink c.take_turn.new.sink i.1 s.1 true i.3 s.3,
      s.4 i.0 i.1 i.4,
    )

pub loop-turn-preserved : goal.loop-turn-preserved
loop-turn-preserved g c =
    let i = c.loop-turn.invariant in
    let s = c.in-GoesOn.ensures.steps in
    let t = s.4 i.0 i.1 i.4 in
    let room : 0 < length c.deref_mut.result.now = subst (λ (l : List ℕ). 0 < length l) (sym c.deref_mut.ensures.value) i.7 in (
      i.0 ++ s.0,
      i.1 ++ s.1,
      consumes_both (g.I.Inlet.bytes c.args.inlet.now) (g.I.Inlet.bytes c.loop-turn.inlet) (g.I.Inlet.bytes c.take_turn.new.inlet) i.0 s.0 i.2 s.2,
      took_both g.S.Sink.took g.S.Sink.refused c.args.sink.now c.loop-turn.sink c.take_turn.new.sink i.1 s.1 i.3 s.3,
      t.0,
      t.1,
      t.2,
      refilled c.loop-turn.buffer.len c.take_turn.new.buffer c.loop-turn.buffer.items (subst (λ (n : ℕ). 0 < n) (sym c.loop-turn.buffer.ok.0) i.7) (subst (λ (n : ℕ). 0 < n) (sym c.take_turn.ensures.room) room),
      c.in-GoesOn.ensures.full,
      rw add-one (c.loop-turn.inlet, i.9, c.in-GoesOn.ensures.read),
    )

pub returns-clause-follows : goal.returns-clause-follows
returns-clause-follows g c = let i = c.loop-turn.invariant in (i.0, i.1, i.2, i.3, (i.4.1, i.4.2, i.6))

pub returns-clause-full : goal.returns-clause-full
returns-clause-full g c = c.loop-turn.invariant.8

pub returns-in_default-clause-reads : goal.returns-in_default-clause-reads
returns-in_default-clause-reads g c = (0, omega arith, refl)

pub returns-in-Ends-clause-reads : goal.returns-in-Ends-clause-reads
returns-in-Ends-clause-reads g c =
    let n = c.loop-turn._turn in
    let h : AfterReads g.I.Inlet.was_read (n + 1) c.args.inlet.now c.take_turn.new.inlet = rw add-one (c.loop-turn.inlet, c.loop-turn.invariant.9, c.in-Ends.ensures.read) in
    up_to g.I.Inlet.was_read c.args.limit (n + 1) c.args.inlet.now c.take_turn.new.inlet (Some c.in-Ends.end) c.in-Ends.ensures.other (omega (arith, c.loop-turn-test.true)) h

pub returns-in-Full-clause-reads : goal.returns-in-Full-clause-reads
returns-in-Full-clause-reads g c =
    let n = c.loop-turn._turn in
    let h : AfterReads g.I.Inlet.was_read (n + 1) c.args.inlet.now c.take_turn.new.inlet = rw add-one (c.loop-turn.inlet, c.loop-turn.invariant.9, c.in-Full.ensures.read) in
    (n + 1, omega (arith, c.loop-turn-test.true), h)

pub returns-clause-reads : goal.returns-clause-reads
returns-clause-reads g c =
    let n = c.loop-turn._turn in
    subst (λ (k : ℕ). AfterReads g.I.Inlet.was_read k c.args.inlet.now c.loop-turn.inlet) (omega (arith, c.loop-turn-test.false)) c.loop-turn.invariant.9
