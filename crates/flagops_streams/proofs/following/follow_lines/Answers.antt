use Rattle.std.proofs.Common.{None, Some, refl}
use Rattle.sync_server.specs.Ends.{Ends, FirstOf}
use Rattle.sync_server.specs.Reads.{ReadWithin}
use Rattle.sync_server.specs.declared.end.ReadEnd.{ReadEnd}
use Rattle.sync_server.specs.declared.end.ReadEnd.TheVariants.{WantOfMemory}
use Rattle.sync_server.proofs.Followed.{at_most}
use Rattle.flagops_streams.proofs.Lines.{ended, ended_by, lines_taken, off, off_by, wanting}
use Rattle.flagops_streams.proofs.following.follow_lines.Goals as goal

pub returns-in-Some-clause-printed : goal.returns-in-Some-clause-printed
returns-in-Some-clause-printed g c =
    let h = c.in-Some.ensures.follows in
    let lines = lines_taken (λ p. g.O.Outlet.bytes p.out) (λ p. g.O.Outlet.is_broken p.out) (λ p. p.wants) _ c.follow_stream-end.new.sink h.1 h.3 in
    (h.0, h.1, h.2, ended h.0 h.1 _ _ _ _ _ _ _ c.in-Some.end h.4 lines c.finish.ensures)

pub returns-in-None-clause-printed : goal.returns-in-None-clause-printed
returns-in-None-clause-printed g c =
    let h = c.in-None.ensures.follows in
    let w = wanting (λ p. g.O.Outlet.bytes p.out) (λ p. g.O.Outlet.is_broken p.out) (λ p. p.wants) _ c.follow_stream-end.new.sink h.0 h.1 (g.I.Inlet.bytes c.follow_stream-end.new.inlet) (g.I.Inlet.is_broken c.follow_stream-end.new.inlet) h.4 h.3 c.if-wants.true in
    (h.0, w.0, h.2, ended h.0 w.0 _ _ _ _ _ _ _ WantOfMemory w.1 w.2 c.finish-in-None.ensures)

pub returns-in-None-2-clause-printed : goal.returns-in-None-2-clause-printed
returns-in-None-2-clause-printed g c =
    let h = c.in-None-2.ensures.follows in
    (h.0, h.1, h.2, off (λ p. g.O.Outlet.bytes p.out) (λ p. g.O.Outlet.is_broken p.out) (λ p. p.wants) _ c.follow_stream-end.new.sink h.0 h.1 _ _ 1 h.4 h.3 c.if-wants.false refl)

pub returns-in-Some-clause-reads : goal.returns-in-Some-clause-reads
returns-in-Some-clause-reads g c = at_most g.I.Inlet.was_read c.args.turns c.args.inlet.now c.follow_stream-end.new.inlet (Some c.in-Some.end) c.in-Some.ensures.reads

pub returns-in-None-clause-reads : goal.returns-in-None-clause-reads
returns-in-None-clause-reads g c = at_most g.I.Inlet.was_read c.args.turns c.args.inlet.now c.follow_stream-end.new.inlet None c.in-None.ensures.reads

pub returns-in-None-2-clause-reads : goal.returns-in-None-2-clause-reads
returns-in-None-2-clause-reads g c = at_most g.I.Inlet.was_read c.args.turns c.args.inlet.now c.follow_stream-end.new.inlet None c.in-None-2.ensures.reads

-- the end that is told is one that the reads allow, too

pub returns-in-Some-clause-within : goal.returns-in-Some-clause-within
returns-in-Some-clause-within g c =
    let h = c.in-Some.ensures.follows in
    let left = g.I.Inlet.bytes c.follow_stream-end.new.inlet in
    let broken = g.I.Inlet.is_broken c.follow_stream-end.new.inlet in
    let lines = lines_taken (λ p. g.O.Outlet.bytes p.out) (λ p. g.O.Outlet.is_broken p.out) (λ p. p.wants) _ c.follow_stream-end.new.sink h.1 h.3 in (
      h.0,
      h.1,
      h.2,
      ended_by (λ (end : ReadEnd). Ends h.0 h.1 left broken end × ReadWithin g.I.Inlet.was_read c.args.turns c.args.inlet.now c.follow_stream-end.new.inlet (Some end)) (FirstOf h.0 h.1)
          h.1 _ _ _ _ _ c.in-Some.end (h.4, c.in-Some.ensures.reads) lines c.finish.ensures,
    )

pub returns-in-None-clause-within : goal.returns-in-None-clause-within
returns-in-None-clause-within g c =
    let h = c.in-None.ensures.follows in
    let left = g.I.Inlet.bytes c.follow_stream-end.new.inlet in
    let broken = g.I.Inlet.is_broken c.follow_stream-end.new.inlet in
    let w = wanting (λ p. g.O.Outlet.bytes p.out) (λ p. g.O.Outlet.is_broken p.out) (λ p. p.wants) _ c.follow_stream-end.new.sink h.0 h.1 left broken h.4 h.3 c.if-wants.true in (
      h.0,
      w.0,
      h.2,
      ended_by (λ (end : ReadEnd). Ends h.0 w.0 left broken end × ReadWithin g.I.Inlet.was_read c.args.turns c.args.inlet.now c.follow_stream-end.new.inlet (Some end)) (FirstOf h.0 w.0)
          w.0 _ _ _ _ _ WantOfMemory (w.1, c.in-None.ensures.reads) w.2 c.finish-in-None.ensures,
    )

pub returns-in-None-2-clause-within : goal.returns-in-None-2-clause-within
returns-in-None-2-clause-within g c =
    let h = c.in-None-2.ensures.follows in
    let left = g.I.Inlet.bytes c.follow_stream-end.new.inlet in
    let broken = g.I.Inlet.is_broken c.follow_stream-end.new.inlet in (
      h.0,
      h.1,
      h.2,
      off_by (λ p. g.O.Outlet.bytes p.out) (λ p. g.O.Outlet.is_broken p.out) (λ p. p.wants)
          (λ (end : ReadEnd). Ends h.0 h.1 left broken end × ReadWithin g.I.Inlet.was_read c.args.turns c.args.inlet.now c.follow_stream-end.new.inlet (Some end)) _ c.follow_stream-end.new.sink h.0
          h.1 1 h.4 h.3 c.if-wants.false refl,
    )
