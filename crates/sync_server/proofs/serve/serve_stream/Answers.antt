use Rattle.std.proofs.Common.{◌≡◌, ◌<◌, None, [], ◌∷◌, ◌++◌, false, arith, length, length-append, refl, subst, sym, ◌∙◌}
use Rattle.sync_server.proofs.Serving.{sent_none, serves_closed, still_open, turned_closed, turned_to}
use Rattle.sync_server.proofs.Turned.{turned_more}
use Rattle.sync_server.proofs.serve.serve_stream.Goals as goal

pub loop-turn-init : goal.loop-turn-init
loop-turn-init g c = ([], sent_none (g.C.Current.known c.args.current.now) (g.O.Outlet.bytes c.args.out.now), (refl, refl), refl, c.requires.open, c.requires.whole, omega arith)

pub returns-then-is_none-clause-serves : goal.returns-then-is_none-clause-serves
returns-then-is_none-clause-serves g c =
    let i = c.loop-turn.invariant in
    let known = g.C.Current.known c.loop-turn.current in
    let out = g.O.Outlet.bytes c.loop-turn.out in
    let p = c.loop-turn.progress in
    let few : length i.0 < c.args.limit = omega (arith, i.3, c.loop-turn-test.true) in (
      i.0,
      None,
      (serves_closed known (g.O.Outlet.bytes c.args.out.now) out i.0 p.last p.count i.1).0,
      turned_closed g.N.NextNumber.asked g.C.Current.was_read c.args.next.now c.loop-turn.next c.next.new.self c.args.current.now c.loop-turn.current c.loop-turn.current i.0 p.last c.args.limit i.1.number i.2 c.next.ensures.asked few,
    )

pub returns-then-is_none-clause-broken : goal.returns-then-is_none-clause-broken
returns-then-is_none-clause-broken g c = c.loop-turn.invariant.5

pub take_turn-requires-clause-whole : goal.take_turn-requires-clause-whole
take_turn-requires-clause-whole g c = c.loop-turn.invariant.5

pub take_turn-requires-clause-room : goal.take_turn-requires-clause-room
take_turn-requires-clause-room g c = omega (arith, c.loop-turn.invariant.6, c.loop-turn-test.true, c.ranges.limit.fits)

pub returns-in-Some-clause-serves : goal.returns-in-Some-clause-serves
returns-in-Some-clause-serves g c =
    let i = c.loop-turn.invariant in
    let p = c.loop-turn.progress in
    let few : length i.0 < c.args.limit = omega (arith, i.3, c.loop-turn-test.true) in
    let last = c.in-Some.ensures.ends in (
      i.0,
      last.0,
      last.2 (g.O.Outlet.bytes c.args.out.now) i.0 i.1,
      turned_to g.N.NextNumber.asked g.C.Current.was_read c.args.next.now c.loop-turn.next c.next.new.self c.args.current.now c.loop-turn.current c.take_turn.new.current i.0 p.last c.args.limit
          c.in-Some.end last.0 c.in-Some.ensures.limit c.in-Some.ensures.closed i.1.number i.2 c.next.ensures.asked last.1 few,
    )

pub returns-in-Some-clause-closed : goal.returns-in-Some-clause-closed
returns-in-Some-clause-closed g c =
    still_open c.next.result (g.N.NextNumber.is_closed c.loop-turn.next) (g.N.NextNumber.is_closed c.next.new.self) c.is_none.result c.is_none.ensures c.if-is_none.false c.loop-turn.invariant.4 c.next.ensures.closed ∙ sym c.in-Some.ensures.closed

pub loop-turn-preserved : goal.loop-turn-preserved
loop-turn-preserved g c =
    let i = c.loop-turn.invariant in
    let p = c.loop-turn.progress in
    let more = c.in-None.ensures.goes_on in
    let goes : g.N.NextNumber.is_closed c.next.new.self ≡ false = still_open c.next.result (g.N.NextNumber.is_closed c.loop-turn.next) (g.N.NextNumber.is_closed c.next.new.self) c.is_none.result c.is_none.ensures c.if-is_none.false i.4 c.next.ensures.closed in (
      i.0 ++ more.0 ∷ [],
      more.2 (g.O.Outlet.bytes c.args.out.now) i.0 i.1,
      turned_more g.N.NextNumber.asked g.C.Current.was_read 0 c.args.next.now c.loop-turn.next c.next.new.self c.args.current.now c.loop-turn.current c.take_turn.new.current i.0 more.0 i.2 (subst (λ n. g.N.NextNumber.asked c.loop-turn.next n c.next.new.self) i.1.number c.next.ensures.asked) more.1,
      omega (arith, length-append i.0 (more.0 ∷ []), i.3),
      goes,
      c.in-None.ensures.works,
      omega (arith, c.in-None.ensures.counts, i.6),
    )

pub returns-clause-serves : goal.returns-clause-serves
returns-clause-serves g c =
    let i = c.loop-turn.invariant in
    let known = g.C.Current.known c.loop-turn.current in
    let out = g.O.Outlet.bytes c.loop-turn.out in
    let p = c.loop-turn.progress in
    (i.0, None, (serves_closed known (g.O.Outlet.bytes c.args.out.now) out i.0 p.last p.count i.1).1, (i.2, i.3 ∙ omega arith))

pub returns-clause-closed : goal.returns-clause-closed
returns-clause-closed g c = c.loop-turn.invariant.4

pub returns-clause-broken : goal.returns-clause-broken
returns-clause-broken g c = c.loop-turn.invariant.5
