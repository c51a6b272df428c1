use Rattle.std.proofs.Common.{ℕ, [], ◌++◌, ◌<◌, Bool, take, length, refl, sym, subst}
use Rattle.std.specs.Io.KnownBytes.{Consumes}
use Rattle.sync_server.specs.Follows.{LeadsTo}
use Rattle.sync_server.proofs.Followed.{at_end, at_fault, broken_now, consumes_kept, unbroken}
use Rattle.sync_server.proofs.follow.take_turn.Goals as goal

pub returns-in-Ok-eq0-clause-steps : goal.returns-in-Ok-eq0-clause-steps
returns-in-Ok-eq0-clause-steps g c =
    let e = c.in-Ok-eq0.ensures.bytes in
    let old = g.I.Inlet.bytes c.args.inlet.now in
    let new = g.I.Inlet.bytes c.read.new.self in
    let buf = c.read.new.buf in
    let nothing : Consumes old new [] = subst (λ (n : ℕ). Consumes old new (take n buf)) c.in-Ok-eq0.field-0-test e.0 in
    let room : 0 < length buf = subst (λ (n : ℕ). 0 < n) (sym c.read.auto.buf) c.requires.room in (
      [],
      [],
      nothing,
      refl,
      λ stream ss st. at_end c.args.feed.now stream ss new (g.I.Inlet.is_broken c.read.new.self) c.end_of_input.result st (e.1 c.in-Ok-eq0.field-0-test room) (unbroken (g.I.Inlet.is_broken c.args.inlet.now) (g.I.Inlet.is_broken c.read.new.self) c.requires.whole c.in-Ok-eq0.ensures.broken) (c.end_of_input.ensures.at_end stream st.0),
    )

pub returns-in-Ok-clause-steps : goal.returns-in-Ok-clause-steps
returns-in-Ok-clause-steps g c =
    let p = c.take_piece.ensures.leads in
    let new = g.I.Inlet.bytes c.read.new.self in
    let piece = take c.in-Ok.n c.read.new.buf in (
      piece,
      p.0,
      c.in-Ok.ensures.bytes.0,
      p.1,
      λ stream ss st. subst (λ (b : Bool). LeadsTo c.take_piece.new.feed (stream ++ piece) (ss ++ p.0) new b c.take_piece.result) (sym (unbroken (g.I.Inlet.is_broken c.args.inlet.now) (g.I.Inlet.is_broken c.read.new.self) c.requires.whole c.in-Ok.ensures.broken)) (p.2 stream ss new st),
    )

pub returns-in-Err-clause-steps : goal.returns-in-Err-clause-steps
returns-in-Err-clause-steps g c =
    let old = g.I.Inlet.bytes c.args.inlet.now in
    let new = g.I.Inlet.bytes c.read.new.self in (
      [],
      [],
      consumes_kept old new c.in-Err.ensures.bytes,
      refl,
      λ stream ss st. at_fault c.args.feed.now stream ss new (g.I.Inlet.is_broken c.read.new.self) st (broken_now (g.I.Inlet.is_broken c.args.inlet.now) (g.I.Inlet.is_broken c.read.new.self) c.requires.whole c.in-Err.ensures.broken),
    )
