use Rattle.std.proofs.Common.{◌≡◌, ◌++◌, [], ℕ, List, length, take, sym, ap, append-nil, length-append, ◌∙◌, arith, rules}
use Rattle.std.proofs.lemmas.List.{length-take-le}
use Rattle.byte_streams.proofs.Growing.{grows_more, grows_none}
use Rattle.byte_streams.proofs.filling.fill.Goals as goal

pub reads-init : goal.reads-init
reads-init g c = record {
  grows = grows_none (g.I.Inlet.bytes c.args.input.now) c.args.batch.now.items c.args.batch.now.items (λ i. c.args.batch.now.items);
  unbroken = c.requires.whole;
  room = λ i. length c.args.piece.now;
  few = λ low. omega (arith, low);
}

pub returns-then-n-eq0-clause-grows : goal.returns-then-n-eq0-clause-grows
returns-then-n-eq0-clause-grows g c =
    let held = c.reads.batch.items in
    let given = take c.in_ok-n.n c.read_piece.new.piece in
    let none : given ≡ [] = search rules in
    grows_more (g.I.Inlet.bytes c.args.input.now) (g.I.Inlet.bytes c.reads.input) (g.I.Inlet.bytes c.read_piece.new.input) c.args.batch.now.items held held given c.reads.invariant.grows c.in_ok-n.ensures.bytes
    (sym (append-nil held) ∙ ap (λ (t : List ℕ). held ++ t) (sym none))

pub reads-preserved : goal.reads-preserved
reads-preserved g c =
    let held = c.reads.batch.items in
    let given = take c.in_ok-n.n c.read_piece.new.piece in
    let after = c.extend_from_slice.new.self.items in
    let is : after ≡ held ++ given = search rules in
    record {
      grows = grows_more (g.I.Inlet.bytes c.args.input.now) (g.I.Inlet.bytes c.reads.input) (g.I.Inlet.bytes c.read_piece.new.input) c.args.batch.now.items held after given c.reads.invariant.grows c.in_ok-n.ensures.bytes is;
      unbroken = search rules;
      room = c.read_piece.ensures.room ∙ c.reads.invariant.room;
      few = λ low. omega (arith, ap length is, length-append held given, length-take-le c.in_ok-n.n c.read_piece.new.piece c.in_ok-n.ensures.bound, c.in_ok-n.ensures.bound, c.read_piece.ensures.room, c.reads.invariant.room);
    }
