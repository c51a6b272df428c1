-- one cell has more
use Rattle.std.proofs.Common.{◌≡◌, ◌+◌, ◌<◌, ◌^◌, List, get_or, length, set, sym, ap, subst, arith}
use Rattle.std.proofs.lemmas.List.{get_or_read}
use Rattle.price_core.specs.Cost.{name_at}
use Rattle.rule_switches.specs.Counting.{Adds, Counted, IsPlace, no_cell}
use Rattle.rule_switches.specs.declared.counting.Cell.{Cell}
use Rattle.rule_switches.proofs.Placed.{adds_more, named_by, placed_by, still_counting}
use Rattle.rule_switches.proofs.counting.Counting.add.Goals as goal

pub invariant_of-self : goal.invariant_of-self
invariant_of-self c =
    let k : Counted = record { before = c.self.inside.before.now; after = c.self.inside.after.now; span = c.self.inside.span; inputs = c.self.inside.inputs; cells = c.self.inside.cells.items } in
    let from = c.entry_at-from.result in
    let to = c.entry_at-to.result in
    let users = c.args.users in
    let d : Cell = record { from = from; to = to; users = c.index.result.now.users + users } in
    let place : IsPlace k c.args.before c.args.after = subst (λ (s : Counted). IsPlace s c.args.before c.args.after) (sym c.self.view_is) c.requires.place in
    let here = placed_by k c.args.before c.args.after from to (c.index.result.now.users + users) place c.entry_at-from.ensures.value c.entry_at-to.ensures.value c.entry_at-from.ensures.within c.entry_at-to.ensures.within in
    let inside : from + to < length k.cells = omega (arith, c.entry_at-from.ensures.within, c.entry_at-to.ensures.within, c.self.invariant.long) in
    let had : c.index.result.now ≡ get_or k.cells (from + to) no_cell = get_or_read k.cells (from + to) c.index.result.now inside c.index.ensures no_cell in
    still_counting k (from + to) users d c.self.invariant inside here (ap (λ (e : Cell). e.users + users) had) (omega (arith, c.requires.room, ap (λ (s : Counted). s.inputs) c.self.view_is))

pub returns : goal.returns
returns c =
    let k : Counted = record { before = c.self.inside.before.now; after = c.self.inside.after.now; span = c.self.inside.span; inputs = c.self.inside.inputs; cells = c.self.inside.cells.items } in
    let p = c.args.before in
    let q = c.args.after in
    let from = c.entry_at-from.result in
    let to = c.entry_at-to.result in
    let users = c.args.users in
    let d : Cell = record { from = from; to = to; users = c.index.result.now.users + users } in
    let t : Counted = record { before = k.before; after = k.after; span = k.span; inputs = k.inputs + users; cells = set k.cells (from + to) d } in
    let place : IsPlace k p q = subst (λ (s : Counted). IsPlace s p q) (sym c.self.view_is) c.requires.place in
    let here = placed_by k p q from to (c.index.result.now.users + users) place c.entry_at-from.ensures.value c.entry_at-to.ensures.value c.entry_at-from.ensures.within c.entry_at-to.ensures.within in
    let inside : from + to < length k.cells = omega (arith, c.entry_at-from.ensures.within, c.entry_at-to.ensures.within, c.self.invariant.long) in
    let had : c.index.result.now ≡ get_or k.cells (from + to) no_cell = get_or_read k.cells (from + to) c.index.result.now inside c.index.ensures no_cell in
    let named = named_by k.before k.after p q from to (c.index.result.now.users + users) c.entry_at-from.ensures.name c.entry_at-to.ensures.name in
    let adds : Adds k t (name_at k.before p, name_at k.after q) users = adds_more k (from + to) users d c.self.invariant inside here (ap (λ (e : Cell). e.users + users) had) (name_at k.before p, name_at k.after q) named in
    subst (λ (s : Counted). Adds s t (name_at s.before p, name_at s.after q) users) c.self.view_is adds
