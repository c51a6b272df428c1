use Rattle.std.proofs.Common.{◌≡◌, ◌==◌, true, false, not, ap, ◌∙◌, length, arith}
use Rattle.std.proofs.lemmas.Bool.{eq-eqb, ne_eqb}
use Rattle.price_core.proofs.Numbered.{Rules, read_at, same_bar, other_bar, bar_found}
use Rattle.price_core.proofs.switching.Switching.forbidden.Goals as goal

pub returns-then-from-to : goal.returns-then-from-to
returns-then-from-to c =
    let s = c.self.inside in
    let from = c.index-from.result.now in
    let to = c.index-to.result.now in
    let differ : not (from == to) ≡ true = ap not (ne_eqb from to c.if-from-to.true) in
    bar_found s.old.now s.new.now s.prices.now s.old_numbers.items s.new_numbers.items s.by_numbers s.barred c.args.self.now c.args.i c.args.j from to c.contains_key.result c.self.invariant c.self.view_is
    (read_at s.old_numbers.items c.args.i from (omega (arith, c.requires.from, ap (λ (w : Rules). length w.0) c.self.view_is, c.self.invariant.old_many)) c.index-from.ensures) (read_at s.new_numbers.items c.args.j to (omega (arith, c.requires.to, ap (λ (w : Rules). length w.1) c.self.view_is, c.self.invariant.new_many)) c.index-to.ensures) (c.contains_key.ensures ∙ other_bar s.barred from to differ)

pub returns-else-from-to : goal.returns-else-from-to
returns-else-from-to c =
    let s = c.self.inside in
    let from = c.index-from.result.now in
    let to = c.index-to.result.now in
    let same : not (from == to) ≡ false = ap not (eq-eqb from to c.if-from-to.false) in
    bar_found s.old.now s.new.now s.prices.now s.old_numbers.items s.new_numbers.items s.by_numbers s.barred c.args.self.now c.args.i c.args.j from to (not (from == to)) c.self.invariant c.self.view_is
    (read_at s.old_numbers.items c.args.i from (omega (arith, c.requires.from, ap (λ (w : Rules). length w.0) c.self.view_is, c.self.invariant.old_many)) c.index-from.ensures) (read_at s.new_numbers.items c.args.j to (omega (arith, c.requires.to, ap (λ (w : Rules). length w.1) c.self.view_is, c.self.invariant.new_many)) c.index-to.ensures) (same_bar s.barred from to same)
