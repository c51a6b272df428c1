use Rattle.std.proofs.Common.{unwrap_or, ap, ◌∙◌, subst, length, arith}
use Rattle.price_core.specs.Pricing.{IsPricing}
use Rattle.price_core.proofs.Cursors.{entry_named, name_in}
use Rattle.price_core.proofs.Numbered.{Rules, same_price, other_price, read_at, price_found}
use Rattle.price_core.proofs.Pricings.{price_small}
use Rattle.price_core.proofs.switching.Switching.price.Goals as goal

pub returns-then-from-to-clause-value : goal.returns-then-from-to-clause-value
returns-then-from-to-clause-value c =
    let s = c.self.inside in
    let from = c.index-from.result.now in
    let to = c.index-to.result.now in
    price_found s.old.now s.new.now s.prices.now s.old_numbers.items s.new_numbers.items s.by_numbers s.barred c.args.self.now c.args.i c.args.j from to 0 c.self.invariant c.self.view_is
    (read_at s.old_numbers.items c.args.i from (omega (arith, c.requires.from, ap (λ (w : Rules). length w.0) c.self.view_is, c.self.invariant.old_many)) c.index-from.ensures) (read_at s.new_numbers.items c.args.j to (omega (arith, c.requires.to, ap (λ (w : Rules). length w.1) c.self.view_is, c.self.invariant.new_many)) c.index-to.ensures) (same_price s.prices.now.usual s.by_numbers from to c.if-from-to.true)

pub returns-clause-value : goal.returns-clause-value
returns-clause-value c =
    let s = c.self.inside in
    let from = c.index-from.result.now in
    let to = c.index-to.result.now in
    let found = c.unwrap_or.ensures ∙ (λ i. unwrap_or ((c.copied.ensures ∙ c.get.ensures.value) i) (c.usual-usual.ensures.value i)) in
    price_found s.old.now s.new.now s.prices.now s.old_numbers.items s.new_numbers.items s.by_numbers s.barred c.args.self.now c.args.i c.args.j from to c.unwrap_or.result c.self.invariant c.self.view_is
    (read_at s.old_numbers.items c.args.i from (omega (arith, c.requires.from, ap (λ (w : Rules). length w.0) c.self.view_is, c.self.invariant.old_many)) c.index-from.ensures) (read_at s.new_numbers.items c.args.j to (omega (arith, c.requires.to, ap (λ (w : Rules). length w.1) c.self.view_is, c.self.invariant.new_many)) c.index-to.ensures) (found ∙ other_price s.prices.now.usual s.by_numbers from to c.if-from-to.false)

pub returns-clause-small : goal.returns-clause-small
returns-clause-small c =
    let old = c.args.self.now.0 in
    let new = c.args.self.now.1 in
    let value = returns-clause-value c (name_in old c.args.i) (name_in new c.args.j) (entry_named old c.args.i c.requires.from) (entry_named new c.args.j c.requires.to) in
    let lawful = subst (λ (w : Rules). IsPricing w.2) c.self.view_is c.usual-usual.ensures.lawful in
    omega (arith, value, price_small c.args.self.now.2 (name_in old c.args.i) (name_in new c.args.j) lawful)
