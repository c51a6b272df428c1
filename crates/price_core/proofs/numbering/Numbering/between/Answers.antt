use Rattle.std.proofs.Common.{◌≡◌, ◌-◌, sym, ◌∙◌, subst, drop, arith}
use Rattle.price_core.specs.Numbering.{AreBetween, IsNumbering}
use Rattle.price_core.specs.Pricing.{change_view, entries_view}
use Rattle.price_core.proofs.Numbered.{one_before, found_more, found_none}
use Rattle.price_core.proofs.numbering.Numbering.between.Goals as goal

pub loop-left-preserved-in_ok-insert : goal.loop-left-preserved-in_ok-insert
loop-left-preserved-in_ok-insert g c =
    let l = c.loop-left in
    let e = c.index-entries-left.result in
    let entries = c.args.entries.now in
    let i = l.left - 1 in
    record {
      inside = omega (arith, l.invariant.inside);
      found = subst (λ es. AreBetween c.args.self.now es c.insert.new.self) (sym (one_before entries l.left i e (omega arith) (omega (arith, l.invariant.inside)) c.index-entries-left.is))
          (found_more c.args.self.now (entries_view (drop l.left entries)) l.by_numbers c.insert.new.self (change_view e.0) e.1 c.in-Some.pair (subst IsNumbering c.self.view_is c.self.invariant)
          (sym c.pair.ensures ∙ c.in-Some.is) c.in_ok-insert.ensures.updates.0 l.invariant.found);
    }

pub loop-left-preserved : goal.loop-left-preserved
loop-left-preserved g c =
    let l = c.loop-left in
    let e = c.index-entries-left.result in
    let entries = c.args.entries.now in
    let i = l.left - 1 in
    record {
      inside = omega (arith, l.invariant.inside);
      found = subst (λ es. AreBetween c.args.self.now es l.by_numbers) (sym (one_before entries l.left i e (omega arith) (omega (arith, l.invariant.inside)) c.index-entries-left.is))
          (found_none c.args.self.now (entries_view (drop l.left entries)) l.by_numbers (change_view e.0) e.1 (sym c.pair.ensures ∙ c.in_default.is) l.invariant.found);
    }

pub returns-clause-found : goal.returns-clause-found
returns-clause-found g c =
    let l = c.loop-left in
    let at_front : l.left ≡ 0 = omega (arith, c.loop-left-test.false) in
    subst (λ n. AreBetween c.args.self.now (entries_view (drop n c.args.entries.now)) l.by_numbers) at_front l.invariant.found

pub returns-clause-lawful : goal.returns-clause-lawful
returns-clause-lawful g c = subst IsNumbering c.self.view_is c.self.invariant
