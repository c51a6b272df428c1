use Rattle.std.proofs.Common.{subst}
use Rattle.price_core.specs.Numbering.{AreBetween, AreNumbersOf}
use Rattle.price_core.specs.Pricing.{entries_view}
use Rattle.price_core.proofs.Numbered.{numbers_kept, switching_of}
use Rattle.price_core.proofs.switching.Switching.of.Goals as goal

pub invariant_of-result : goal.invariant_of-result
invariant_of-result c =
    let first = c.add_all.new.self in
    let both = c.add_all-2.new.self in
    let old = c.args.old.now in
    let new = c.args.new.now in
    let froms = c.in_ok-old_numbers.old_numbers.items in
    let tos = c.in_ok-new_numbers.new_numbers.items in
    let of_old : AreNumbersOf first old froms = c.in_ok-old_numbers.ensures.numbered in
    let of_new : AreNumbersOf both new tos = c.in_ok-new_numbers.ensures.numbered in
    let priced = subst (λ es. AreBetween both es c.in_ok-by_numbers.by_numbers) c.named.ensures.value c.in_ok-by_numbers.ensures.found in
    switching_of both old new c.args.prices.now froms tos c.in_ok-by_numbers.by_numbers c.in_ok-barred.barred (entries_view c.barred.result.now) c.in_ok-by_numbers.ensures.lawful (numbers_kept first both old froms c.in_ok-new_numbers.ensures.keeps of_old) of_new priced
    c.in_ok-barred.ensures.found c.barred.ensures
