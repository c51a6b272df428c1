use Rattle.std.proofs.Common.{◌≡◌, ◌++◌, ℕ, ap, ◌∙◌, subst}
use Rattle.std.specs.Map.{keys_of}
use Rattle.picture.specs.Changes.{change_told, table_told}
use Rattle.picture.specs.Spelling.{Adds}
use Rattle.picture.specs.Told.{told}
use Rattle.picture.proofs.Telling.{four}
use Rattle.picture.proofs.change.draw_change.Goals as goal

pub returns-clause-adds : goal.returns-clause-adds
unfolding Adds change_told
returns-clause-adds c =
    let change = c.args.change.now in
    let top = rw c.entries-limits.ensures.value at c.in_ok-below.ensures.below in
    let table = subst (λ (n : ℕ). told c.add_table.new.elements.items ≡ told c.add_variants.new.elements.items ++ table_told change.prices.now (keys_of change.totals.now) change.table.now n) top (rw c.entries-limits.ensures.value at c.in_ok-height.ensures.told) in
    let bars = rw c.entries-limits.ensures.value at c.in_ok-add_bars.ensures in
    let variants = rw c.entries-limits.ensures.value at c.in_ok-below.ensures.told in
    let items = four (told c.new-elements.result.items) (told c.add_head.new.elements.items) (told c.add_bars.new.elements.items) (told c.add_variants.new.elements.items) (told c.add_table.new.elements.items) _ _ _ _
    (ap told c.new-elements.ensures.items) c.in_ok-add_head.ensures bars variants table in
    (c.as_slice.result.now, c.in_ok-place.ensures.all, ap told c.as_slice.ensures.value ∙ items)
