use Rattle.std.proofs.Common.{◌≡◌, ◌++◌, ℕ, ap, ◌∙◌, subst}
use Rattle.bucket_core.specs.Rule.{names_view}
use Rattle.picture.specs.Deficits.{bar_end, limits_told, none_told, set_end}
use Rattle.picture.specs.Spelling.{Adds}
use Rattle.picture.specs.Told.{bar_told, told}
use Rattle.picture.proofs.Telling.{four}
use Rattle.picture.proofs.none.draw_none.Goals as goal

pub returns-clause-adds : goal.returns-clause-adds
unfolding Adds none_told
returns-clause-adds c =
    let d = c.args.deficit.now in
    let names = names_view d.cut.now.names.items in
    let top : c.in_ok-behind_set.behind_set ≡ set_end 170 names = rw c.as_slice.ensures.value at c.in_ok-behind_set.ensures.below in
    let set = rw (c.entries-limits.ensures.value, c.as_slice.ensures.value) at c.in_ok-behind_set.ensures.told in
    let bar = subst (λ (n : ℕ). told c.add_rule.new.elements.items ≡ told c.add_set.new.elements.items ++ bar_told d.totals.now n d.old.now) top (rw c.entries-limits.ensures.value at c.in_ok-behind_bar.ensures.told) in
    let limits = subst (λ (n : ℕ). told c.add_limits.new.elements.items ≡ told c.add_rule.new.elements.items ++ limits_told d.old.now d.totals.now n) (c.in_ok-behind_bar.ensures.below ∙ ap bar_end top) (rw c.entries-limits.ensures.value at c.in_ok-height.ensures.told) in
    let items = four (told c.new-elements.result.items) (told c.add_head.new.elements.items) (told c.add_set.new.elements.items) (told c.add_rule.new.elements.items) (told c.add_limits.new.elements.items) _ _ _ _
    (ap told c.new-elements.ensures.items) c.in_ok-add_head.ensures set bar limits in
    (c.as_slice-2.result.now, c.in_ok-place.ensures.all, ap told c.as_slice-2.ensures.value ∙ items)
