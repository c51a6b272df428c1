use Rattle.std.proofs.Common.{◌++◌, drop}
use Rattle.price_core.specs.Limits.{limits_view}
use Rattle.transport_core.specs.Certificate.{beta_view}
use Rattle.picture.specs.Changes.{variant_end, variant_told}
use Rattle.picture.specs.Told.{foot, rows_told, told}
use Rattle.picture.proofs.Remaining.{Stands}
use Rattle.picture.proofs.variants.add_rows.Given as goal

-- the rows that are left
abbrev pub invariant-loop-limit : goal.invariant-loop-limit
invariant-loop-limit l =
    let limits = limits_view l.limits in
    let row = variant_told limits l.change.old.now l.change.new.now (beta_view l.change.certificate.now.beta.items) in
    Stands row variant_end l.row (limits_view (drop l.limit-index l.limits)) (told l.elements.items) (told l.fn.elements.items ++ rows_told row variant_end l.y limits) (foot variant_end l.y limits)
