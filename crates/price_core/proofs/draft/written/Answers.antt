use Rattle.std.proofs.Common.{◌<◌, ◌^◌, IfSome, subst}
use Rattle.std.specs.Cmp.Lexicographic.{slice_cmp}
use Rattle.std.specs.List.{All}
use Rattle.std.specs.List.Sorted.{IsStrictlySortedBy}
use Rattle.std.specs.Map.{keys_of}
use Rattle.std.specs.Ordering.{nat_cmp}
use Rattle.flag_text.specs.View.{view}
use Rattle.price_core.specs.Limits.{limits_view}
use Rattle.price_core.specs.Request.{totals_in}
use Rattle.price_core.proofs.Lawful.{written_is, totals_rise, totals_small}
use Rattle.price_core.proofs.draft.written.Goals as goal

pub returns-clause-lawful : goal.returns-clause-lawful
returns-clause-lawful c =
    let t = view c.args.tree.now in
    let ranges = c.in_ok-ranges.ranges in
    let totals = written_is (totals_in ranges t) (limits_view c.in_ok-totals.totals.items) c.in_ok-totals.ensures in
    record {
      totals_rise = subst (λ o. IfSome o (λ ls. IsStrictlySortedBy (slice_cmp nat_cmp) (keys_of ls))) totals (totals_rise ranges t c.requires);
      totals_small = subst (λ o. IfSome o (All (λ l. l.1.1 < 2 ^ 31))) totals (totals_small ranges t);
      named_rise = c.in_ok-named.ensures.rise;
      barred_rise = c.in_ok-barred.ensures.rise;
    }
