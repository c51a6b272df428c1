use Rattle.std.proofs.Common.{◌≡◌, ◌≤◌, IfSome, sym, ap, ◌∙◌, subst}
use Rattle.std.specs.List.{All, list_all}
use Rattle.std.specs.List.Sorted.{IsStrictlySortedBy}
use Rattle.std.specs.Map.{keys_of}
use Rattle.price_core.specs.Limits.{limits_view}
use Rattle.price_core.specs.Pricing.{pair_cmp, max_price, entries_view}
use Rattle.price_core.specs.Request.{as_prices, is_range}
use Rattle.price_core.proofs.Lawful.{prices_fit, prices_keys, in_range_is, all_ranges}
use Rattle.price_core.proofs.request.judge.Goals as goal

pub of-prices-requires : goal.of-prices-requires
of-prices-requires c =
    let written = entries_view c.args.draft.named.items in
    let prices = entries_view c.in_ok-named.named.items in
    let named = in_range_is (as_prices written) prices c.in_ok-named.ensures in
    let keys : keys_of prices ≡ keys_of written = subst (λ o. IfSome o (λ ns. keys_of ns ≡ keys_of written)) named (prices_keys written) in
    record {
      usual_fits = c.in-Some.ensures.fits;
      named_fit = subst (λ o. IfSome o (All (λ e. e.1 ≤ max_price))) named (prices_fit written);
      named_rise = subst (IsStrictlySortedBy pair_cmp) (sym keys) c.requires.named_rise;
      barred_rise = c.requires.barred_rise;
    }

pub invariant_of-result : goal.invariant_of-result
invariant_of-result c = record {
  limits = record {
    rise = c.requires.totals_rise;
    ordered = all_ranges (limits_view c.args.draft.totals.items) (ap (λ ts. list_all is_range (limits_view ts)) (sym c.as_slice-2.ensures.value) ∙ (sym c.are_ranges.ensures ∙ c.if-not-are_ranges.false));
    small = c.requires.totals_small;
  };
  prices = c.of-prices.ensures.lawful;
}
