use Rattle.std.proofs.Common.{◌≡◌, ◌-◌, ◌<◌, length, true, Some, None, sym, ap, ap₂, ◌∙◌, arith}
use Rattle.json.specs.Json.{parse_map, after_end_array, items, value}
use Rattle.serde_json.specs.Data as parsed
use Rattle.serde_json.specs.Read.{converted, of_items}
use Rattle.flag_text.specs.Reading.{items_shape}
use Rattle.rule_text.specs.Buckets.{found_of, so_far, with_bucket}
use Rattle.rule_text.specs.Lent.{lent_view}
use Rattle.rule_text.specs.Parts.{both}
use Rattle.rule_text.proofs.Found.{after, after_none, after_item, after_all}
use Rattle.rule_text.proofs.Readings.{item_read, item_refused, items_over, mapped_as, mapped_twice, unmapped}
use Rattle.rule_text.proofs.buckets.read_list.Goals as goal

pub buckets-init : goal.buckets-init
buckets-init c =
    let r = c.args.reader.now in
    let begun = ap₂ (λ es e. after true (lent_view es) e) (sym c.in_ok-found.ensures.items) (sym c.none-extent.ensures) in
    (length r, omega arith, mapped_as (λ ds. found_of (items_shape ds)) (after true (lent_view c.in_ok-found.found.items) c.none-extent.result) (λ ds. after_none ds ∙ ap (λ f. f ds) begun) (converted of_items (items (value 126) (length r) r)))

pub returns-in_err-bucket-clause-err : goal.returns-in_err-bucket-clause-err
returns-in_err-bucket-clause-err c refused =
    let l = c.buckets in
    let going : (after_end_array l.reader ≡ None) × (c.take_end_array.new.self ≡ l.reader) = grind arith in
    unmapped _ _ (l.invariant.2 ∙ ap (parse_map (after l.is_rule (lent_view l.found.items) l.extent)) (item_refused (value 126) l.invariant.0 l.reader going.0 (rw (← going.1) (c.read_item.ensures.err (grind arith)))))

pub buckets-preserved : goal.buckets-preserved
buckets-preserved c =
    let p = value 126 in
    let l = c.buckets in
    let n = l.invariant.0 in
    let going : (after_end_array l.reader ≡ None) × (c.take_end_array.new.self ≡ l.reader) = grind arith in
    let done = c.in_ok-bucket.ensures in
    let d = done.ok in
    let r = c.read_item.new.reader in
    let less : length r < length l.reader = rw (← going.1) done.shorter in
    let read = item_read p n l.reader r d.0 (omega (arith, l.invariant.1)) going.0 (rw (← going.1) d.1) in
    let extent = c.and-extent.ensures ∙ ap (both l.extent) (ap (λ x. x.1) d.2) in
    let kept = c.in_ok-is_rule.ensures ∙ ap (with_bucket (so_far l.is_rule (lent_view l.found.items))) (ap (λ x. x.0) d.2) in (
      n - 1,
      omega (arith, l.invariant.1),
      l.invariant.2 ∙ ap (parse_map (after l.is_rule (lent_view l.found.items) l.extent)) read
          ∙ mapped_twice (after l.is_rule (lent_view l.found.items) l.extent) (parsed.item d.0) (after _ (lent_view c.keep.new.found.items) c.and-extent.result) (after_item l.is_rule _ (lent_view l.found.items) (lent_view c.keep.new.found.items) l.extent c.and-extent.result d.0 kept extent) (converted of_items (items p (n - 1) r)),
    )

pub returns-clause-ok : goal.returns-clause-ok
returns-clause-ok c =
    let l = c.buckets in
    let r = c.take_end_array.new.self in
    l.invariant.2 ∙ ap (parse_map (after l.is_rule (lent_view l.found.items) l.extent)) (items_over (value 126) l.invariant.0 l.reader r l.invariant.1 (grind arith))
    ∙ ap (λ f. Some (f, r)) (after_all l.is_rule (lent_view l.found.items) l.extent ∙ ap₂ (λ o e. (o, e)) (sym c.found_if.ensures) (sym c.around.ensures))
