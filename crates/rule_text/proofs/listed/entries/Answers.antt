use Rattle.std.proofs.Common.{◌≡◌, ◌-◌, ◌<◌, length, Some, None, sym, ap, ◌∙◌, arith, rules}
use Rattle.json.specs.Json.{parse_map, after_end_array, items, value}
use Rattle.serde_json.specs.Read.{converted}
use Rattle.rule_text.specs.Lent.{lent_entry, lent_view}
use Rattle.rule_text.specs.Listed.{bucket_in, buckets_in}
use Rattle.rule_text.proofs.Turns.{before, one_more, all_read, none_before, one_more_before, whole_before}
use Rattle.rule_text.proofs.listed.entries.Goals as goal

pub entries-init : goal.entries-init
entries-init c =
    let all = converted buckets_in (items (value 126) (length c.args.reader.now) c.args.reader.now) in
    (length c.args.reader.now, omega arith, none_before all ∙ ap (λ vs. parse_map (before (lent_view vs)) all) (sym c.new-found.ensures.items))

pub entries-preserved : goal.entries-preserved
entries-preserved c =
    let l = c.entries in
    let n = l.invariant.0 in
    let going : (after_end_array l.reader ≡ None) × (c.take_end_array.new.self ≡ l.reader) = grind arith in
    let e = c.in-Some.next in
    let r = c.entry.new.reader in
    let got : converted bucket_in (value 126 c.take_end_array.new.self) ≡ Some (lent_entry e, r) = search rules in
    let shorter : length r < length c.take_end_array.new.self = search rules in
    let less : length r < length l.reader = rw (← going.1) shorter in
    let turn = one_more n l.reader r (lent_entry e) (omega (arith, l.invariant.1)) going.0 (rw (← going.1) got) in (
      n - 1,
      omega (arith, l.invariant.1),
      l.invariant.2 ∙ ap (parse_map (before (lent_view l.found.items))) turn ∙ one_more_before l.found.items e _
          ∙ ap (λ vs. parse_map (before (lent_view vs)) (converted buckets_in (items (value 126) (n - 1) r))) (sym c.in_ok-push.ensures.items),
    )

pub returns : goal.returns
returns c =
    let l = c.entries in
    let n = l.invariant.0 in
    let r = c.take_end_array.new.self in
    l.invariant.2 ∙ ap (parse_map (before (lent_view l.found.items))) (all_read n l.reader r l.invariant.1 (grind arith)) ∙ whole_before (lent_view l.found.items) r
