use Rattle.std.proofs.Common.{◌≡◌, ◌-◌, ◌<◌, length, Some, None, sym, ap, ◌∙◌, arith}
use Rattle.json.specs.Json.{parse_map, after_end_array, items, value}
use Rattle.serde_json.specs.Read.{converted}
use Rattle.flag_text.specs.Grammar.{items_from, tree_from}
use Rattle.flagops_drive.specs.Plain.{ask_shape}
use Rattle.flagops_drive.proofs.PlainAsks.{asks_before, asks_before-no_items, none_before, one_more_ask}
use Rattle.flag_text.proofs.Turns.{item_read, items_over}
use Rattle.flagops_drive.proofs.plain_asks.listed_asks.Goals as goal

pub asks-init : goal.asks-init
asks-init c =
    let all = converted items_from (items (value 126) (length c.args.reader.now) c.args.reader.now) in
    (length c.args.reader.now, omega arith, none_before all ∙ ap (λ asks. parse_map (asks_before asks) all) (sym c.new-found.ensures.items))

pub asks-preserved : goal.asks-preserved
asks-preserved c =
    let l = c.asks in
    let n = l.invariant.0 in
    let going : (after_end_array l.reader ≡ None) × (c.take_end_array.new.self ≡ l.reader) = grind arith in
    let a = c.in_ok-ask.ask in
    let r = c.plain_ask.new.reader in
    let got : converted tree_from (value 126 c.take_end_array.new.self) ≡ Some (ask_shape a, r) = c.in_ok-ask.ensures.value in
    let less : length r < length l.reader = rw (← going.1) c.in_ok-ask.ensures.shorter in
    let turn = item_read (value 126) n l.reader r (ask_shape a) (omega (arith, l.invariant.1)) going.0 (rw (← going.1) got) in (
      n - 1,
      omega (arith, l.invariant.1),
      l.invariant.2 ∙ ap (parse_map (asks_before l.found.items)) turn ∙ one_more_ask l.found.items a _
          ∙ ap (λ asks. parse_map (asks_before asks) (converted items_from (items (value 126) (n - 1) r))) (sym c.in_ok-push.ensures.items),
    )

pub returns : goal.returns
returns c =
    let l = c.asks in
    let n = l.invariant.0 in
    let r = c.take_end_array.new.self in
    l.invariant.2 ∙ ap (parse_map (asks_before l.found.items)) (items_over (value 126) n l.reader r l.invariant.1 (grind arith)) ∙ ap (λ ts. Some (ts, r)) (asks_before-no_items l.found.items)
