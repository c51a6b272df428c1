use Rattle.std.proofs.Common.{◌≡◌, ◌-◌, ◌<◌, ◌∷◌, length, None, sym, ap, ◌∙◌, arith}
use Rattle.json.specs.Json.{parse_map, after_end_array, items, value}
use Rattle.json.specs.Token.{Token}
use Rattle.rule_text.specs.Texts.{texts_then, texts_view}
use Rattle.rule_text.proofs.OnlyTexts.{next_apart, rest_of}
use Rattle.rule_text.proofs.Texted.{none_before, one_more, one_more_before, all_read}
use Rattle.rule_text.proofs.texts.texts.Goals as goal

pub texts-init : goal.texts-init
texts-init c =
    let all = items (value 126) (length c.args.reader.now) c.args.reader.now in
    (length c.args.reader.now, omega arith, none_before all ∙ ap (λ vs. parse_map (texts_then (texts_view vs)) all) (sym c.new-found.ensures.items))

pub texts-preserved : goal.texts-preserved
texts-preserved c =
    let l = c.texts in
    let n = l.invariant.0 in
    let s = c.in-Some.text in
    let r = c.next_text.new.reader in
    let going : (after_end_array l.reader ≡ None) × (c.take_end_array.new.self ≡ l.reader) = grind arith in
    let next : c.take_end_array.new.self ≡ Token.string s.now ∷ r = c.in-Some.ensures in
    let here : l.reader ≡ Token.string s.now ∷ r = sym going.1 ∙ next in
    let some : 0 < n = omega (arith, l.invariant.1, ap length here) in
    let turn = ap (items (value 126) n) here ∙ one_more n s.now r some in (
      n - 1,
      omega (arith, l.invariant.1, ap length here),
      l.invariant.2 ∙ ap (parse_map (texts_then (texts_view l.found.items))) turn ∙ one_more_before l.found.items s _
          ∙ ap (λ vs. parse_map (texts_then (texts_view vs)) (items (value 126) (n - 1) r)) (sym c.in_ok-push-in-Some.ensures.items),
    )

-- what comes next is no text
pub returns-in-None : goal.returns-in-None
returns-in-None c = λ texts rest are.
    let l = c.texts in
    let n = l.invariant.0 in
    let going : (after_end_array l.reader ≡ None) × (c.take_end_array.new.self ≡ l.reader) = grind arith in
    let left = rest_of (texts_view l.found.items) texts (items (value 126) n l.reader) rest (sym l.invariant.2 ∙ are) in
    next_apart n l.reader going.0 (λ s more is. c.in-None.ensures s more (going.1 ∙ is)) left.0 rest left.1

pub returns : goal.returns
returns c =
    let l = c.texts in
    let n = l.invariant.0 in
    let r = c.take_end_array.new.self in
    l.invariant.2 ∙ ap (parse_map (texts_then (texts_view l.found.items))) (all_read n l.reader r l.invariant.1 (grind arith))
