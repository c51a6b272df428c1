use Rattle.std.proofs.Common.{◌≡◌, string_bytes, sym, ap, ◌∙◌, arith}
use Rattle.std.specs.Map.{keys_of}
use Rattle.std.proofs.lemmas.Slice.Eq.{bytes_eq-Decides}
use Rattle.price_core.specs.Limits.{limits_view}
use Rattle.rule_switches.specs.Table.{name_of}
use Rattle.rule_switches.proofs.TablePlacing.{key_at, long_keys, next_differs}
use Rattle.rule_switches.proofs.table.place_of.Goals as goal

pub returns-then-eq : goal.returns-then-eq
returns-then-eq c =
    let names = c.args.names.now in
    let here : name_of (keys_of (limits_view names)) c.loop-i.i ≡ c.as_str.result.now =
    key_at names c.loop-i.i c.index-names-i.result c.loop-i-test.true ∙ (ap (λ l. string_bytes l.name) (sym c.index-names-i.is) ∙ sym c.as_str.ensures.value) in
    (omega (arith, c.loop-i-test.true, long_keys names), here ∙ (bytes_eq-Decides c.as_str.result.now c.args.name.now).0 (sym c.eq.ensures ∙ c.if-eq.true))

pub loop-i-preserved : goal.loop-i-preserved
loop-i-preserved c =
    let names = c.args.names.now in
    let here : name_of (keys_of (limits_view names)) c.loop-i.i ≡ c.as_str.result.now =
    key_at names c.loop-i.i c.index-names-i.result c.loop-i-test.true ∙ (ap (λ l. string_bytes l.name) (sym c.index-names-i.is) ∙ sym c.as_str.ensures.value) in
    next_differs (keys_of (limits_view names)) c.args.name.now c.loop-i.i c.loop-i.invariant
    (λ same. let t = sym c.if-eq.false ∙ (c.eq.ensures ∙ (bytes_eq-Decides c.as_str.result.now c.args.name.now).1 (sym here ∙ same)) in cc)
