use Rattle.std.proofs.Common.{◌≡◌, ◌+◌, List, true, false, codes, drop, rules, string_bytes, sym, ap, ◌∙◌, arith}
use Rattle.std.specs.Str.{bytes_eq}
use Rattle.std.proofs.lemmas.List.{drop_all}
use Rattle.flag_text.proofs.Views.{Named}
use Rattle.flag_text.specs.View.{view, members_view}
use Rattle.ramp.specs.Steps.{with_totals}
use Rattle.ramp.proofs.Requests.{before_none, kept, members_before, put}
use Rattle.ramp.proofs.request.with_totals.Goals as goal

pub returns-then-eq : goal.returns-then-eq
returns-then-eq c =
    let xs = c.args.members.now in
    let out = c.loop-name.request.items in
    let x = c.loop-name-item.result in
    let y : Named = (c.in_ok-name.name, c.in_ok-copy.field-0) in
    let steps : bytes_eq (string_bytes x.0) (codes "steps") ≡ true = ap (λ s. bytes_eq s (codes "steps")) (sym c.as_str.ensures.value) ∙ sym c.eq.ensures ∙ c.if-eq.true in
    ap members_view c.in_ok-push.ensures.items ∙ put (view c.args.totals.now) xs out c.loop-name.name-index x y (omega arith) c.loop-name-item.is c.in_ok-name.ensures.ok c.in_ok-copy.ensures steps c.loop-name.invariant

pub loop-name-preserved : goal.loop-name-preserved
loop-name-preserved c =
    let xs = c.args.members.now in
    let out = c.loop-name.request.items in
    let x = c.loop-name-item.result in
    let y : Named = (c.in_ok-name-2.name, c.in_ok-copy-2.field-0) in
    let other : bytes_eq (string_bytes x.0) (codes "steps") ≡ false = ap (λ s. bytes_eq s (codes "steps")) (sym c.as_str.ensures.value) ∙ sym c.eq.ensures ∙ c.if-eq.false in
    let same : string_bytes y.0 ≡ string_bytes x.0 = search rules in
    kept (view c.args.totals.now) xs out c.loop-name.name-index x y (omega arith) c.loop-name-item.is same c.in_ok-copy-2.ensures other c.loop-name.invariant
    ∙ ap (λ ms. members_before ms (with_totals (view c.args.totals.now) (members_view (drop (c.loop-name.name-index + 1) xs)))) (sym c.in_ok-push-2.ensures.items)

pub returns : goal.returns
returns c =
    let xs = c.args.members.now in
    let out = c.loop-name.request.items in
    sym (c.loop-name.invariant ∙ ap (λ (ms : List Named). members_before out (with_totals (view c.args.totals.now) (members_view ms))) (drop_all c.loop-name.name-index xs (omega arith)) ∙ before_none out)
