use Rattle.std.proofs.Common.{◌≡◌, ℕ, ◌+◌, List, ap, sym, ◌∙◌, arith}
use Rattle.std.specs.BTreeMap.{BTreeMap, insert_entry}
use Rattle.std.specs.Borrow.{Bor}
use Rattle.std.specs.Option.{option_copied_mut}
use Rattle.transport_core.specs.Rows.{totals_view}
use Rattle.transport_core.proofs.Joined.{passed}
use Rattle.transport_core.proofs.NameTotals.{Lent, name_cmp, has_name, has_same, found-le, passed-insert, passed-set}
use Rattle.transport_core.proofs.totals.add_points.Goals as goal

pub overflow_add-total : goal.overflow_add-total
overflow_add-total c = omega (arith, found-le (has_name c.args.name.now) c.args.totals.now.entries c.in-Some.total.now (sym c.get_mut.ensures.value ∙ ap option_copied_mut c.in-Some.is), c.requires)

pub returns-in-Some : goal.returns-in-Some
returns-in-Some c = λ test.
    ap (λ (es : List Lent). passed test (totals_view es)) (c.get_mut.follows.holds (c.in-Some.total.now + c.args.points)).0
    ∙ passed-set test c.args.name.now (has_name c.args.name.now) (has_same c.args.name.now) c.args.totals.now.entries c.in-Some.total.now c.args.points (sym c.get_mut.ensures.value ∙ ap option_copied_mut c.in-Some.is)

pub returns : goal.returns
returns c = λ test.
    let kept : c.get_mut.follows.lender-at-none.entries ≡ c.args.totals.now.entries = ap (λ (m : BTreeMap (Bor (List ℕ)) ℕ). m.entries) c.get_mut.follows.holds-at-none in
    let put : c.insert.new.self.entries ≡ insert_entry name_cmp c.args.totals.now.entries c.args.name c.args.points =
    c.in_ok-insert.ensures.entries ∙ ap (λ (es : List Lent). insert_entry name_cmp es c.args.name c.args.points) kept in
    ap (λ (es : List Lent). passed test (totals_view es)) put
    ∙ passed-insert test c.args.totals.now.entries c.args.name c.args.points (sym c.get_mut.ensures.value ∙ ap option_copied_mut c.in_default.is)
