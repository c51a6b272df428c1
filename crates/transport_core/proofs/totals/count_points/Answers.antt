-- A name that has a sum has more; another is put somewhere.
use Rattle.std.proofs.Common.{◌≡◌, ℕ, ◌+◌, List, ◌∷◌, Bool, Option, None, ap, sym, ◌∙◌, subst, arith}
use Rattle.std.specs.Borrow.{Bor}
use Rattle.std.specs.HashMap.{PutsEntry}
use Rattle.std.specs.List.Sorted.{IsPermutation}
use Rattle.std.specs.Map.{lookup}
use Rattle.std.specs.Option.{option_copied_mut}
use Rattle.std.specs.Str.{bytes_eq}
use Rattle.transport_core.specs.Rows.{totals_view}
use Rattle.transport_core.proofs.Joined.{passed}
use Rattle.transport_core.proofs.NameTotals.{Lent, same_text, found-le, passed-set, passed-put}
use Rattle.transport_core.proofs.totals.count_points.Goals as goal

abbrev same : Bor (List ℕ) → Bor (List ℕ) → Bool
same a b = bytes_eq a.now b.now

pub overflow_add-sum : goal.overflow_add-sum
overflow_add-sum c = omega (arith, found-le (same c.args.name) c.args.sums.now.entries c.in-Some.sum.now (sym c.get_mut.ensures.value ∙ ap option_copied_mut c.in-Some.is), c.requires)

pub returns-in-Some : goal.returns-in-Some
returns-in-Some c = λ test.
    ap (λ (es : List Lent). passed test (totals_view es)) (c.get_mut.follows.holds (c.in-Some.sum.now + c.args.points)).0
    ∙ passed-set test c.args.name.now (same c.args.name) (λ b. same_text c.args.name.now b.now) c.args.sums.now.entries c.in-Some.sum.now c.args.points (sym c.get_mut.ensures.value ∙ ap option_copied_mut c.in-Some.is)

pub returns : goal.returns
returns c = λ test.
    let before = c.get_mut.follows.lender-at-none in
    let after = c.insert.new.self in
    let kept : before.entries ≡ c.args.sums.now.entries = ap (λ m. m.entries) c.get_mut.follows.holds-at-none in
    let absent : c.in_ok-insert.field-0 ≡ None =
    c.in_ok-insert.ensures.old ∙ (ap (λ (es : List Lent). lookup (same c.args.name) es) kept ∙ (sym c.get_mut.ensures.value ∙ ap option_copied_mut c.in_default.is)) in
    let put : IsPermutation ((c.args.name, c.args.points) ∷ before.entries) after.entries = subst (λ (o : Option ℕ). PutsEntry same before after c.args.name c.args.points o) absent c.in_ok-insert.ensures.entries in
    let more = passed-put test before.entries after.entries (c.args.name, c.args.points) put in
    let same_before = ap (λ (es : List Lent). passed test (totals_view es)) kept in
    omega (arith, more, same_before)
