use Rattle.std.proofs.Common.{◌≡◌, ℕ, ◌+◌, ◌<◌, List, map, Option, ap, sym, ◌∙◌, subst, arith}
use Rattle.std.specs.BTreeMap.{BTreeMap, insert_entry}
use Rattle.std.specs.List.{All}
use Rattle.std.specs.Option.{option_copied_mut}
use Rattle.price_core.specs.Pricing.{lent_entry}
use Rattle.price_core.proofs.Inserts.{all_insert}
use Rattle.rule_switches.specs.Counting.{passed}
use Rattle.rule_switches.proofs.Counts.{some_set}
use Rattle.rule_switches.proofs.Listed.{Lent, found-le, is_of, lent_cmp, passed-insert, passed-set}
use Rattle.rule_switches.proofs.rows.add_switch.Goals as goal

pub overflow_add-number : goal.overflow_add-number
overflow_add-number c = omega (arith, found-le (is_of (c.args.from, c.args.to)) c.args.rows.now.entries c.in-Some.number.now (sym c.get_mut.ensures.value ∙ ap option_copied_mut c.in-Some.is), c.requires)

pub returns-in-Some-clause-numbers : goal.returns-in-Some-clause-numbers
returns-in-Some-clause-numbers c = λ test.
    let had = c.args.rows.now.entries in
    let key : Lent = (c.args.from, c.args.to) in
    let found = sym c.get_mut.ensures.value ∙ ap option_copied_mut c.in-Some.is in
    ap (λ (es : List (Lent × ℕ)). passed test (map lent_entry es)) (c.get_mut.follows.holds (c.in-Some.number.now + c.args.users)).0 ∙ passed-set test key had c.in-Some.number.now c.args.users found

pub returns-in-Some-clause-some : goal.returns-in-Some-clause-some
returns-in-Some-clause-some c = λ more all.
    subst (λ (es : List (Lent × ℕ)). All (λ e. 0 < e.1) es) (sym (c.get_mut.follows.holds (c.in-Some.number.now + c.args.users)).0)
    (some_set (is_of (c.args.from, c.args.to)) c.args.rows.now.entries (c.in-Some.number.now + c.args.users) (omega (arith, more)) all)

pub returns-clause-numbers : goal.returns-clause-numbers
returns-clause-numbers c = λ test.
    let had = c.args.rows.now.entries in
    let key : Lent = (c.args.from, c.args.to) in
    let kept : c.get_mut.follows.lender-at-none.entries ≡ had = ap (λ (m : BTreeMap Lent ℕ). m.entries) c.get_mut.follows.holds-at-none in
    let put : c.insert.new.self.entries ≡ insert_entry lent_cmp had key c.args.users =
    c.in_ok-insert.ensures.entries ∙ ap (λ (es : List (Lent × ℕ)). insert_entry lent_cmp es key c.args.users) kept in
    let none = sym c.get_mut.ensures.value ∙ ap option_copied_mut c.in_default.is in
    ap (λ (es : List (Lent × ℕ)). passed test (map lent_entry es)) put ∙ passed-insert test key had c.args.users none

pub returns-clause-some : goal.returns-clause-some
returns-clause-some c = λ more all.
    let had = c.args.rows.now.entries in
    let key : Lent = (c.args.from, c.args.to) in
    let kept : c.get_mut.follows.lender-at-none.entries ≡ had = ap (λ (m : BTreeMap Lent ℕ). m.entries) c.get_mut.follows.holds-at-none in
    let put : c.insert.new.self.entries ≡ insert_entry lent_cmp had key c.args.users =
    c.in_ok-insert.ensures.entries ∙ ap (λ (es : List (Lent × ℕ)). insert_entry lent_cmp es key c.args.users) kept in
    subst (λ (es : List (Lent × ℕ)). All (λ e. 0 < e.1) es) (sym put) (all_insert lent_cmp (λ n. 0 < n) had key c.args.users more all)
