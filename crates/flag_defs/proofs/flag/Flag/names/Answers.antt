use Rattle.std.proofs.Common.{◌≡◌, List, Vec, Global, String, string_bytes, map, refl, sym, subst, ap, ◌∙◌}
use Rattle.std.specs.Cmp.Lexicographic.{slice_cmp}
use Rattle.std.specs.List.Sorted.{IsStrictlySortedBy}
use Rattle.std.specs.Ordering.{nat_cmp}
use Rattle.std.proofs.lemmas.Result.{IfOk-weaker}
use Rattle.flag_text.specs.Shape.{no_members}
use Rattle.flag_text.specs.View.{members_view}
use Rattle.flag_defs.specs.Flag.{member_names, rules_view}
use Rattle.flag_defs.proofs.Lawful.{rising_rules}
use Rattle.flag_defs.proofs.Meant.{rising_names}
use Rattle.flag_defs.proofs.flag.Flag.names.Goals as goal

pub returns-in-Some-clause-rising : goal.returns-in-Some-clause-rising
returns-in-Some-clause-rising c =
    let rules = c.in-Some.rules in
    let rise = rising_names (members_view rules.variants.items) (rising_rules (rules_view rules) rules.lawful) in
    let named : Vec (String Global) Global → Type 0 = λ v. map string_bytes v.items ≡ member_names (members_view c.as_slice.result.now) in
    let rising : Vec (String Global) Global → Type 0 = λ v. IsStrictlySortedBy (slice_cmp nat_cmp) (map string_bytes v.items) in
    IfOk-weaker c.names_of.result named rising (λ v e. subst (IsStrictlySortedBy (slice_cmp nat_cmp)) (sym (e ∙ ap (λ ms. member_names (members_view ms)) c.as_slice.ensures.value)) rise) c.names_of.ensures

pub returns-in-None-clause-rising : goal.returns-in-None-clause-rising
returns-in-None-clause-rising c = subst (λ (xs : List (String Global)). IsStrictlySortedBy (slice_cmp nat_cmp) (map string_bytes xs)) (sym c.new.ensures.items) (rising_names no_members refl)
