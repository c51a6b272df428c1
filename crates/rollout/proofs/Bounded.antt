-- What a lawful request asks is small enough to be planned on.
use Rattle.std.proofs.Common.{◌≡◌, ℕ, suc, ◌*◌, ◌≤◌, List, [], ◌∷◌, length, Bool, true, false, ◌&&◌, ◌||◌, ◌<◌, ◌⊎◌, ⊎_elim, sum_by, cond, nat_lt, nat_le, Option, Some, None, IfSome, Result, Ok, Err, Less, Equal, Greater, Ordering, refl, sym, ap, ◌∙◌, subst, arith}
use Rattle.std.specs.BTreeMap.{insert_entry}
use Rattle.std.specs.Cmp.Lexicographic.{slice_cmp}
use Rattle.std.specs.Map.{lookup}
use Rattle.std.specs.Ordering.{match_ordering, nat_cmp}
use Rattle.std.specs.Str.{bytes_eq}
use Rattle.std.proofs.lemmas.Bool.{ltb-false, leb-true}
use Rattle.std.proofs.lemmas.Map.Entries.{All-lookup}
use Rattle.flag_text.proofs.Bools.{left, right}
use Rattle.flag_text.specs.Shape.{Members, no_members, member}
use Rattle.bucket_core.specs.Rule.{Entries, total_weight, refinement}
use Rattle.bucket_core.proofs.Refined.{total_weight-refinement}
use Rattle.logic_ast.specs.Expression.{Expression}
use Rattle.logic_ast.specs.Sites.{parts_at}
use Rattle.flag_defs.specs.Definition.{Definition, broken, good, member_count, are_variants}
use Rattle.flag_defs.specs.Document.{Definitions}
use Rattle.flag_defs.specs.Flag.{member_names, variant_names, targeting_in, is_definition}
use Rattle.flag_defs.specs.Flags.{AreFlags}
use Rattle.book_core.specs.Book.{Contents, Inputs, inputs_on}
use Rattle.book_core.specs.Site.{page_at}
use Rattle.price_core.specs.Limits.{Limits, limits_of}
use Rattle.price_core.specs.Request.{Asked, limits_on, all_known}
use Rattle.price_core.specs.declared.fault.PriceFault.TheVariants as price
use Rattle.note_tallies.specs.Tally.{PageTally}
use Rattle.transport_core.specs.Instance.{AreListed, MissTotal, max_planned_total, max_names}
use Rattle.rollout.proofs.Variants.{names_limited}
use Rattle.rollout.specs.Lawful.{Problem, Place, and_then, by_price, by_logic, or_refuse, place_in, place_of, names_are_variants, limits_for, is_unmet, max_planned, factor, sized, weighed, problem_asked, problem_at, problem_on}
use Rattle.rollout.specs.CheckedTally.{TallyProblem, of_place, tally_problem_asked, tally_problem_at, with_counts, with_inputs}
use Rattle.rollout.specs.declared.fault.RolloutFault.{RolloutFault}
use Rattle.rollout.specs.declared.fault.RolloutFault.TheVariants.{UnknownFlag, NoSite, UnknownVariant, TotalsSum, TotalTooLarge}
use Rattle.rollout.specs.declared.refining.Refining.{Refining}

-- what a result came of
pub record Came {A B : Type 0} (r : Result A RolloutFault) (f : A → Result B RolloutFault) (b : B) : Type 0 where
  pub from : A
  pub was : r ≡ Ok from
  pub gives : f from ≡ Ok b

pub came : {A B : Type 0} (r : Result A RolloutFault) (f : A → Result B RolloutFault) (b : B) → and_then r f ≡ Ok b → Came r f b
came (Ok a) f b h = record { from = a; was = refl; gives = h }
came (Err e) f b h = cc

-- ---- the flag

found : (o : Option Definition) (flag : Definition) → or_refuse UnknownFlag o ≡ Ok flag → o ≡ Some flag
found (Some x) flag h = cc
found None flag h = cc

flag_in : Definition → Result Place RolloutFault → Definition
flag_in d (Ok place) = place.flag
flag_in d (Err e) = d

placed_in : (key : List ℕ) (site : ℕ) (flag : Definition) (targeting : Expression) (place : Place) → place_in key site flag targeting ≡ Ok place → flag ≡ place.flag
unfolding flag_in
placed_in key site flag targeting place h =
    let parts = came (by_logic (parts_at site targeting)) (λ parts. and_then (by_logic (page_at key site targeting)) (λ page. Ok (record { flag = flag; entries = parts.1; page = page }))) place h in
    let page = came (by_logic (page_at key site targeting)) (λ page. Ok (record { flag = flag; entries = parts.from.1; page = page })) place parts.gives in
    ap (flag_in flag) page.gives

placed : (flags : Definitions) (key : List ℕ) (site : ℕ) (place : Place) → place_of flags key site ≡ Ok place → lookup (bytes_eq key) flags ≡ Some place.flag
placed flags key site place h =
    let flag = came (or_refuse UnknownFlag (lookup (bytes_eq key) flags)) (λ flag. and_then (or_refuse NoSite (targeting_in flag)) (λ targeting. place_in key site flag targeting)) place h in
    let targeting = came (or_refuse NoSite (targeting_in flag.from)) (λ targeting. place_in key site flag.from targeting) place flag.gives in
    found (lookup (bytes_eq key) flags) flag.from flag.was ∙ ap Some (placed_in key site flag.from targeting.from place targeting.gives)

-- ---- at most 64 names

length-member_names : (ms : Members) → length (member_names ms) ≡ member_count ms
length-member_names no_members = refl
length-member_names (member k t ms) = ap suc (length-member_names ms)

few_variants : (d : Definition) → is_definition d ≡ true → length (variant_names d) ≤ max_names
few_variants broken h = omega arith
few_variants (good r) h =
    let n = member_count r.variants in
    let numbered = left (nat_le 1 n && nat_le n 64) _ (left (are_variants r.variants) _ h) in
    omega (arith, length-member_names r.variants, leb-true n 64 (right (nat_le 1 n) (nat_le n 64) numbered))

length-insert_entry : {K X : Type 0} (R : K → K → Ordering) (es : List (K × X)) (k : K) (v : X) → length (insert_entry R es k v) ≤ suc (length es)
length-insert_entry R [] k v = omega arith
length-insert_entry R (e ∷ es) k v =
    let later = length-insert_entry R es k v in
    elim (R k e.0) as (λ o. length (match_ordering o ((k, v) ∷ e ∷ es) ((e.0, v) ∷ es) (e ∷ insert_entry R es k v)) ≤ suc (length (e ∷ es))) [
      | Less ↦ omega arith
      | Equal ↦ omega arith
      | Greater ↦ omega arith
    ]

length-limits_on : (asked : Limits) (names : List (List ℕ)) → length (limits_on asked names) ≤ length names
length-limits_on asked [] = omega arith
length-limits_on asked (name ∷ names) =
    let more = length-insert_entry (slice_cmp nat_cmp) (limits_on asked names) name (limits_of asked name) in
    let later = length-limits_on asked names in
    omega arith

limits_in : Result Limits RolloutFault → Limits
limits_in (Ok limits) = limits
limits_in (Err e) = []

named : (place : Place) (asked : Asked) (limits : Limits) → limits_for place asked ≡ Ok limits → names_are_variants place.flag place.entries ≡ true
named place asked limits h = by (names_are_variants place.flag place.entries) refl h
  where
    by : (b : Bool) → names_are_variants place.flag place.entries ≡ b → cond b (by_price (cond (all_known (variant_names place.flag) asked) (Ok (limits_on asked.totals (variant_names place.flag))) (Err price.UnknownVariant))) (Err UnknownVariant) ≡ Ok limits → names_are_variants place.flag place.entries ≡ true
    by true is h = is
    by false is h = cc

limited : (place : Place) (asked : Asked) (limits : Limits) → limits_for place asked ≡ Ok limits → limits_on asked.totals (variant_names place.flag) ≡ limits
unfolding limits_in
limited place asked limits h = by (names_are_variants place.flag place.entries) (all_known (variant_names place.flag) asked) h
  where
    by : (a b : Bool) → cond a (by_price (cond b (Ok (limits_on asked.totals (variant_names place.flag))) (Err price.UnknownVariant))) (Err UnknownVariant) ≡ Ok limits → limits_on asked.totals (variant_names place.flag) ≡ limits
    by true true h = ap limits_in h
    by true false h = cc
    by false b h = cc

-- ---- a total that is planned on

sized_small : (limits : Limits) (n : ℕ) (u : Unit {0}) → sized limits n ≡ Ok u → n ≤ max_planned
sized_small limits n u h = by (is_unmet limits n) (nat_lt max_planned n) refl h
  where
    by : (a b : Bool) → nat_lt max_planned n ≡ b → cond a (Err TotalsSum) (cond b (Err TotalTooLarge) (Ok tt)) ≡ Ok u → n ≤ max_planned
    by true b is h = cc
    by false true is h = cc
    by false false is h = ltb-false max_planned n is

-- the limits can be met by the total
sized_met : (limits : Limits) (n : ℕ) (u : Unit {0}) → sized limits n ≡ Ok u → (n < sum_by (λ l. l.1.0) limits) ⊎ (sum_by (λ l. l.1.1) limits < n) → ⊥
sized_met limits n u h = by (nat_lt n (sum_by (λ l. l.1.0) limits)) (nat_lt (sum_by (λ l. l.1.1) limits) n) refl refl h
  where
    by : (a b : Bool) → nat_lt n (sum_by (λ l. l.1.0) limits) ≡ a → nat_lt (sum_by (λ l. l.1.1) limits) n ≡ b → cond (a || b) (Err TotalsSum) (cond (nat_lt max_planned n) (Err TotalTooLarge) (Ok tt)) ≡ Ok u
        → (n < sum_by (λ l. l.1.0) limits) ⊎ (sum_by (λ l. l.1.1) limits < n) → ⊥
    by true b low high h missed = cc
    by false true low high h missed = cc
    by false false low high h missed = ⊎_elim (λ (m : n < sum_by (λ l. l.1.0) limits). omega (arith, m, ltb-false n (sum_by (λ l. l.1.0) limits) low)) (λ (m : sum_by (λ l. l.1.1) limits < n). omega (arith, m, ltb-false (sum_by (λ l. l.1.1) limits) n high)) missed

-- ---- the whole

problem_in : Problem → Result Problem RolloutFault → Problem
problem_in d (Ok p) = p
problem_in d (Err e) = d

-- what is planned on, and with which limits
record IsBounded (place : Place) (asked : Asked) (p : Problem) : Type 0 where
  small : total_weight p.old ≤ max_planned
  met : MissTotal p.old p.limits → ⊥
  factor : ℕ
  old : refinement factor place.entries ≡ p.old
  limits : limits_for place asked ≡ Ok p.limits

bounded_on : (refining : Refining) (inputs : Inputs) (asked : Asked) (place : Place) (p : Problem) → problem_on refining inputs asked place ≡ Ok p → IsBounded place asked p
unfolding problem_in
bounded_on refining inputs asked place p h =
    let total = total_weight place.entries in
    let k = factor refining total in
    let problem : Limits → Problem = λ limits. record { old = refinement k place.entries; limits = limits; pricing = asked.prices; inputs = inputs } in
    let limits = came (limits_for place asked) (λ limits. and_then (sized limits (total * k)) (λ _. Ok (problem limits))) p h in
    let size = came (sized limits.from (total * k)) (λ _. Ok (problem limits.from)) p limits.gives in
    let is : problem limits.from ≡ p = ap (problem_in (problem limits.from)) size.gives in
    record {
      small = omega (arith, sized_small limits.from (total * k) size.from size.was, total_weight-refinement k place.entries, ap (λ (q : Problem). total_weight q.old) is);
      met = λ missed.
          let same : total_weight p.old ≡ total * k = ap (λ (q : Problem). total_weight q.old) (sym is) ∙ total_weight-refinement k place.entries in
          let limits_are : limits.from ≡ p.limits = ap (λ (q : Problem). q.limits) is in
          sized_met limits.from (total * k) size.from size.was (subst (λ (ls : Limits). (total * k < sum_by (λ l. l.1.0) ls) ⊎ (sum_by (λ l. l.1.1) ls < total * k)) (sym limits_are) (subst (λ n. (n < sum_by (λ l. l.1.0) p.limits) ⊎ (sum_by (λ l. l.1.1) p.limits < n)) same missed));
      factor = k;
      old = ap (λ (q : Problem). q.old) is;
      limits = limits.was ∙ ap (λ (q : Problem). Ok q.limits) is;
    }

-- the bounds of an instance
pub record IsSmall (p : Problem) : Type 0 where
  pub met : MissTotal p.old p.limits → ⊥
  pub listed : AreListed p.old p.limits
  pub small : total_weight p.old ≤ max_planned_total
  pub few : length p.limits ≤ max_names

small_on : (refining : Refining) (flags : Definitions) (inputs : Inputs) (asked : Asked) (place : Place) (p : Problem) → AreFlags flags → place_of flags asked.flag asked.site ≡ Ok place → problem_on refining inputs asked place ≡ Ok p → IsSmall p
small_on refining flags inputs asked place p lawful was h =
    let bounds = bounded_on refining inputs asked place p h in
    let good = subst (λ o. IfSome o (λ d. is_definition d ≡ true)) (placed flags asked.flag asked.site place was) (All-lookup (λ d. is_definition d ≡ true) (bytes_eq asked.flag) flags lawful.each) in
    let names = few_variants place.flag good in
    let made = ap (λ (ls : Limits). length ls) (limited place asked p.limits bounds.limits) in
    let listed = names_limited place.flag place.entries bounds.factor asked.totals (named place asked p.limits bounds.limits) in
    record {
      listed = subst (λ (ls : Limits). AreListed p.old ls) (limited place asked p.limits bounds.limits) (subst (λ (r : Entries). AreListed r (limits_on asked.totals (variant_names place.flag))) bounds.old listed);
      small = bounds.small;
      met = bounds.met;
      few = omega (arith, made, length-limits_on asked.totals (variant_names place.flag), names);
    }

pub lawful_small : (refining : Refining) (flags : Definitions) (asked : Asked) (book : Contents) (p : Problem) → AreFlags flags → problem_asked refining flags asked book ≡ Ok p → IsSmall p
lawful_small refining flags asked book p lawful h =
    let place = came (place_of flags asked.flag asked.site) (λ place. problem_at refining book asked place) p h in
    let weight = came (weighed place.from.entries) (λ _. problem_on refining (inputs_on book place.from.page) asked place.from) p place.gives in
    small_on refining flags (inputs_on book place.from.page) asked place.from p lawful place.was weight.gives

tally_in : TallyProblem → Result TallyProblem RolloutFault → TallyProblem
tally_in d (Ok p) = p
tally_in d (Err e) = d

-- the same of what a request asks of a tally
pub tally_small : (refining : Refining) (flags : Definitions) (asked : Asked) (t : PageTally) (p : TallyProblem) → AreFlags flags → tally_problem_asked refining flags asked t ≡ Ok p → IsSmall (with_inputs p [])
unfolding tally_in
tally_small refining flags asked t p lawful h =
    let place = came (place_of flags asked.flag asked.site) (λ place. tally_problem_at refining t asked place) p h in
    let weight = came (weighed place.from.entries) (λ _. and_then (of_place refining t place.from) (λ _. and_then (problem_on refining [] asked place.from) (λ q. Ok (with_counts q t.counts)))) p place.gives in
    let page = came (of_place refining t place.from) (λ _. and_then (problem_on refining [] asked place.from) (λ q. Ok (with_counts q t.counts))) p weight.gives in
    let problem = came (problem_on refining [] asked place.from) (λ q. Ok (with_counts q t.counts)) p page.gives in
    let is : with_counts problem.from t.counts ≡ p = ap (tally_in p) problem.gives in
    let small = small_on refining flags [] asked place.from problem.from lawful place.was problem.was in
    let old : problem.from.old ≡ p.old = ap (λ (q : TallyProblem). q.old) is in
    let limits : problem.from.limits ≡ p.limits = ap (λ (q : TallyProblem). q.limits) is in
    record {
      listed = subst (λ (ls : Limits). AreListed p.old ls) limits (subst (λ (r : Entries). AreListed r problem.from.limits) old small.listed);
      small = omega (arith, small.small, ap total_weight old);
      met = subst (λ (ls : Limits). MissTotal p.old ls → ⊥) limits (subst (λ (r : Entries). MissTotal r problem.from.limits → ⊥) old small.met);
      few = omega (arith, small.few, ap (λ (ls : Limits). length ls) limits);
    }
