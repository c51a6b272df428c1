-- What is written for an answer reads as the answer.
use Rattle.std.proofs.Common.{◌≡◌, ℕ, ◌<◌, ◌≤◌, ◌^◌, List, true, ltb, Some, Ok, refl, ap, ◌∙◌, arith}
use Rattle.std.specs.Cmp.Lexicographic.{slice_cmp}
use Rattle.std.specs.Map.{keys_of}
use Rattle.std.specs.Ordering.{nat_cmp}
use Rattle.std.proofs.lemmas.Bool.{ltb-true, lt-ltb}
use Rattle.flag_text.proofs.Bools.{left, right}
use Rattle.flag_text.specs.Reading.{max_levels, tree_of}
use Rattle.flag_text.specs.Shape.{Shape, text, is_whole, items_are_whole, levels}
use Rattle.bucket_core.specs.Rule.{Entries}
use Rattle.transport_core.specs.Certificate.{DualPrices}
use Rattle.transport_core.specs.Groups.{group_cmp}
use Rattle.transport_core.specs.declared.certificate.CutKind.{CutKind}
use Rattle.transport_core.specs.declared.certificate.CutKind.TheVariants.{Over, Under}
use Rattle.plan_text.specs.Answer.{Answer, emit, none_exists, IsOrdered, FitsFile}
use Rattle.bucket_core.specs.Canonical.{IsCanonical}
use Rattle.transport_core.specs.WrittenCertificate.{items_by, alpha_written, beta_written}
use Rattle.plan_text.specs.PlanFile.{max_plan, rises, entry_written, planned_written, alpha_in, beta_in, cost_in, rule_in, planned_of, if_plan, if_tree, answer_of}
use Rattle.plan_text.proofs.Orders.{rises-sorted, canonical_rule-same, weights_small}
use Rattle.plan_text.proofs.RowsAgain.{alpha_again, beta_again, entries_again, names_again, rows_levels}

-- the cost of an answer whose numbers are whole
pub cost_small : (rule : Entries) (c : DualPrices) → is_whole (planned_written (emit rule c)) ≡ true → c.cost < 2 ^ 53
cost_small rule c h =
    ltb-true c.cost (2 ^ 53) (left _ _ (right (items_are_whole (items_by beta_written c.beta)) _ (right (items_are_whole (items_by alpha_written c.alpha)) _ h)))

pub emit_by_tests : (rule : Entries) (c : DualPrices) → is_whole (planned_written (emit rule c)) ≡ true → rises group_cmp (keys_of c.alpha) ≡ true → rises (slice_cmp nat_cmp) (keys_of c.beta) ≡ true → IsCanonical rule → FitsFile (emit rule c)
    → planned_of (planned_written (emit rule c)) ≡ Some (emit rule c)
emit_by_tests rule c whole groups names canonical fits =
    let t = planned_written (emit rule c) in
    let alpha : alpha_in t ≡ Some c.alpha = rw (alpha_again c.alpha fits.1, groups) refl in
    let beta : beta_in t ≡ Some c.beta = rw (beta_again c.beta, names) refl in
    let small : ltb c.cost (2 ^ 53) ≡ true = lt-ltb c.cost (2 ^ 53) (cost_small rule c whole) in
    let cost : cost_in t ≡ Some c.cost = rw small refl in
    let entries : rule_in t ≡ Some rule = rw (entries_again rule (weights_small (2 ^ 31) rule fits.0.small), canonical_rule-same rule fits.0 canonical) refl in
    rw (alpha, beta, cost, entries) refl

emit_again : (rule : Entries) (c : DualPrices) → is_whole (planned_written (emit rule c)) ≡ true → IsOrdered (emit rule c) → FitsFile (emit rule c) → planned_of (planned_written (emit rule c)) ≡ Some (emit rule c)
emit_again rule c whole ordered fits = emit_by_tests rule c whole (rises-sorted group_cmp (keys_of c.alpha) ordered.1) (rises-sorted (slice_cmp nat_cmp) (keys_of c.beta) ordered.2) ordered.0 fits

set_again : (kind : CutKind) (names : List (List ℕ)) → IsOrdered (none_exists kind names) → planned_of (planned_written (none_exists kind names)) ≡ Some (none_exists kind names)
set_again Over names ordered = rw (names_again names, rises-sorted (slice_cmp nat_cmp) names ordered) refl
set_again Under names ordered = rw (names_again names, rises-sorted (slice_cmp nat_cmp) names ordered) refl

pub planned_again : (a : Answer) → is_whole (planned_written a) ≡ true → IsOrdered a → FitsFile a → planned_of (planned_written a) ≡ Some a
planned_again (emit rule c) whole ordered fits = emit_again rule c whole ordered fits
planned_again (none_exists kind names) whole ordered fits = set_again kind names ordered

-- a list of lists of scalars, in an object
pub planned_levels : (a : Answer) → levels (planned_written a) ≤ max_levels
planned_levels (emit rule c) =
    let alpha = rows_levels 1 alpha_written c.alpha (λ x. omega arith) in
    let beta = rows_levels 1 beta_written c.beta (λ x. omega arith) in
    let entries = rows_levels 1 entry_written rule (λ x. omega arith) in
    omega (arith, alpha, beta, entries)
planned_levels (none_exists Over names) = let flat = rows_levels 0 text names (λ x. omega arith) in omega (arith, flat)
planned_levels (none_exists Under names) = let flat = rows_levels 0 text names (λ x. omega arith) in omega (arith, flat)

-- bytes that read as the tree of an answer
pub answer_again : (bytes : List ℕ) (t : Shape) (a : Answer) → tree_of bytes max_plan ≡ Ok t → t ≡ planned_written a → is_whole (planned_written a) ≡ true → IsOrdered a → FitsFile a → answer_of bytes ≡ Ok a
answer_again bytes t a read is whole ordered fits = ap if_tree read ∙ (ap (λ s. if_plan (planned_of s)) is ∙ ap if_plan (planned_again a whole ordered fits))
