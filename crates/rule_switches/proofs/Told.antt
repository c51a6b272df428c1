-- What the runs of all points tell.
use Rattle.std.proofs.Common.{◌≡◌, ℕ, ◌-◌, ◌<◌, ◌≤◌, ◌^◌, List, drop, length, sum, sum_by, refl, ap, ◌∙◌, cond, arith}
use Rattle.std.specs.List.{range_with_len, slice_index}
use Rattle.bucket_core.specs.Rule.{Entries, total_weight}
use Rattle.limits.specs.Limits.{tally_inputs}
use Rattle.rule_switches.specs.Runs.{Run, AreFew, AreRuns}
use Rattle.rule_switches.specs.Table.{IsSwitchTable, IsTableOf, is_switched, name_of}
use Rattle.rule_switches.specs.declared.table.PairSwitches.{PairSwitches}
use Rattle.rule_switches.proofs.Tallying.{all_points, all_users, points_told, users_told}

pub few_runs : (old new : Entries) (counts : List ℕ) (rs : List Run) → AreRuns old new counts 0 rs (total_weight old) → total_weight old < 2 ^ 31 → sum counts ≤ tally_inputs → AreFew rs
few_runs old new counts rs are small few = record {
  points = omega (arith, all_points old new counts 0 rs (total_weight old) are, small);
  users = omega (arith, all_users old new counts 0 rs (total_weight old) are, few, whole counts);
}
  where
    whole : (xs : List ℕ) → sum (drop 0 xs) ≡ sum xs
    whole xs = refl

pub told : (old new : Entries) (counts : List ℕ) (names : List (List ℕ)) (rs : List Run) (t : ℕ × List PairSwitches) → AreRuns old new counts 0 rs (total_weight old) → length counts ≡ total_weight old
    → IsTableOf names rs t → IsSwitchTable old new names counts t
told old new counts names rs t are whole table =
    let n = total_weight old in
    let all : n - 0 ≡ n = omega arith in
    record {
      width = table.width;
      points = λ i j first second.
          table.points i j first second ∙ (points_told old new counts (name_of names i) (name_of names j) 0 rs n are
          ∙ ap (λ k. sum_by (λ q. cond (is_switched old new (name_of names i) (name_of names j) q) 1 0) (range_with_len 0 k)) all);
      users = λ i j first second.
          table.users i j first second ∙ (users_told old new counts (name_of names i) (name_of names j) 0 rs n are (omega (arith, whole))
          ∙ ap (λ k. sum_by (λ q. cond (is_switched old new (name_of names i) (name_of names j) q) (slice_index counts q) 0) (range_with_len 0 k)) all);
    }
