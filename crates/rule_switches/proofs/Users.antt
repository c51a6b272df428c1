-- The tally of a page tells how many of its inputs go from one name to another.
use Rattle.std.proofs.Common.{◌≡◌, ℕ, pos, ◌*ℤ◌, Bool, true, false, ◌&&◌, cond, List, refl, sym, ap, ◌∙◌, arith}
use Rattle.std.specs.List.{range_with_len, slice_index}
use Rattle.std.specs.Prelude.{◌==◌}
use Rattle.std.specs.Str.{bytes_eq}
use Rattle.std.proofs.lemmas.Bool.{eqb-true}
use Rattle.std.proofs.lemmas.Int.{ints}
use Rattle.exposures.specs.Counts.{counts_of}
use Rattle.bucket_core.specs.Point.{point_of}
use Rattle.bucket_core.specs.Rule.{total_weight}
use Rattle.price_core.specs.Cost.{name_at, name_of_input}
use Rattle.transport_core.specs.Dual.{inputs_at}
use Rattle.transport_core.specs.Sum.{sum_z}
use Rattle.transport_core.proofs.Costs.{counted_at}
use Rattle.transport_core.proofs.DualSums.{range_place}
use Rattle.transport_core.proofs.Inputs.{sum_placed}
use Rattle.transport_core.proofs.Points.{point_of-below}
use Rattle.transport_core.proofs.Regroup.{PicksOne, regroup, picks_one, once_in_range}
use Rattle.transport_core.proofs.Sums.{sum_z-pos}
use Rattle.rule_switches.specs.Table.{TalliesTellUsers, is_switched}

same_number : {a b : ℕ} → pos a ≡ pos b → a ≡ b
same_number same = cc

flagged : (b : Bool) (n : ℕ) → pos (cond b n 0) ≡ (pos n *ℤ pos (cond b 1 0))
flagged true n = omega (arith, ints)
flagged false n = omega (arith, ints)

pub tallied : TalliesTellUsers
tallied old new inputs a b some weight =
    let w = total_weight old in
    let range = range_with_len 0 w in
    let counts = counts_of inputs w in
    let sw : ℕ → Bool = is_switched old new a b in
    let flag : ℕ → ℕ = λ p. cond (sw p) 1 0 in
    let of_key : List ℕ → ℕ = λ k. cond (bytes_eq (name_of_input old k) a && bytes_eq (name_of_input new k) b) 1 0 in
    let g : ℕ → ℕ = λ p. cond (sw p) (slice_index counts p) 0 in
    let value : (k : List ℕ) → of_key k ≡ flag (point_of w k) = λ k. ap (λ n. cond (bytes_eq (name_of_input old k) a && bytes_eq (name_at new (point_of n k)) b) 1 0) weight in
    let picks : (k : List ℕ) → PicksOne (λ p. point_of w k == p) range (λ p. pos (flag p)) (pos (of_key k)) =
    λ k. picks_one (λ p. point_of w k == p) (λ p. pos (flag p)) (pos (of_key k)) range (once_in_range (point_of w k) 0 w (omega arith) (omega (arith, point_of-below w k some)))
    (λ p same. ap (λ n. pos n) (ap flag (sym (eqb-true (point_of w k) p same)) ∙ sym (value k))) in
    let each : sum_z (λ p. pos (g p)) range ≡ sum_z (λ p. pos (inputs_at w inputs p) *ℤ pos (flag p)) range =
    sum_placed (λ p. pos (g p)) (λ p. pos (inputs_at w inputs p) *ℤ pos (flag p)) range (λ i p stands.
    ap (λ n. pos (cond (sw p) n 0)) (counted_at inputs w counts p refl (omega (arith, range_place 0 w i p stands))) ∙ flagged (sw p) (inputs_at w inputs p)) in
    same_number (sym (sum_z-pos g range) ∙ (each
    ∙ (sym (regroup (λ k p. point_of w k == p) (λ p. pos (flag p)) (λ k. pos (of_key k)) range inputs (λ i k is. picks k)) ∙ sum_z-pos of_key inputs)))
