-- What is known of inputs by how many fall on each point: their number, and what they cost.
use Rattle.std.proofs.Common.{◌≡◌, ℕ, zero, suc, ◌+◌, ◌*◌, ◌<◌, ◌≤◌, pos, List, [], ◌∷◌, length, get_or, sum, refl, sym, ap, ◌∙◌, subst, arith}
use Rattle.std.specs.List.{range_with_len, slice_index}
use Rattle.std.proofs.lemmas.List.FromFn.{get_or-map-range_with_len, length-map-range_with_len}
use Rattle.std.proofs.lemmas.List.Sums.{sum_by-cons, sum-map}
use Rattle.exposures.specs.Counts.{counts_of}
use Rattle.bucket_core.specs.Rule.{Entries, total_weight}
use Rattle.price_core.specs.Cost.{cost_of, point_cost, tally_cost}
use Rattle.price_core.specs.Pricing.{Pricing}
use Rattle.limits.specs.Limits.{point_inputs}
use Rattle.transport_core.specs.Dual.{inputs_at}
use Rattle.transport_core.specs.Tally.{IsTally}
use Rattle.transport_core.proofs.Duality.{cost-by_points}
use Rattle.transport_core.proofs.DualSums.{range_place}
use Rattle.transport_core.proofs.Inputs.{points_inputs, sum_placed}
use Rattle.transport_core.proofs.Sums.{sum_z-pos}

-- as many inputs on a point as its number says
pub counted_at : (inputs : List (List ℕ)) (total : ℕ) (counts : List ℕ) (p : ℕ) → counts ≡ counts_of inputs total → p < total → slice_index counts p ≡ inputs_at total inputs p
counted_at inputs total counts p is below =
    let from : 0 + p ≡ p = omega arith in
    ap (λ cs. get_or cs p 0) is ∙ get_or-map-range_with_len (λ q. inputs_at total inputs q) 0 total p p 0 below from

pub length-counts : (inputs : List (List ℕ)) (total : ℕ) (counts : List ℕ) → counts ≡ counts_of inputs total → length counts ≡ total
length-counts inputs total counts is = ap length is ∙ length-map-range_with_len (λ p. inputs_at total inputs p) 0 total

same_number : {a b : ℕ} → pos a ≡ pos b → a ≡ b
same_number same = cc

-- the inputs at all points are all
pub sum-counts : (inputs : List (List ℕ)) (total : ℕ) (counts : List ℕ) → 0 < total → counts ≡ counts_of inputs total → sum counts ≡ length inputs
sum-counts inputs total counts some is =
    let range = range_with_len 0 total in
    ap sum is ∙ (sum-map (inputs_at total inputs) range ∙ same_number (sym (sum_z-pos (inputs_at total inputs) range) ∙ points_inputs total inputs some))

one_of_sum : (counts : List ℕ) (p : ℕ) → get_or counts p 0 ≤ sum counts
one_of_sum [] p = omega arith
one_of_sum (count ∷ counts) zero = omega (arith, sum_by-cons (λ n. n) count counts)
one_of_sum (count ∷ counts) (suc p) = omega (arith, sum_by-cons (λ n. n) count counts, one_of_sum counts p)

-- a list of inputs that is not too long has a tally
pub tally_of : (inputs : List (List ℕ)) (total : ℕ) (counts : List ℕ) → counts ≡ counts_of inputs total → length inputs ≤ point_inputs → IsTally total counts
tally_of inputs zero counts is few = subst (IsTally zero) (sym is) none
  where
    none : IsTally zero []
    none = record { whole = refl; small = λ p. omega arith; few = omega arith }
tally_of inputs (suc n) counts is few =
    let all = sum-counts inputs (suc n) counts (omega arith) is in
    record { whole = length-counts inputs (suc n) counts is; small = λ p. omega (arith, all, few, one_of_sum counts p); few = omega (arith, all, few) }

-- what they cost, point by point
pub cost-tally : (old new : Entries) (inputs : List (List ℕ)) (counts : List ℕ) (pricing : Pricing) → 0 < total_weight old → total_weight new ≡ total_weight old → counts ≡ counts_of inputs (total_weight old)
    → tally_cost old new counts pricing ≡ cost_of old new inputs pricing
cost-tally old new inputs counts pricing some weight is =
    let total = total_weight old in
    let range = range_with_len 0 total in
    let f : ℕ → ℕ = λ p. slice_index counts p * point_cost old new pricing p in
    let each = sum_placed (λ p. pos (f p)) (λ p. pos (inputs_at total inputs p * point_cost old new pricing p)) range (λ i p stands.
    ap (λ n. pos (n * point_cost old new pricing p)) (counted_at inputs total counts p is (omega (arith, range_place 0 total i p stands)))) in
    same_number (sym (sum_z-pos f range) ∙ (each ∙ sym (cost-by_points old new inputs pricing some weight)))
