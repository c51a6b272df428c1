-- A loop that lowers the potentials of settled nodes.
use Rattle.std.proofs.Common.{to_z, of_z, FitsSigned, ◌≡◌, ℕ, ◌+◌, ◌<◌, ◌≤◌, ⊎_elim, ℤ, pos, ◌+ℤ◌, ◌-ℤ◌, List, length, get_or, set, Option, Some, sym, ap, ◌∙◌, arith}
use Rattle.std.proofs.lemmas.Bool.{cases_eq}
use Rattle.std.proofs.lemmas.Int.{ints}
use Rattle.std.proofs.lemmas.List.{get_or-set_same, get_or-set_other, length-set}
use Rattle.std.proofs.lemmas.Option.{same_Some}
use Rattle.std.specs.Int.{w64}
use Rattle.min_cost_flow.specs.Network.{IsShort}

-- ---- short numbers have room for a sum of three

pub sum_fits : (a b : ℤ) → IsShort a → IsShort b → FitsSigned w64 (to_z w64 (of_z w64 a) +ℤ to_z w64 (of_z w64 b))
sum_fits a b s t = omega (arith, ints, s.low, s.high, t.low, t.high)

pub rest_fits : (a b d : ℤ) → IsShort a → IsShort b → IsShort d → FitsSigned w64 (to_z w64 (of_z w64 (to_z w64 (of_z w64 a) +ℤ to_z w64 (of_z w64 b))) -ℤ to_z w64 (of_z w64 d))
rest_fits a b d s t u = omega (arith, ints, s.low, s.high, t.low, t.high, u.low, u.high)

pub rest_is : (a b d : ℤ) → IsShort a → IsShort b → IsShort d → to_z w64 (of_z w64 (to_z w64 (of_z w64 (to_z w64 (of_z w64 a) +ℤ to_z w64 (of_z w64 b))) -ℤ to_z w64 (of_z w64 d))) ≡ ((a +ℤ b) -ℤ d)
rest_is a b d s t u = omega (arith, ints, s.low, s.high, t.low, t.high, u.low, u.high)

-- a short number is kept in 64 bits
pub kept_short : (a : ℤ) → IsShort a → IsShort (to_z w64 (of_z w64 a))
kept_short a s = record {
  low = omega (arith, ints, s.low, s.high);
  high = omega (arith, ints, s.low, s.high);
}

-- and a sum of three
pub kept_sum : (r a b d : ℤ) → IsShort a → IsShort b → IsShort d → r ≡ ((to_z w64 (of_z w64 a) +ℤ to_z w64 (of_z w64 b)) -ℤ to_z w64 (of_z w64 d)) → to_z w64 (of_z w64 r) ≡ ((to_z w64 (of_z w64 a) +ℤ b) -ℤ to_z w64 (of_z w64 d))
kept_sum r a b d s t u is = omega (arith, ints, s.low, s.high, t.low, t.high, u.low, u.high, is)

-- ---- the loop

-- the settled nodes below `v` are lowered, and the others are as they were
pub record LowersBelow (nodes : ℕ) (potentials potentials' : List ℤ) (distance : ℕ → Option ℤ) (rank : ℕ → ℕ) (node_potential node_distance : ℤ) (v : ℕ) : Type 0 where
  pub size : length potentials' ≡ nodes
  pub settled : (w : ℕ) (a : ℤ) → w < v → rank w < nodes → distance w ≡ Some a → get_or potentials' w (pos 0) ≡ ((node_potential +ℤ a) -ℤ node_distance)
  pub others : (w : ℕ) → w < nodes → nodes ≤ rank w → get_or potentials' w (pos 0) ≡ get_or potentials w (pos 0)
  pub rest : (w : ℕ) → v ≤ w → get_or potentials' w (pos 0) ≡ get_or potentials w (pos 0)

module _ (nodes : ℕ) (potentials potentials' potentials'' : List ℤ) (distance : ℕ → Option ℤ) (rank : ℕ → ℕ) (node_potential node_distance : ℤ) (v : ℕ) (before : LowersBelow nodes potentials potentials' distance rank node_potential node_distance v) (within : v < nodes) where
  pub skips : potentials'' ≡ potentials' → ((a : ℤ) → rank v < nodes → distance v ≡ Some a → ⊥) → LowersBelow nodes potentials potentials'' distance rank node_potential node_distance (v + 1)
  skips same none =
      let at : (w : ℕ) → get_or potentials'' w (pos 0) ≡ get_or potentials' w (pos 0) = λ w. ap (λ xs. get_or xs w (pos 0)) same in
      record {
        size = ap length same ∙ before.size;
        settled = λ w a below is_settled is.
            ⊎_elim
            (λ (here : w ≡ v). absurd (none a (omega (arith, ap rank here, is_settled)) (ap distance (sym here) ∙ is)))
            (λ (not : w ≡ v → ⊥). at w ∙ before.settled w a (omega (arith, not)) is_settled is)
            (cases_eq w v);
        others = λ w w_in un. at w ∙ before.others w w_in un;
        rest = λ w above. at w ∙ before.rest w (omega arith);
      }

  pub sets : (a new : ℤ) → potentials'' ≡ set potentials' v new → rank v < nodes → distance v ≡ Some a → new ≡ ((node_potential +ℤ a) -ℤ node_distance) → LowersBelow nodes potentials potentials'' distance rank node_potential node_distance (v + 1)
  sets a new written v_settled v_is new_is =
      let other : (w : ℕ) → (w ≡ v → ⊥) → get_or potentials'' w (pos 0) ≡ get_or potentials' w (pos 0) = λ w not. ap (λ xs. get_or xs w (pos 0)) written ∙ get_or-set_other potentials' v w new (pos 0) not in
      record {
        size = ap length written ∙ (length-set potentials' v new ∙ before.size);
        settled = λ w b below is_settled is.
            ⊎_elim
            (λ (here : w ≡ v).
            let b_is : a ≡ b = same_Some a b (sym v_is ∙ (ap distance (sym here) ∙ is)) in
            let at : get_or potentials'' w (pos 0) ≡ new = ap (λ xs. get_or xs w (pos 0)) written ∙ (ap (λ k. get_or (set potentials' v new) k (pos 0)) here ∙ get_or-set_same potentials' v new (pos 0) (omega (arith, before.size))) in
            omega (arith, ints, at, new_is, b_is))
            (λ (not : w ≡ v → ⊥). other w not ∙ before.settled w b (omega (arith, not)) is_settled is)
            (cases_eq w v);
        others = λ w w_in un. other w (λ here. absurd (omega (arith, ap rank here, un, v_settled))) ∙ before.others w w_in un;
        rest = λ w above. other w (λ here. absurd (omega (arith, here))) ∙ before.rest w (omega arith);
      }
