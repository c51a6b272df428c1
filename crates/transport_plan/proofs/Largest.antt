-- A plan file can hold numbers that are small.
use Rattle.std.proofs.Common.{◌≡◌, ◌&&◌, ℕ, suc, ◌-◌, ◌*◌, ◌^◌, ◌<◌, ◌≤◌, ℤ, pos, negsuc, neg_ℤ, ◌*ℤ◌, ◌≤ℤ◌, List, [], ◌∷◌, length, get_or, true, refl, arith}
use Rattle.std.proofs.Math.Nat.{mul-le-mul}
use Rattle.std.proofs.lemmas.Bool.{lt-ltb}
use Rattle.std.proofs.lemmas.Int.{ints}
use Rattle.std.specs.List.{zip}
use Rattle.std.specs.Map.{keys_of}
use Rattle.flag_text.proofs.Bools.{both}
use Rattle.flag_text.specs.Shape.{is_in_range, items_are_whole}
use Rattle.transport_core.specs.WrittenCertificate.{alpha_written, beta_written, items_by}
use Rattle.min_cost_flow.specs.Offered.{IsSwitchCost}
use Rattle.min_cost_flow.specs.Problem.{max_count}
use Rattle.transport_core.specs.Groups.{GroupKey}

-- a number that a plan file can hold
pub record IsHeld (z : ℤ) : Type 0 where
  pub low : neg_ℤ (pos (2 ^ 53 - 1)) ≤ℤ z
  pub high : z ≤ℤ pos (2 ^ 53 - 1)

pub in_range : (z : ℤ) → IsHeld z → is_in_range z ≡ true
in_range (pos n) held = lt-ltb n (2 ^ 53) (omega (arith, ints, held.high))
in_range (negsuc n) held = lt-ltb (suc n) (2 ^ 53) (omega (arith, ints, held.low))

-- what a switch costs the inputs of a point
pub charge_small : (count : ℕ) (switch_cost : ℤ) → count ≤ max_count → IsSwitchCost switch_cost → (pos 0 ≤ℤ (pos count *ℤ switch_cost)) × ((pos count *ℤ switch_cost) ≤ℤ pos (max_count * 1000000))
charge_small count (pos n) few is =
    let small : n ≤ 1000000 = omega (arith, ints, is.high) in
    let most : count * n ≤ max_count * 1000000 = mul-le-mul few small in
    (omega (arith, ints), omega (arith, ints, most))
charge_small count (negsuc n) few is = absurd (omega (arith, ints, is.low))

pub alpha_whole : (gs : List (GroupKey × ℕ)) (d : GroupKey × ℕ) (alpha : List ℤ) → ((g : ℕ) → g < length gs → (get_or gs g d).0.1 ≤ max_count) → ((g : ℕ) → g < length alpha → IsHeld (get_or alpha g (pos 0)))
    → items_are_whole (items_by alpha_written (zip (keys_of gs) alpha)) ≡ true
alpha_whole [] d alpha few held = refl
alpha_whole (g ∷ gs) d [] few held = refl
alpha_whole (g ∷ gs) d (a ∷ alpha) few held =
    let count = few 0 (omega arith) in
    both _ _ (both (is_in_range (pos g.0.1)) (is_in_range a && true) (lt-ltb g.0.1 (2 ^ 53) (omega (arith, count))) (both (is_in_range a) true (in_range a (held 0 (omega arith))) refl))
    (alpha_whole gs d alpha (λ h h_in. few (suc h) (omega (arith, h_in))) (λ h h_in. held (suc h) (omega (arith, h_in))))

pub beta_whole : (names : List (List ℕ)) (beta : List ℤ) → ((v : ℕ) → v < length beta → IsHeld (get_or beta v (pos 0))) → items_are_whole (items_by beta_written (zip names beta)) ≡ true
beta_whole [] beta held = refl
beta_whole (n ∷ names) [] held = refl
beta_whole (n ∷ names) (b ∷ beta) held = both _ _ (both (is_in_range b) true (in_range b (held 0 (omega arith))) refl) (beta_whole names beta (λ v v_in. held (suc v) (omega (arith, v_in))))
