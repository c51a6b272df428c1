-- What a switch costs the inputs of a point, by their number.
use Rattle.std.proofs.Common.{◌≡◌, ℕ, suc, ◌+◌, ◌-◌, ◌*◌, ◌<◌, ◌≤◌, ⊎_elim, ℤ, pos, negsuc, ◌+ℤ◌, ◌-ℤ◌, ◌*ℤ◌, ◌≤ℤ◌, ap, ◌∙◌, arith}
use Rattle.std.proofs.Math.Nat.{mul-le-mul_right, mul-add}
use Rattle.std.proofs.lemmas.Bool.{cases_lt}
use Rattle.std.proofs.lemmas.Int.{ints}
use Rattle.min_cost_flow.specs.Offered.{IsSwitchCost}

-- a larger number costs more by a rise, and less by a fall
rises : (c d h t : ℕ) → c ≤ d → h ≤ t → c * t + d * h ≤ c * h + d * t
rises c d h t few up =
    let e : ℕ = t - h in
    let t_is : t ≡ h + e = omega (arith, up) in
    let more : c * e ≤ d * e = mul-le-mul_right e few in
    omega (arith, more, ap (λ x. c * x) t_is ∙ mul-add c h e, ap (λ x. d * x) t_is ∙ mul-add d h e)

falls : (c h t e : ℕ) → h ≡ t + suc e → (pos c *ℤ pos h +ℤ (pos c *ℤ (pos t -ℤ pos h))) ≡ pos c *ℤ pos t
falls c h t e h_is =
    let d_is : (pos t -ℤ pos h) ≡ negsuc e = omega (arith, ints, h_is) in
    omega (arith, ints, ap (λ z. pos c *ℤ z) d_is, ap (λ x. c * x) h_is ∙ mul-add c t (suc e))

climbs : (c h t e : ℕ) → t ≡ h + e → (pos c *ℤ pos h +ℤ (pos c *ℤ (pos t -ℤ pos h))) ≡ pos c *ℤ pos t
climbs c h t e t_is =
    let d_is : (pos t -ℤ pos h) ≡ pos e = omega (arith, ints, t_is) in
    omega (arith, ints, ap (λ z. pos c *ℤ z) d_is, ap (λ x. c * x) t_is ∙ mul-add c h e)

naturals : (c h t : ℕ) → (pos c *ℤ pos h +ℤ (pos c *ℤ (pos t -ℤ pos h))) ≡ pos c *ℤ pos t
naturals c h t =
    ⊎_elim
    (λ (below : t < h). falls c h t ((h - t) - 1) (omega (arith, below)))
    (λ (above : h ≤ t). climbs c h t (t - h) (omega (arith, above)))
    (cases_lt t h)

-- what a point pays more
pub pays_more : (c : ℕ) (h t : ℤ) → IsSwitchCost h → IsSwitchCost t → (pos c *ℤ h +ℤ (pos c *ℤ (t -ℤ h))) ≡ pos c *ℤ t
pays_more c (pos h) (pos t) ph pt = naturals c h t
pays_more c (negsuc h) t ph pt = absurd (omega (arith, ints, ph.low))
pays_more c (pos h) (negsuc t) ph pt = absurd (omega (arith, ints, pt.low))

-- what is no more than a switch costs few inputs and many is no more than it costs a number between
between_naturals : (c1 c c2 h t : ℕ) (a : ℤ) → c1 ≤ c → c ≤ c2 → (pos c1 *ℤ pos h +ℤ a) ≤ℤ (pos c1 *ℤ pos t) → (pos c2 *ℤ pos h +ℤ a) ≤ℤ (pos c2 *ℤ pos t) → (pos c *ℤ pos h +ℤ a) ≤ℤ (pos c *ℤ pos t)
between_naturals c1 c c2 h t a few many first last =
    ⊎_elim
    (λ (below : t < h). omega (arith, ints, last, rises c c2 t h many (omega (arith, below))))
    (λ (above : h ≤ t). omega (arith, ints, first, rises c1 c h t few above))
    (cases_lt t h)

pub between : (c1 c c2 : ℕ) (h t a : ℤ) → IsSwitchCost h → IsSwitchCost t → c1 ≤ c → c ≤ c2 → (pos c1 *ℤ h +ℤ a) ≤ℤ (pos c1 *ℤ t) → (pos c2 *ℤ h +ℤ a) ≤ℤ (pos c2 *ℤ t) → (pos c *ℤ h +ℤ a) ≤ℤ (pos c *ℤ t)
between c1 c c2 (pos h) (pos t) a ph pt few many first last = between_naturals c1 c c2 h t a few many first last
between c1 c c2 (negsuc h) t a ph pt few many first last = absurd (omega (arith, ints, ph.low))
between c1 c c2 (pos h) (negsuc t) a ph pt few many first last = absurd (omega (arith, ints, pt.low))
