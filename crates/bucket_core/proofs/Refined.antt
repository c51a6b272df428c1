-- Each weight times m: the points are the old ones, each m times.
use Rattle.std.proofs.Common.{◌≡◌, ℕ, ◌+◌, ◌-◌, ◌*◌, ◌/◌, ◌^◌, ◌<◌, ◌≤◌, ◌⊎◌, inl, inr, List, [], ◌∷◌, Ok, Err, refl, sym, ap, ◌∙◌, arith}
use Rattle.std.proofs.Math.Nat.{div-div-eq-div-mul, mul-div_cancel, mul-add-div_right, div-lt_iff_lt-mul, mul_comm}
use Rattle.std.proofs.lemmas.Bool.{cases_lt, lt-ltb, le-ltb}
use Rattle.murmur_core.specs.Murmur.{hash}
use Rattle.bucket_core.specs.Point.{point_of}
use Rattle.bucket_core.specs.declared.fault.RuleFault.TheVariants.{TooHeavy}
use Rattle.bucket_core.specs.Reading.{rule_of_entries}
use Rattle.bucket_core.specs.Rule.{Entries, IsRuleTotal, total_weight, at, choice, refinement}
use Rattle.bucket_core.proofs.Points.{total_weight-cons, at-nil, at-here, at-past}

pub total_weight-refinement : (m : ℕ) (r : Entries) → total_weight (refinement m r) ≡ total_weight r * m
total_weight-refinement m [] = omega arith
total_weight-refinement m (e ∷ es) =
    rw (total_weight-cons (e.0, e.1 * m) (refinement m es), total_weight-cons e es) (omega (arith, total_weight-refinement m es))

-- the point among m times as many, divided by m
point_of-refinement : (w m : ℕ) (key : List ℕ) → 0 < m → point_of (w * m) key / m ≡ point_of w key
unfolding point_of
point_of-refinement w m key some =
    let x = hash key 0 * w in
    let all : hash key 0 * (w * m) ≡ x * m = omega arith in
    let two = 2 ^ 32 in
    ap (λ k. k / two / m) all ∙ (div-div-eq-div-mul (x * m) two m ∙ (ap (λ k. x * m / k) (mul_comm two m) ∙ (sym (div-div-eq-div-mul (x * m) m two) ∙ ap (λ k. k / two) (mul-div_cancel x some))))

at-refinement-by : (m : ℕ) (e : List ℕ × ℕ) (es : Entries) (p : ℕ) → 0 < m → ((q : ℕ) → at (refinement m es) q ≡ at es (q / m)) → (p < e.1 * m) ⊎ (e.1 * m ≤ p)
    → at (refinement m (e ∷ es)) p ≡ at (e ∷ es) (p / m)
at-refinement-by m e es p some later (inl below) =
    at-here (e.0, e.1 * m) (refinement m es) p below ∙ sym (at-here e es (p / m) ((div-lt_iff_lt-mul some).1 below))
at-refinement-by m e es p some later (inr past) =
    let q = p - e.1 * m in
    let parts : p ≡ e.1 * m + q = omega arith in
    let quotient : p / m ≡ e.1 + q / m = ap (λ k. k / m) parts ∙ mul-add-div_right some e.1 q in
    let less : p / m - e.1 ≡ q / m = omega (arith, quotient) in
    at-past (e.0, e.1 * m) (refinement m es) p past ∙ (later q ∙ (ap (at es) (sym less) ∙ sym (at-past e es (p / m) (omega (arith, quotient)))))

pub at-refinement : (m : ℕ) (r : Entries) (p : ℕ) → 0 < m → at (refinement m r) p ≡ at r (p / m)
at-refinement m [] p some = at-nil p ∙ sym (at-nil (p / m))
at-refinement m (e ∷ es) p some = at-refinement-by m e es p some (λ q. at-refinement m es q some) (cases_lt p (e.1 * m))

-- a refined rule gives each hash input the same name
pub choice-refinement : (m : ℕ) (r : Entries) (key : List ℕ) → 0 < m → choice (refinement m r) key ≡ choice r key
choice-refinement m r key some =
    ap (λ w. at (refinement m r) (point_of w key)) (total_weight-refinement m r)
    ∙ (at-refinement m r (point_of (total_weight r * m) key) some ∙ ap (at r) (point_of-refinement (total_weight r) m key some))

-- weights that sum to too much are no rule
pub rule_of_entries-heavy : (r : Entries) → 2 ^ 31 ≤ total_weight r → rule_of_entries r ≡ Err TooHeavy
rule_of_entries-heavy r h = rw (lt-ltb 0 (total_weight r) (omega arith), le-ltb (total_weight r) (2 ^ 31) h) refl

pub rule_of_entries-good : (r : Entries) → IsRuleTotal (total_weight r) → rule_of_entries r ≡ Ok r
rule_of_entries-good r h = rw (lt-ltb 0 (total_weight r) h.some, lt-ltb (total_weight r) (2 ^ 31) h.small) refl
