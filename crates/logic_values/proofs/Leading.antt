-- What comes of a leading `v`.
use Rattle.std.proofs.Common.{◌≡◌, ◌≢◌, ℕ, List, [], ◌∷◌, Bool, true, false, ◌==◌, ◌||◌, cond, refl, sym, ap}
use Rattle.std.proofs.lemmas.Bool.{eqb-true}
use Rattle.logic_values.specs.Version.{without_v}

pub without_small : (bs rest : List ℕ) → bs ≡ 118 ∷ rest → rest ≡ without_v bs
without_small bs rest e = sym (ap without_v e)

pub without_capital : (bs rest : List ℕ) → bs ≡ 86 ∷ rest → rest ≡ without_v bs
without_capital bs rest e = sym (ap without_v e)

kept_by : (b : ℕ) (bs : List ℕ) (p q : Bool) → (b == 118) ≡ p → (b == 86) ≡ q → ((rest : List ℕ) → b ∷ bs ≢ 118 ∷ rest) → ((rest : List ℕ) → b ∷ bs ≢ 86 ∷ rest)
    → b ∷ bs ≡ cond (p || q) bs (b ∷ bs)
kept_by b bs true q e f n m = absurd (n bs (ap (λ x. x ∷ bs) (eqb-true b 118 e)))
kept_by b bs false true e f n m = absurd (m bs (ap (λ x. x ∷ bs) (eqb-true b 86 f)))
kept_by b bs false false e f n m = refl

pub without_none : (bs : List ℕ) → ((rest : List ℕ) → bs ≢ 118 ∷ rest) → ((rest : List ℕ) → bs ≢ 86 ∷ rest) → bs ≡ without_v bs
without_none [] n m = refl
without_none (b ∷ bs) n m = kept_by b bs (b == 118) (b == 86) refl refl n m
