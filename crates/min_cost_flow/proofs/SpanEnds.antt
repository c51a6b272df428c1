-- The first and the last group of each old variant with points at the name enter its arcs, one variant after the other.
use Rattle.std.proofs.Common.{◌≡◌, ℕ, ◌+◌, ◌<◌, ◌≤◌, ⊎_elim, ℤ, Bool, Option, Some, sym, ap, ◌∙◌, subst, arith}
use Rattle.std.proofs.lemmas.Bool.{cases_eq}
use Rattle.std.proofs.lemmas.Int.{ints}
use Rattle.min_cost_flow.specs.Residual.{AreMoves, TakesMovesOfBoth, IsCovered, IsLower, IsMoveOfGroup, TakesMoves}
use Rattle.min_cost_flow.specs.declared.arc.Arc.{Arc}

-- the groups of old variants below `a` are done
pub record EndsBelow (groups names : ℕ) (variant count : ℕ → ℕ) (may : ℕ → ℕ → Bool) (charge : ℕ → ℕ → ℤ) (here : ℕ → ℕ) (v a : ℕ) (arc : ℕ → Option Arc) : Type 0 where
  pub moves : AreMoves groups names may charge here v arc
  pub firsts : (g : ℕ) → g < groups → variant g < a → 0 < here g → (h : ℕ) × (h < groups) × (variant h ≡ variant g) × (count h ≤ count g) × IsCovered names may charge v arc h
  pub lasts : (g : ℕ) → g < groups → variant g < a → 0 < here g → (h : ℕ) × (h < groups) × (variant h ≡ variant g) × (count g ≤ count h) × IsCovered names may charge v arc h

module _ (groups names : ℕ) (variant count : ℕ → ℕ) (may : ℕ → ℕ → Bool) (charge : ℕ → ℕ → ℤ) (here : ℕ → ℕ) (v : ℕ) where
  -- what was covered is so by arcs that cost no more
  pub still_covered : (old new : ℕ → Option Arc) (g : ℕ) → IsLower names old new → IsCovered names may charge v old g → IsCovered names may charge v new g
  still_covered old new g lower covered w w_in allowed =
      let c = covered w w_in allowed in
      let d = lower w c.0 w_in c.1 in
      (d.0, d.1, omega (arith, ints, c.2, d.2))

  pub moves_after : (old new : ℕ → Option Arc) (g : ℕ) → g < groups → 0 < here g → AreMoves groups names may charge here v old → TakesMoves names may charge g v old new → AreMoves groups names may charge here v new
  moves_after old new g g_in some moves wide = record {
    group = λ w a w_in is.
        ⊎_elim
        (λ (was : old w ≡ Some a). moves.group w a w_in was)
        (λ (move : IsMoveOfGroup may charge g v w a). omega (arith, move.same_group, g_in))
        (wide.change w a w_in is);
    there = λ w a w_in is.
        ⊎_elim
        (λ (was : old w ≡ Some a). moves.there w a w_in was)
        (λ (move : IsMoveOfGroup may charge g v w a). omega (arith, ap here move.same_group, some))
        (wide.change w a w_in is);
    move = λ w a w_in is.
        ⊎_elim
        (λ (was : old w ≡ Some a). moves.move w a w_in was)
        (λ (move : IsMoveOfGroup may charge g v w a). subst (λ x. IsMoveOfGroup may charge x v w a) (sym move.same_group) move)
        (wide.change w a w_in is);
  }

  module _ (a : ℕ) (old new : ℕ → Option Arc) (before : EndsBelow groups names variant count may charge here v a old) where
    -- no group of the old variant has points at the name
    pub skips : ((g : ℕ) → g < groups → variant g ≡ a → 0 < here g → ⊥) → EndsBelow groups names variant count may charge here v (a + 1) old
    skips none = record {
      moves = before.moves;
      firsts = λ g g_in below some.
          ⊎_elim (λ (is : variant g ≡ a). absurd (none g g_in is some)) (λ (not : variant g ≡ a → ⊥). before.firsts g g_in (omega (arith, below, not)) some) (cases_eq (variant g) a);
      lasts = λ g g_in below some.
          ⊎_elim (λ (is : variant g ≡ a). absurd (none g g_in is some)) (λ (not : variant g ≡ a → ⊥). before.lasts g g_in (omega (arith, below, not)) some) (cases_eq (variant g) a);
    }

    -- all of its groups with points there have as many inputs as `f` and `l` or a number between
    pub enters : (f l : ℕ) → f < groups → l < groups → variant f ≡ a → variant l ≡ a → 0 < here f → 0 < here l
        → ((g : ℕ) → g < groups → variant g ≡ a → 0 < here g → (count f ≤ count g) × (count g ≤ count l))
        → TakesMovesOfBoth names may charge f l v old new → EndsBelow groups names variant count may charge here v (a + 1) new
    enters f l f_in l_in f_is l_is f_some l_some between wide =
        let mid = wide.0 in
        let one = wide.1 in
        let two = wide.2 in
        let stays : (h : ℕ) → IsCovered names may charge v old h → IsCovered names may charge v new h = λ h covered. still_covered mid new h two.less (still_covered old mid h one.less covered) in
        record {
          moves = moves_after mid new l l_in l_some (moves_after old mid f f_in f_some before.moves one) two;
          firsts = λ g g_in below some.
              ⊎_elim
              (λ (is : variant g ≡ a). (f, f_in, f_is ∙ sym is, (between g g_in is some).0, still_covered mid new f two.less one.covers))
              (λ (not : variant g ≡ a → ⊥).
              let d = before.firsts g g_in (omega (arith, below, not)) some in
              (d.0, d.1, d.2, d.3, stays d.0 d.4))
              (cases_eq (variant g) a);
          lasts = λ g g_in below some.
              ⊎_elim
              (λ (is : variant g ≡ a). (l, l_in, l_is ∙ sym is, (between g g_in is some).1, two.covers))
              (λ (not : variant g ≡ a → ⊥).
              let d = before.lasts g g_in (omega (arith, below, not)) some in
              (d.0, d.1, d.2, d.3, stays d.0 d.4))
              (cases_eq (variant g) a);
        }
