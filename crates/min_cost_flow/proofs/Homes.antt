-- Each group's points are put at its old variant, one group after the other.
use Rattle.std.proofs.Common.{◌≡◌, ◌==◌, ℕ, suc, ◌+◌, ◌*◌, ◌<◌, ◌≤◌, ⊎_elim, List, length, get_or, set, cond, sym, ap, ◌∙◌, arith}
use Rattle.std.proofs.lemmas.Bool.{cases_eq}
use Rattle.std.proofs.lemmas.Bool.Decides.{nat_tests}
use Rattle.std.proofs.lemmas.List.{get_or-set_same, get_or-set_other, length-set}
use Rattle.std.proofs.lemmas.Nat.{same_from_place}
use Rattle.min_cost_flow.specs.Problem.{group_at, sum_to}
use Rattle.min_cost_flow.specs.declared.problem.Group.{Group}
use Rattle.min_cost_flow.proofs.Cells.{cell_in}
use Rattle.min_cost_flow.specs.Flow.{cell_at}
use Rattle.min_cost_flow.specs.Initial.{at_home}
use Rattle.min_cost_flow.proofs.Sums.{sum_at_most, sum_prefix}

here_test : (v x points : ℕ) → v ≡ x → ◌≡◌ {A = ℕ} (cond (v == x) points 0) points
here_test v x points is = grind (arith, nat_tests)

away_test : (v x points : ℕ) → (v ≡ x → ⊥) → ◌≡◌ {A = ℕ} (cond (v == x) points 0) 0
away_test v x points not = grind (arith, nat_tests)

pub home_here : (groups : List Group) (g v : ℕ) → v ≡ (group_at groups g).variant → at_home groups g v ≡ (group_at groups g).points
home_here groups g v is = here_test v (group_at groups g).variant (group_at groups g).points is

pub home_away : (groups : List Group) (g v : ℕ) → (v ≡ (group_at groups g).variant → ⊥) → at_home groups g v ≡ 0
home_away groups g v not = away_test v (group_at groups g).variant (group_at groups g).points not

pub home_small : (groups : List Group) (g v : ℕ) → at_home groups g v ≤ (group_at groups g).points
home_small groups g v = ⊎_elim (λ (is : v ≡ (group_at groups g).variant). omega (arith, home_here groups g v is)) (λ (not : v ≡ (group_at groups g).variant → ⊥). omega (arith, home_away groups g v not)) (cases_eq v (group_at groups g).variant)

-- the groups below `g` are put, and nothing else
pub record HomesBelow (groups : List Group) (k g : ℕ) (placed sums : List ℕ) : Type 0 where
  pub size : length placed ≡ length groups * k
  pub many : length sums ≡ k
  pub cells : (h v : ℕ) → v < k → h < g → cell_at placed k h v ≡ at_home groups h v
  pub rest : (h v : ℕ) → v < k → g ≤ h → cell_at placed k h v ≡ 0
  pub totals : (v : ℕ) → v < k → get_or sums v 0 ≡ sum_to g (λ h. at_home groups h v)

module _ (groups : List Group) (k g : ℕ) (placed sums : List ℕ) (before : HomesBelow groups k g placed sums) (g_in : g < length groups) (variant_in : (group_at groups g).variant < k) where
  -- the total has room for the points
  pub room : sum_to (length groups) (λ h. (group_at groups h).points) ≤ 1000000 → get_or sums (group_at groups g).variant 0 + (group_at groups g).points ≤ 1000000
  room weight =
      omega (
        arith,
        weight,
        before.totals (group_at groups g).variant variant_in,
        sum_at_most g (λ h. at_home groups h (group_at groups g).variant) (λ h. (group_at groups h).points) (λ h _. home_small groups h (group_at groups g).variant),
        sum_prefix (suc g) (length groups) (λ h. (group_at groups h).points) (omega (arith, g_in)),
      )

  module _ (placed' sums' : List ℕ) (put : placed' ≡ set placed (g * k + (group_at groups g).variant) (group_at groups g).points) (added : sums' ≡ set sums (group_at groups g).variant (get_or sums (group_at groups g).variant 0 + (group_at groups g).points)) where
    cell : ℕ
    cell = g * k + (group_at groups g).variant

    other_cell : (h v : ℕ) → v < k → (h ≡ g → v ≡ (group_at groups g).variant → ⊥) → cell_at placed' k h v ≡ cell_at placed k h v
    other_cell h v v_in not =
        ap (λ xs. get_or xs (h * k + v) 0) put
        ∙ get_or-set_other placed (g * k + (group_at groups g).variant) (h * k + v) (group_at groups g).points 0
        (λ is. let s = same_from_place h v g (group_at groups g).variant k v_in variant_in is in not s.0 s.1)

    this_cell : cell_at placed' k g (group_at groups g).variant ≡ (group_at groups g).points
    this_cell =
        ap (λ xs. get_or xs (g * k + (group_at groups g).variant) 0) put
        ∙ get_or-set_same placed (g * k + (group_at groups g).variant) (group_at groups g).points 0 (omega (arith, before.size, cell_in (length groups) k g (group_at groups g).variant g_in variant_in))

    at_g : (v : ℕ) → v < k → cell_at placed' k g v ≡ at_home groups g v
    at_g v v_in =
        ⊎_elim
        (λ (is : v ≡ (group_at groups g).variant). ap (cell_at placed' k g) is ∙ (this_cell ∙ sym (home_here groups g v is)))
        (λ (not : v ≡ (group_at groups g).variant → ⊥). other_cell g v v_in (λ _. not) ∙ (before.rest g v v_in (omega arith) ∙ sym (home_away groups g v not)))
        (cases_eq v (group_at groups g).variant)

    total_at_g : (v : ℕ) → v < k → get_or sums' v 0 ≡ sum_to (g + 1) (λ h. at_home groups h v)
    total_at_g v v_in =
        ⊎_elim
        (λ (is : v ≡ (group_at groups g).variant).
        let now : get_or sums' (group_at groups g).variant 0 ≡ get_or sums (group_at groups g).variant 0 + (group_at groups g).points =
        ap (λ xs. get_or xs (group_at groups g).variant 0) added ∙ get_or-set_same sums (group_at groups g).variant (get_or sums (group_at groups g).variant 0 + (group_at groups g).points) 0 (omega (arith, before.many, variant_in)) in
        omega (arith, now, ap (λ x. get_or sums' x 0) is, ap (λ x. get_or sums x 0) is, before.totals v v_in, home_here groups g v is, more g (λ h. at_home groups h v)))
        (λ (not : v ≡ (group_at groups g).variant → ⊥).
        omega (
          arith,
          ap (λ xs. get_or xs v 0) added ∙ get_or-set_other sums (group_at groups g).variant v (get_or sums (group_at groups g).variant 0 + (group_at groups g).points) 0 not,
          before.totals v v_in,
          home_away groups g v not,
          more g (λ h. at_home groups h v),
        ))
        (cases_eq v (group_at groups g).variant)
      where
        more : (n : ℕ) (f : ℕ → ℕ) → sum_to (n + 1) f ≡ sum_to n f + f n
        more n f = ap (λ m. sum_to m f) (next n)
          where
            next : (n : ℕ) → n + 1 ≡ suc n
            next n = omega arith

    pub one_more : HomesBelow groups k (g + 1) placed' sums'
    one_more = record {
      size = ap length put ∙ (length-set placed (g * k + (group_at groups g).variant) (group_at groups g).points ∙ before.size);
      many = ap length added ∙ (length-set sums (group_at groups g).variant (get_or sums (group_at groups g).variant 0 + (group_at groups g).points) ∙ before.many);
      cells = λ h v v_in h_in.
          ⊎_elim
          (λ (is : h ≡ g). ap (λ x. cell_at placed' k x v) is ∙ (at_g v v_in ∙ ap (λ x. at_home groups x v) (sym is)))
          (λ (not : h ≡ g → ⊥). other_cell h v v_in (λ is _. not is) ∙ before.cells h v v_in (omega (arith, h_in, not)))
          (cases_eq h g);
      rest = λ h v v_in above. other_cell h v v_in (λ is _. absurd (omega (arith, is, above))) ∙ before.rest h v v_in (omega (arith, above));
      totals = total_at_g;
    }
