-- Points move within the high limits.
use Rattle.std.proofs.Common.{◌≡◌, ℕ, ⊎_elim, List, length, get_or, ap, subst, arith}
use Rattle.min_cost_flow.specs.Flow.{total_at}
use Rattle.min_cost_flow.specs.Found.{potential_of, rank_of}
use Rattle.min_cost_flow.specs.Paths.{IsAugmented}
use Rattle.min_cost_flow.proofs.Filled.{fewer_after, filled, placed_after}
use Rattle.min_cost_flow.proofs.Spending.{less_excess}
use Rattle.min_cost_flow.proofs.placing.fill.Goals as goal

pub augment-requires-clause-path : goal.augment-requires-clause-path
augment-requires-clause-path g c =
    let path = c.requires.path in
    let limits = c.as_slice.ensures.value in
    record {
      least = path.first_pass.optimal.least;
      size = path.first_pass.size;
      many = ap (λ (xs : List ℕ). length xs) limits;
      within = path.within;
      traced = path.traced;
      above = λ v v_in on.
          ⊎_elim
          (λ (is : v ≡ c.args.from). omega (arith, c.requires.above, ap (λ x. total_at c.args.flow.now x) is, ap (λ x. get_or c.args.problem.now.high.items x 0) is, ap (λ xs. get_or xs v 0) limits))
          (λ h. absurd (path.unsettled h.0))
          on;
      below = omega (arith, path.room, ap (λ xs. get_or xs c.args.last 0) limits);
    }

pub returns-clause-filled : goal.returns-clause-filled
returns-clause-filled g c =
    let p = c.args.problem.now in
    let s = c.args.search.now in
    let old = c.args.flow.now in
    let new = c.augment.new.flow in
    let aug : IsAugmented p old new (potential_of s) (rank_of s) p.high.items c.args.from c.args.last =
    subst (λ xs. IsAugmented p old new (potential_of s) (rank_of s) xs c.args.from c.args.last) c.as_slice.ensures.value c.in_ok-augment.ensures.augmented in
    record {
      first_pass = filled p c.requires.problem old new s c.args.from c.args.last c.requires.path c.in_ok-augment.ensures.flow c.in_ok-augment.ensures.least aug;
      fewer = fewer_after p old new s c.args.from c.args.last c.requires.path aug;
      placed = placed_after p old new (potential_of s) (rank_of s) c.args.from c.args.last aug;
      lower = less_excess p old new (potential_of s) (rank_of s) c.args.from c.args.last aug;
    }
