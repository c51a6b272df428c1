-- What the passes take, by the instance's points, groups and names.
use Rattle.std.proofs.Common.{◌≡◌, ℕ, ◌+◌, ◌*◌, ◌<◌, ◌≤◌, List, [], ◌∷◌, length, ap, ◌∙◌, arith}
use Rattle.std.proofs.Math.Nat.{mul-le-mul, mul-le-mul_left}
use Rattle.std.proofs.lemmas.List.{get_or_default}
use Rattle.min_cost_flow.specs.Effort.{Searches, nodes_of, points_of}
use Rattle.min_cost_flow.specs.Problem.{group_at, sum_to}
use Rattle.min_cost_flow.specs.declared.problem.FlowProblem.{FlowProblem}
use Rattle.min_cost_flow.specs.Spent.{Spent}
use Rattle.transport_core.specs.Groups.{GroupKey}
use Rattle.transport_core.specs.Instance.{TransportProblem, IsProblem}
use Rattle.transport_core.specs.Rows.{whole_amount}
use Rattle.transport_plan.specs.Numbered.{IsNumbered}
use Rattle.transport_plan.proofs.Numbering.{no_row, sum_to-list}

-- the points are those of the instance
pub points_are : (p : TransportProblem) (q : FlowProblem) → IsNumbered p q → points_of q ≡ whole_amount p.groups
points_are p q are =
    ap (λ n. sum_to n (λ g. (group_at q.groups.items g).points)) are.groups
    ∙ sum_to-list (λ (e : GroupKey × ℕ). e.1) p.groups (λ g. (group_at q.groups.items g).points) (λ d g below. are.points g below ∙ ap (λ (e : GroupKey × ℕ). e.1) (get_or_default p.groups g no_row d below))

some_group : (groups : List (GroupKey × ℕ)) → 0 < whole_amount groups → 0 < length groups
some_group [] some = absurd (omega (arith, some))
some_group (g ∷ groups) some = omega arith

pub augmentations_few : (p : TransportProblem) (q : FlowProblem) (old new : ℕ) → IsNumbered p q → new ≤ old + 2 * points_of q → new ≤ old + 2 * whole_amount p.groups
augmentations_few p q old new are most = omega (arith, most, points_are p q are)

-- one search more than augmentations, each of which settles the names and the limits at most, is fewer than two for each point and two more, each over the groups and names
settlings_most : (n k g w : ℕ) (old new : Spent) → Searches n 1 old new → new.augmentations ≤ old.augmentations + 2 * w → n ≡ k + 1 → 0 < g → new.settlings ≤ old.settlings + (2 * w + 2) * (g + k)
settlings_most n k g w old new searches most nodes some =
    let each : n * (new.augmentations + 1) ≤ n * (old.augmentations + (2 * w + 1)) = mul-le-mul_left n (omega (arith, most)) in
    let all : (2 * w + 1) * n ≤ (2 * w + 2) * (g + k) = mul-le-mul (omega arith) (omega (arith, nodes, some)) in
    omega (arith, searches.settlings, each, all)

pub settlings_few : (p : TransportProblem) (q : FlowProblem) (old new : Spent) → IsProblem p → IsNumbered p q → Searches (nodes_of q) 1 old new → new.augmentations ≤ old.augmentations + 2 * points_of q
    → new.settlings ≤ old.settlings + (2 * whole_amount p.groups + 2) * (length p.groups + length p.limits)
settlings_few p q old new lawful are searches most =
    settlings_most (nodes_of q) (length p.limits) (length p.groups) (whole_amount p.groups) old new searches (augmentations_few p q old.augmentations new.augmentations are most) (ap (λ n. n + 1) are.names) (some_group p.groups lawful.some)
