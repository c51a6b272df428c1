-- One group more.
use Rattle.std.proofs.Common.{◌++◌, ◌∷◌, ℕ, [], List, take, get_or, Bor, refl, sym, subst}
use Rattle.std.specs.Map.{keys_of}
use Rattle.price_core.specs.Limits.{limits_view}
use Rattle.transport_core.specs.Groups.{GroupKey, row_view, rows_view}
use Rattle.transport_plan.specs.Network.{AreGroups, IsGroup}
use Rattle.min_cost_flow.specs.declared.problem.Group.{Group}
use Rattle.transport_plan.proofs.ListedGroups.{group_more, rows-more, row-listed}
use Rattle.transport_plan.proofs.network.groups.Goals as goal

pub place_from-variant-requires : goal.place_from-variant-requires
place_from-variant-requires c = record { listed = row-listed (keys_of (limits_view c.args.limits.now)) c.args.rows.now c.loop-name.name-index ((record { ref_ptr = (0, 0); now = [] }, 0), 0) c.requires.listed c.loop-name-test.true }

pub loop-name-preserved : goal.loop-name-preserved
loop-name-preserved c =
    let names = keys_of (limits_view c.args.limits.now) in
    let rows = c.args.rows.now in
    let i = c.loop-name.name-index in
    let d : (Bor (List ℕ) × ℕ) × ℕ = ((record { ref_ptr = (0, 0); now = [] }, 0), 0) in
    let x = get_or rows i d in
    let group : Group = record { variant = c.place_from-variant.result; count = x.0.1; points = x.1 } in
    let is : IsGroup names (row_view x) group = record { variant = c.place_from-variant.ensures; count = refl; points = refl } in
    let more = group_more names (rows_view (take i rows)) (row_view x) c.loop-name.groups.items group c.loop-name.invariant is in
    subst (λ (rs : List (GroupKey × ℕ)). AreGroups names rs c.push.new.self.items) (sym (rows-more rows i d c.loop-name-test.true))
    (subst (λ (gs : List Group). AreGroups names (rows_view (take i rows) ++ row_view x ∷ []) gs) (sym (c.in_ok-push.ensures.items)) more)
