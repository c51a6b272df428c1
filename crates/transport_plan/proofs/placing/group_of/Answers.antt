-- Halving finds the place where the group stands.
use Rattle.std.proofs.Common.{ℕ, List, Bor, Bool, ap, ◌∙◌, subst, rules}
use Rattle.std.specs.List.{Contains, slice_get}
use Rattle.std.specs.List.Sorted.{IsStrictlySortedBy}
use Rattle.std.specs.Ordering.{is_lt}
use Rattle.std.proofs.lemmas.List.Sorted.{IsPartitionPoint-from_clause}
use Rattle.transport_core.specs.Groups.{GroupKey, group_cmp, row_view}
use Rattle.transport_core.proofs.Placed.{group_order}
use Rattle.transport_plan.proofs.Places.{partitioned, stands_at, keys-rows}
use Rattle.transport_plan.proofs.placing.group_of.Goals as goal

pub returns : goal.returns
returns c =
    let xs = c.args.groups.now in
    let g : GroupKey = (c.args.name.now, c.args.count) in
    let key : (Bor (List ℕ) × ℕ) × ℕ → GroupKey = λ r. (row_view r).0 in
    let rise = subst (λ ks. IsStrictlySortedBy group_cmp ks) (keys-rows xs) c.requires.rise in
    let p : (Bor (List ℕ) × ℕ) × ℕ → Bool = λ y. is_lt (group_cmp (key y) g) in
    let point = IsPartitionPoint-from_clause p xs c.partition_point.result c.partition_point.ensures.partitioned (partitioned group_cmp group_order key xs rise g) (λ a r f called. search rules) in
    let at = stands_at group_cmp group_order key xs rise g c.partition_point.result c.partition_point.ensures.bound (subst (λ ks. Contains ks g) (keys-rows xs) c.requires.stands) point in
    record { within = at.0; place = ap (λ ks. slice_get ks c.partition_point.result) (keys-rows xs) ∙ at.1 }
