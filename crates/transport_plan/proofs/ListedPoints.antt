-- Facts of a flow by number, as facts of its list of flows.
use Rattle.std.proofs.Common.{String, Global, string_bytes, append-nil, ◌++◌, ◌≡◌, ℕ, zero, suc, ◌+◌, ◌*◌, ◌<◌, List, [], ◌∷◌, length, take, drop, get_or, Bool, true, false, cond, refl, sym, ap, ◌∙◌, arith}
use Rattle.std.specs.Cmp.Lexicographic.{slice_cmp}
use Rattle.std.specs.List.{list_all}
use Rattle.std.specs.List.Sorted.{IsStrictlySortedBy}
use Rattle.std.specs.Map.{keys_of}
use Rattle.std.specs.Ordering.{nat_cmp}
use Rattle.std.specs.Str.{bytes_eq}
use Rattle.std.proofs.lemmas.Bool.{and_from}
use Rattle.std.proofs.lemmas.List.{get_or-take, get_or-drop, length-take-le, length-drop}
use Rattle.std.proofs.lemmas.List.Folds.{list_all-append}
use Rattle.transport_core.specs.Assignment.{Arc, row_flows, arc_flows, inflow}
use Rattle.transport_core.specs.Groups.{GroupKey}
use Rattle.transport_core.proofs.Arcs.{arcs_step, name_at_place, row_inflow, sum_step, width_of}
use Rattle.std.proofs.lemmas.Bool.{cond-true, cond-false}
use Rattle.std.proofs.lemmas.List.{map-append}
use Rattle.bucket_core.specs.Rule.{names_view}
use Rattle.price_core.specs.Limits.{limits_view}
use Rattle.price_core.specs.declared.totals.Limit.{Limit}
use Rattle.transport_plan.specs.Chosen.{chosen}
use Rattle.transport_plan.proofs.Choosing.{chosen_more}
use Rattle.transport_plan.proofs.ListedFlow.{sum_front}
use Rattle.transport_plan.proofs.Numbering.{no_row}
use Rattle.min_cost_flow.specs.Problem.{sum_to}

row_all : (P : Arc × ℕ → Bool) (key : GroupKey) (names : List (List ℕ)) (row : List ℕ) → ((v : ℕ) → v < length names → P ((key, get_or names v []), get_or row v 0) ≡ true) → list_all P (row_flows key names row) ≡ true
row_all P key [] row each = refl
row_all P key (n ∷ names) [] each = refl
row_all P key (n ∷ names) (x ∷ row) each = and_from (P ((key, n), x)) (list_all P (row_flows key names row)) (each 0 (omega arith)) (row_all P key names row (λ v below. each (suc v) (omega (arith, below))))

later : (k g v : ℕ) (numbers : List ℕ) → get_or (drop k numbers) (g * k + v) 0 ≡ get_or numbers (suc g * k + v) 0
later k g v numbers = let same : k + (g * k + v) ≡ suc g * k + v = omega arith in get_or-drop k numbers (g * k + v) 0 ∙ ap (λ i. get_or numbers i 0) same

-- what holds of each group and name holds of all flows
pub flows_all : (P : Arc × ℕ → Bool) (groups : List (GroupKey × ℕ)) (names : List (List ℕ)) (numbers : List ℕ)
    → ((g v : ℕ) → g < length groups → v < length names → P (((get_or groups g no_row).0, get_or names v []), get_or numbers (g * length names + v) 0) ≡ true) → list_all P (arc_flows (keys_of groups) names numbers) ≡ true
flows_all P [] names numbers each = refl
flows_all P (g ∷ groups) names numbers each =
    let k = length names in
    let row = take k numbers in
    let here : (v : ℕ) → v < length names → P ((g.0, get_or names v []), get_or row v 0) ≡ true = λ v below.
    let front : v ≡ 0 * k + v = omega arith in
    let read : get_or row v 0 ≡ get_or numbers (0 * k + v) 0 = get_or-take k numbers v 0 below ∙ ap (λ i. get_or numbers i 0) front in
    ap (λ x. P ((g.0, get_or names v []), x)) read ∙ each 0 v (omega arith) below
    in
    ap (list_all P) (arcs_step g groups names k numbers row (drop k numbers) refl refl refl)
    ∙ (list_all-append P (row_flows g.0 names row) (arc_flows (keys_of groups) names (drop k numbers))
    ∙ and_from (list_all P (row_flows g.0 names row)) (list_all P (arc_flows (keys_of groups) names (drop k numbers))) (row_all P g.0 names row here)
    (flows_all P groups names (drop k numbers) (λ h v h_in v_in. ap (λ x. P (((get_or groups h no_row).0, get_or names v []), x)) (later k h v numbers) ∙ each (suc h) v (omega (arith, h_in)) v_in)))

sum_same : (n : ℕ) (f g : ℕ → ℕ) → ((i : ℕ) → f i ≡ g i) → sum_to n f ≡ sum_to n g
sum_same zero f g same = refl
sum_same (suc n) f g same = omega (arith, sum_same n f g same, same n)

-- what flows to a name is the sum of its column
pub inflow_is : (groups : List (GroupKey × ℕ)) (names : List (List ℕ)) (numbers : List ℕ) (v : ℕ) → IsStrictlySortedBy (slice_cmp nat_cmp) names → v < length names → length numbers ≡ length groups * length names
    → inflow (arc_flows (keys_of groups) names numbers) (get_or names v []) ≡ sum_to (length groups) (λ g. get_or numbers (g * length names + v) 0)
inflow_is [] names numbers v rise within size = refl
inflow_is (g ∷ groups) names numbers v rise within size =
    let k = length names in
    let row = take k numbers in
    let name = get_or names v [] in
    let wide : length row ≡ k = length-take-le k numbers (omega (arith, size)) in
    let rest : length (drop k numbers) ≡ length groups * k = omega (arith, size, length-drop k numbers) in
    let front : v ≡ 0 * k + v = omega arith in
    let read : get_or row v 0 ≡ get_or numbers (0 * k + v) 0 = get_or-take k numbers v 0 within ∙ ap (λ i. get_or numbers i 0) front in
    omega (
      arith,
      sum_step (λ (f : Arc × ℕ). cond (bytes_eq name f.0.1) f.1 0) g groups names k numbers row (drop k numbers) refl refl refl,
      row_inflow g.0 names row v rise within wide,
      read,
      inflow_is groups names (drop k numbers) v rise within rest,
      sum_same (length groups) (λ h. get_or (drop k numbers) (h * k + v) 0) (λ h. get_or numbers (suc h * k + v) 0) (λ h. later k h v numbers),
      sum_front (length groups) (λ h. get_or numbers (h * k + v) 0),
    )

-- one name more of those that are marked
module _ (limits : List Limit) (mark : ℕ → Bool) (place : ℕ) (limit : Limit) (before after : List (String Global)) (below : place < length limits) (is : limit ≡ get_or limits place limit)
    (so_far : names_view before ≡ chosen (take place (keys_of (limits_view limits))) mark) where
  keys : List (List ℕ)
  keys = keys_of (limits_view limits)

  more : chosen (take (place + 1) (keys_of (limits_view limits))) mark ≡ chosen (take place (keys_of (limits_view limits))) mark ++ cond (mark place) (string_bytes limit.name ∷ []) []
  more = chosen_more (keys_of (limits_view limits)) mark place (omega (arith, below, width_of limits)) ∙ ap (λ n. chosen (take place (keys_of (limits_view limits))) mark ++ cond (mark place) (n ∷ []) []) (name_at_place limits place limit below is)

  pub marked_yes : (name : String Global) → mark place ≡ true → string_bytes name ≡ string_bytes limit.name → after ≡ before ++ name ∷ [] → names_view after ≡ chosen (take (place + 1) (keys_of (limits_view limits))) mark
  marked_yes name set same pushed =
      ap names_view pushed ∙ (map-append string_bytes before (name ∷ [])
      ∙ (ap (λ ns. ns ++ string_bytes name ∷ []) so_far
      ∙ (ap (λ n. chosen (take place (keys_of (limits_view limits))) mark ++ n ∷ []) same
      ∙ sym (more ∙ ap (λ xs. chosen (take place (keys_of (limits_view limits))) mark ++ xs) (cond-true {A = List (List ℕ)} (mark place) (string_bytes limit.name ∷ []) [] set)))))

  pub marked_no : mark place ≡ false → after ≡ before → names_view after ≡ chosen (take (place + 1) (keys_of (limits_view limits))) mark
  marked_no unset same =
      ap names_view same ∙ (so_far ∙ sym (more ∙ (ap (λ xs. chosen (take place (keys_of (limits_view limits))) mark ++ xs) (cond-false {A = List (List ℕ)} (mark place) (string_bytes limit.name ∷ []) [] unset) ∙ append-nil (chosen (take place (keys_of (limits_view limits))) mark))))
