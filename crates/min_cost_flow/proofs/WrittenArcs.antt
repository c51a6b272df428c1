-- Arcs that are written anew: those from one name, and those between it and the root.
use Rattle.std.proofs.Common.{◌≡◌, ℕ, ◌+◌, ◌-◌, ◌*◌, ◌<◌, ◌≤◌, ⊎_elim, List, length, length-take, length-drop, take, drop, get_or, set, Option, None, ap, ◌∙◌, arith}
use Rattle.std.proofs.Math.Nat.{mul-le-mul_right}
use Rattle.std.proofs.lemmas.Bool.{cases_eq, cases_lt}
use Rattle.std.proofs.lemmas.List.{get_or-take, get_or-drop, get_or-set_same, get_or-set_other, length-set}
use Rattle.std.proofs.lemmas.Nat.{same_from_place}
use Rattle.min_cost_flow.proofs.Cells.{cell_in, row_ends}
use Rattle.min_cost_flow.specs.Residual.{ChangesRootArcs, ChangesRow, HasArcs}
use Rattle.min_cost_flow.proofs.Places.{put_before, put_inside, put_after}
use Rattle.min_cost_flow.specs.Network.{arc_at}
use Rattle.min_cost_flow.specs.declared.arc.Arc.{Arc}
use borrow.Rule.Slice.PartMut.{put_mid}

module _ (names name : ℕ) (arcs : List (Option Arc)) (name_in : name < names) (size : HasArcs names arcs) where
  first : ℕ
  first = name * (names + 1)

  -- how many arcs from a name there are, as the bounds of a part say
  abbrev pub many : ℕ
  many = (name * (names + 1) + names) - name * (names + 1)

  many_is : many ≡ names
  many_is = omega arith

  ends : name * (names + 1) + (names + 1) ≤ (names + 1) * (names + 1)
  ends = row_ends (names + 1) (names + 1) name (omega (arith, name_in))

  fits : name * (names + 1) + many ≤ length arcs
  fits = omega (arith, ends, many_is, size)

  -- the arcs as they were
  pub part_size : length (take many (drop (name * (names + 1)) arcs)) ≡ names
  part_size = omega (arith, length-take many (drop (name * (names + 1)) arcs), length-drop (name * (names + 1)) arcs, size, ends)

  pub part_is : (w : ℕ) → w < names → get_or (take many (drop (name * (names + 1)) arcs)) w None ≡ arc_at arcs (names + 1) name w
  part_is w w_in = get_or-take many (drop (name * (names + 1)) arcs) w None (omega (arith, w_in, many_is)) ∙ get_or-drop (name * (names + 1)) arcs w None

  module _ (row : List (Option Arc)) (row_size : length row ≡ names) where
    same_size : length row ≡ many
    same_size = omega (arith, row_size, many_is)

    pub row_is : (w : ℕ) → w < names → arc_at (put_mid (name * (names + 1)) many arcs row) (names + 1) name w ≡ get_or row w None
    row_is w w_in = put_inside (name * (names + 1)) many arcs row None fits same_size w (omega (arith, w_in, many_is))

    pub row_changes : ChangesRow names name arcs (put_mid (name * (names + 1)) many arcs row)
    row_changes v w v_in w_in not =
        ⊎_elim
        (λ (before : v < name).
        put_before (name * (names + 1)) many arcs row None fits same_size (v * (names + 1) + w) (cell_in name (names + 1) v w before (omega (arith, w_in))))
        (λ (after : name ≤ v).
        put_after (name * (names + 1)) many arcs row None fits same_size (v * (names + 1) + w) (later v w v_in w_in not after))
        (cases_lt v name)
      where
        later : (v w : ℕ) → v ≤ names → w ≤ names → (v ≡ name → w < names → ⊥) → name ≤ v → name * (names + 1) + many ≤ v * (names + 1) + w
        later v w v_in w_in not after =
            ⊎_elim
            (λ (is : v ≡ name).
            ⊎_elim
            (λ (less : w < names). absurd (not is less))
            (λ (last : names ≤ w). omega (arith, last, many_is, ap (λ x. x * (names + 1)) is))
            (cases_lt w names))
            (λ (above : v ≡ name → ⊥).
            let most : (name + 1) * (names + 1) ≤ v * (names + 1) = mul-le-mul_right (names + 1) (omega (arith, after, above)) in
            omega (arith, most, many_is))
            (cases_eq v name)

  module _ (to from : Option Arc) where
    abbrev pub root_arcs_set : List (Option Arc)
    root_arcs_set = set (set arcs (name * (names + 1) + names) to) (names * (names + 1) + name) from

    apart : name * (names + 1) + names ≡ names * (names + 1) + name → ⊥
    apart is = let s = same_from_place name names names name (names + 1) (omega arith) (omega (arith, name_in)) is in omega (arith, s.0, name_in)

    pub to_is : arc_at root_arcs_set (names + 1) name names ≡ to
    to_is =
        get_or-set_other (set arcs (name * (names + 1) + names) to) (names * (names + 1) + name) (name * (names + 1) + names) from None apart
        ∙ get_or-set_same arcs (name * (names + 1) + names) to None (omega (arith, size, ends))

    pub from_is : arc_at root_arcs_set (names + 1) names name ≡ from
    from_is =
        get_or-set_same (set arcs (name * (names + 1) + names) to) (names * (names + 1) + name) from None
        (omega (arith, size, length-set arcs (name * (names + 1) + names) to, cell_in (names + 1) (names + 1) names name (omega arith) (omega (arith, name_in))))

    pub root_arcs_change : ChangesRootArcs names name arcs root_arcs_set
    root_arcs_change v w v_in w_in not_to not_from =
        get_or-set_other (set arcs (name * (names + 1) + names) to) (names * (names + 1) + name) (v * (names + 1) + w) from None
        (λ is. let s = same_from_place v w names name (names + 1) (omega (arith, w_in)) (omega (arith, name_in)) is in not_from s.0 s.1)
        ∙ get_or-set_other arcs (name * (names + 1) + names) (v * (names + 1) + w) to None
        (λ is. let s = same_from_place v w name names (names + 1) (omega (arith, w_in)) (omega arith) is in not_to s.0 s.1)
