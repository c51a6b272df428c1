-- Lines that were sorted, and of which each was kept once.
use denote.Ref.{Bor}
use Rattle.std.proofs.Common.{◌≡◌, ℕ, Bool, Ordering, nat_eq, List, [], ◌∷◌, IsPermutation, sym, ◌∙◌, subst}
use Rattle.std.proofs.lemmas.List.Kept.{Any-dedup, Contains-from_dedup, IsStrictlySortedBy-dedup}
use Rattle.std.proofs.lemmas.List.Sorted.{Contains-permutation, IsPermutation-sym}
use Rattle.std.specs.Cmp.Lexicographic.{on_texts, on_texts_equal, pointwise, same_text, slice_cmp, texts_ties}
use Rattle.std.specs.List.{AllByRecursion, Contains, dedup}
use Rattle.std.specs.List.Sorted.{IsSorted, IsStrictlySortedBy}
use Rattle.std.specs.Ordering.{nat_cmp}
use Rattle.std.specs.declared.cmp.Ordering.TheVariants.{Less}
use Rattle.book_core.specs.Page.{bytes_cmp}
use Rattle.byte_streams.specs.Lines.{lines_view}
use Rattle.note_streams.proofs.Among.{In, from_in, in_map, map_in, to_in}
use Rattle.note_streams.specs.LogLines.{all_lines}
use Rattle.note_streams.specs.Sorted.{AreDistinct}

-- two lines in memory with the same bytes
abbrev pub same_line : Bor (List ℕ) → Bor (List ℕ) → Bool
same_line x y = pointwise nat_eq x.now y.now

abbrev pub line_cmp : Bor (List ℕ) → Bor (List ℕ) → Ordering
line_cmp x y = slice_cmp nat_cmp x.now y.now

all_below : (x : Bor (List ℕ)) (xs : List (Bor (List ℕ))) → AllByRecursion (λ y. line_cmp x y ≡ Less) xs → AllByRecursion (λ (y : List ℕ). bytes_cmp x.now y ≡ Less) (lines_view xs)
all_below x [] all = tt
all_below x (y ∷ ys) all = (all.0, all_below x ys all.1)

rising_view : (xs : List (Bor (List ℕ))) → IsStrictlySortedBy line_cmp xs → IsStrictlySortedBy bytes_cmp (lines_view xs)
unfolding IsStrictlySortedBy
rising_view [] rising = tt
rising_view (x ∷ xs) rising = (all_below x xs rising.0, rising_view xs rising.1)

module _ (lines sorted once : List (Bor (List ℕ))) (moved : IsPermutation lines sorted) (is : once ≡ dedup same_line sorted) where
  kept : (line : List ℕ) → Contains (lines_view once) line → Contains (lines_view lines) line
  kept line there =
      let one = in_map (λ (x : Bor (List ℕ)). x.now) once line (to_in (lines_view once) line there) in
      let among : Contains (dedup same_line sorted) one.0 = subst (λ (xs : List (Bor (List ℕ))). Contains xs one.0) is (from_in once one.0 one.1) in
      let first = Contains-permutation sorted lines one.0 (IsPermutation-sym lines sorted moved) (Contains-from_dedup same_line sorted one.0 among) in
      from_in (lines_view lines) line (subst (λ (l : List ℕ). In l (lines_view lines)) one.2 (map_in (λ (x : Bor (List ℕ)). x.now) lines one.0 (to_in lines one.0 first)))

  there_still : (line : List ℕ) → Contains (lines_view lines) line → Contains (lines_view once) line
  there_still line there =
      let one = in_map (λ (x : Bor (List ℕ)). x.now) lines line (to_in (lines_view lines) line there) in
      let among : Contains sorted one.0 = Contains-permutation lines sorted one.0 moved (from_in lines one.0 one.1) in
      let other = Any-dedup (on_texts_equal (λ (x : Bor (List ℕ)). x.now)) sorted one.0 among in
      let y = other.1 in
      let stays : In y once = subst (In y) (sym is) (to_in (dedup same_line sorted) y (other.0, other.2, other.3)) in
      let same : one.0.now ≡ y.now = same_text one.0.now y.now (sym other.4) in
      from_in (lines_view once) line (subst (λ (l : List ℕ). In l (lines_view once)) (sym same ∙ one.2) (map_in (λ (x : Bor (List ℕ)). x.now) once y stays))

  pub distinct : (files : List (List ℕ)) → lines_view lines ≡ all_lines files → IsSorted line_cmp sorted → AreDistinct files (lines_view once)
  distinct files all up = record {
    rising = rising_view once (subst (IsStrictlySortedBy line_cmp) (sym is) (IsStrictlySortedBy-dedup (on_texts (λ (x : Bor (List ℕ)). x.now)) (λ x y. texts_ties x.now y.now) sorted up));
    each = λ line there. subst (λ (ls : List (List ℕ)). Contains ls line) all (kept line there);
    all = λ line there. there_still line (subst (λ (ls : List (List ℕ)). Contains ls line) (sym all) there);
  }
