-- A tally of inputs is one of them in any order.
use Rattle.std.proofs.Common.{◌≡◌, ◌==◌, ℕ, List, map, if◌then◌else◌, sym, ◌∙◌}
use Rattle.std.specs.Prelude.{IsPermutation}
use Rattle.std.specs.List.{range_with_len}
use Rattle.std.proofs.lemmas.List.Sorted.{length_permutation, sum_by-IsPermutation}
use Rattle.bucket_core.specs.Point.{point_of}
use Rattle.book_core.specs.Book.{Inputs}
use Rattle.book_core.specs.Counts.{inputs_at, counts_of}
use Rattle.note_tallies.specs.JoinLaw.{TalliesInAnyOrder}

-- as many on a point
inputs_at_alike : (members others : Inputs) (total p : ℕ) → IsPermutation members others → inputs_at others total p ≡ inputs_at members total p
inputs_at_alike members others total p same = sum_by-IsPermutation (λ (input : List ℕ). if point_of total input == p then 1 else 0) members others same

pub in_any_order : TalliesInAnyOrder
in_any_order t members others is same = record {
  inputs = is.inputs ∙ sym (length_permutation members others same);
  counts = is.counts ∙ sym (counts_alike members others t.total same);
}
  where
    counts_alike : (members others : Inputs) (total : ℕ) → IsPermutation members others → counts_of others total ≡ counts_of members total
    counts_alike members others total same = λ i. map (λ (p : ℕ). inputs_at_alike members others total p same i) (range_with_len 0 total)
