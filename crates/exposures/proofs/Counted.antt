-- Counts of the inputs at each point.
use Rattle.std.proofs.Common.{◌≡◌, ◌≢◌, ℕ, ◌+◌, ◌<◌, ⊎_elim, List, [], ◌∷◌, map, length, take, get_or, set, count_by, eqb, true, false, if◌then◌else◌, String, string_bytes, refl, sym, ap, ◌∙◌}
use Rattle.std.specs.declared.alloc.Global.{Global}
use Rattle.std.proofs.lemmas.Bool.{cases_eq, eq-eqb, ne_eqb}
use Rattle.std.proofs.lemmas.List.{get_or-set_same, get_or-set_other, get_or_read}
use Rattle.std.proofs.lemmas.List.Sums.{sum_by-cons, count_by_more_yes, count_by_more_no}
use Rattle.bucket_core.specs.Point.{point_of}
use Rattle.exposures.specs.Counts.{inputs_at}

-- one more input at its point
pub one_counted : {X : Type 0} (at : X → ℕ) (counts : List ℕ) (inputs : List X) (i : ℕ) (x : X) (q v total : ℕ) → i < length inputs → x ≡ get_or inputs i x → q ≡ at x → q < length counts → v ≡ get_or counts q v
    → ((p : ℕ) → p < total → get_or counts p 0 ≡ count_by (λ y. eqb (at y) p) (take i inputs))
    → (p : ℕ) → p < total → get_or (set counts q (v + 1)) p 0 ≡ count_by (λ y. eqb (at y) p) (take (i + 1) inputs)
one_counted at counts inputs i x q v total inside is falls room was before p below =
    let had = before p below in
    ⊎_elim
    (λ (same : p ≡ q).
    let here : eqb (at (get_or inputs i x)) p ≡ true = rw (sym is, sym falls) (eq-eqb q p (sym same)) in
    let more = count_by_more_yes (λ y. eqb (at y) p) inputs i x inside here in
    let old : v ≡ count_by (λ y. eqb (at y) p) (take i inputs) = get_or_read counts q v room was 0 ∙ ap (λ k. get_or counts k 0) (sym same) ∙ had in
    ap (λ k. get_or (set counts q (v + 1)) k 0) same ∙ get_or-set_same counts q (v + 1) 0 room ∙ ap (λ n. n + 1) old ∙ sym more)
    (λ (other : p ≢ q).
    let here : eqb (at (get_or inputs i x)) p ≡ false = rw (sym is, sym falls) (ne_eqb q p (λ e. other (sym e))) in
    let more = count_by_more_no (λ y. eqb (at y) p) inputs i x inside here in
    rw more (get_or-set_other counts q p (v + 1) 0 other ∙ had))
    (cases_eq p q)

-- a count over texts is one over their bytes
pub counted_texts : (total p : ℕ) (inputs : List (String Global)) → count_by (λ input. eqb (point_of total (string_bytes input)) p) inputs ≡ inputs_at (map string_bytes inputs) total p
counted_texts total p [] = refl
counted_texts total p (x ∷ xs) =
    let f : String Global → ℕ = λ input. if eqb (point_of total (string_bytes input)) p then 1 else 0 in
    let g : List ℕ → ℕ = λ input. if eqb (point_of total input) p then 1 else 0 in
    sum_by-cons f x xs ∙ (ap (λ n. f x + n) (counted_texts total p xs) ∙ sym (sum_by-cons g (string_bytes x) (map string_bytes xs)))
