-- Counts that are added point by point.
use Rattle.std.proofs.Common.{◌≡◌, ◌≢◌, ◌<◌, ◌≤◌, ◌+◌, ℕ, List, length, set, get_or, refl, sym, ap, ◌∙◌, ⊎_elim, arith, length-set}
use Rattle.std.proofs.lemmas.Bool.{cases_eq, cases_lt}
use Rattle.std.proofs.lemmas.List.{get_or-set_same, get_or-set_other, get_or_past}
use Rattle.note_tallies.specs.Join.{IsSum}
use Rattle.note_tallies.specs.Tally.{most_at_point}

-- the points below i are done
pub record IsPart (old more now : List ℕ) (i : ℕ) : Type 0 where
  pub whole : length now ≡ length old
  pub done : (p : ℕ) → p < i → get_or now p 0 ≡ get_or old p 0 + get_or more p 0
  pub small : (p : ℕ) → p < i → get_or old p 0 + get_or more p 0 ≤ most_at_point
  pub rest : (p : ℕ) → i ≤ p → get_or now p 0 ≡ get_or old p 0

pub part_none : (old more : List ℕ) → IsPart old more old 0
part_none old more = record { whole = refl; done = λ p h. absurd (omega (arith, h)); small = λ p h. absurd (omega (arith, h)); rest = λ p h. refl }

pub part_more : (old more now : List ℕ) (i v : ℕ) → IsPart old more now i → i < length old → v ≡ get_or old i 0 + get_or more i 0 → v ≤ most_at_point → IsPart old more (set now i v) (i + 1)
part_more old more now i v part room is fits =
    record {
      whole = length-set now i v ∙ part.whole;
      done = λ p below. ⊎_elim
          (λ (same : p ≡ i). ap (λ q. get_or (set now i v) q 0) same ∙ get_or-set_same now i v 0 (omega (arith, room, part.whole)) ∙ is ∙ ap (λ q. get_or old q 0 + get_or more q 0) (sym same))
          (λ (other : p ≢ i). get_or-set_other now i p v 0 other ∙ part.done p (omega (arith, below, other)))
          (cases_eq p i);
      small = λ p below. ⊎_elim
          (λ (same : p ≡ i). let at : get_or old p 0 + get_or more p 0 ≡ v = ap (λ q. get_or old q 0 + get_or more q 0) same ∙ sym is in omega (arith, at, fits))
          (λ (other : p ≢ i). part.small p (omega (arith, below, other)))
          (cases_eq p i);
      rest = λ p above. get_or-set_other now i p v 0 (λ same. omega (arith, same, above)) ∙ part.rest p (omega (arith, above));
    }

-- all points are done
pub part_all : (old more now : List ℕ) (i : ℕ) → IsPart old more now i → length more ≤ i → length more ≡ length old → IsSum old more now
part_all old more now i part end same =
    record {
      whole = part.whole;
      each = λ p. ⊎_elim
          (λ (below : p < i). part.done p below)
          (λ (above : i ≤ p). let none = get_or_past more p 0 (omega (arith, above, end)) in let rest = part.rest p above in omega (arith, none, rest))
          (cases_lt p i);
    }

pub part_small : (old more now : List ℕ) (i : ℕ) → IsPart old more now i → length more ≤ i → length more ≡ length old → (p : ℕ) → get_or old p 0 + get_or more p 0 ≤ most_at_point
part_small old more now i part end same p =
    ⊎_elim
    (λ (below : p < i). part.small p below)
    (λ (above : i ≤ p). let none = get_or_past more p 0 (omega (arith, above, end)) in let none_too = get_or_past old p 0 (omega (arith, above, end, same)) in omega (arith, none, none_too))
    (cases_lt p i)
