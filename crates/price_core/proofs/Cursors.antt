-- The entry of a point, looked for from an entry that is not after it.
use Rattle.std.proofs.Common.{◌≡◌, ℕ, ◌<◌, ◌≤◌, ◌⊎◌, inl, inr, List, [], ◌∷◌, length, get_or, Bool, true, false, ltb, Some, option_map, sym, ap, ◌∙◌, subst, arith}
use Rattle.std.specs.List.{position_or_len}
use Rattle.std.proofs.lemmas.Bool.{cases_Bool, cases_lt, lt-ltb, ltb-true, ltb-false, true≢false}
use Rattle.std.proofs.lemmas.List.Sums.{fails_before_first}
use Rattle.std.proofs.lemmas.Option.{slice_get-get_or}
use Rattle.bucket_core.specs.Rule.{Entries, IsRun, at, total_weight, ends_from, end_of, entry_at, entry_name}
use Rattle.bucket_core.proofs.Ends.{end_of-entry_at}

-- where what passes the second test passes the first, the first passes no later
first_rises_by : {X : Type 0} (P Q : X → Bool) (x : X) (xs : List X) → (Q x ≡ true → P x ≡ true) → position_or_len P xs ≤ position_or_len Q xs → (P x ≡ true) ⊎ (P x ≡ false) → (Q x ≡ true) ⊎ (Q x ≡ false) → position_or_len P (x ∷ xs) ≤ position_or_len Q (x ∷ xs)
first_rises_by P Q x xs more rest (inl p) q = rw p (omega arith)
first_rises_by P Q x xs more rest (inr p) (inl q) = absurd (true≢false (sym (more q) ∙ p))
first_rises_by P Q x xs more rest (inr p) (inr q) = rw (p, q) (omega (arith, rest))

first_rises : {X : Type 0} (P Q : X → Bool) (xs : List X) → ((x : X) → Q x ≡ true → P x ≡ true) → position_or_len P xs ≤ position_or_len Q xs
first_rises P Q [] more = omega arith
first_rises P Q (x ∷ xs) more = first_rises_by P Q x xs (more x) (first_rises P Q xs more) (cases_Bool (P x)) (cases_Bool (Q x))

-- a later point has no earlier entry
pub entry_at_rises : (r : Entries) (p q : ℕ) → p ≤ q → entry_at r p ≤ entry_at r q
entry_at_rises r p q order = first_rises (λ end. ltb p end) (λ end. ltb q end) (ends_from 0 r) (λ end h. lt-ltb p end (omega (arith, order, ltb-true q end h)))

-- an entry that ends after the point is not before that of the point
pub entry_at-le : (r : Entries) (p i : ℕ) → p < end_of r i → entry_at r p ≤ i
entry_at-le r p i below = by (cases_lt i (entry_at r p))
  where
    by : (i < entry_at r p) ⊎ (entry_at r p ≤ i) → entry_at r p ≤ i
    by (inl before) = absurd (omega (arith, below, ltb-false p (get_or (ends_from 0 r) i 0) (fails_before_first (λ end. ltb p end) (ends_from 0 r) i 0 before)))
    by (inr here) = here

-- one that ends at the point or before is before that of the point
pub entry_past : (r : Entries) (p i : ℕ) → p < total_weight r → i ≤ entry_at r p → end_of r i ≤ p → i < entry_at r p
entry_past r p i inside before past = by (cases_lt i (entry_at r p))
  where
    by : (i < entry_at r p) ⊎ (entry_at r p ≤ i) → i < entry_at r p
    by (inl below) = below
    by (inr above) =
        let here : i ≡ entry_at r p = omega (arith, before, above) in
        absurd (omega (arith, past, end_of-entry_at r p inside, ap (end_of r) here))

-- the name of an entry
pub entry_named : (r : Entries) (i : ℕ) → i < length r → entry_name r i ≡ Some (get_or r i ([], 0)).0
entry_named r i within = ap (option_map (λ (e : List ℕ × ℕ). e.0)) (slice_get-get_or r i ([], 0) within)

-- the entry that holds the point, by all that its run needs
pub record Reaches (r : Entries) (p i : ℕ) : Type 0 where
  pub value : i ≡ entry_at r p
  pub within : i < length r
  pub below : p < end_of r i
  pub name : at r p ≡ entry_name r i
  pub run : IsRun r p (end_of r i)

pub reached : (r s : Entries) (p i : ℕ) → r ≡ s → i ≡ entry_at r p → i < length r → p < end_of r i → at r p ≡ entry_name r i → IsRun r p (end_of r i) → Reaches s p i
reached r s p i same value within below name run = subst (λ t. Reaches t p i) same (record { value = value; within = within; below = below; name = name; run = run })

-- the name of that entry
abbrev pub name_in : Entries → ℕ → List ℕ
name_in r i = (get_or r i ([], 0)).0

pub name_at : (r : Entries) (p i : ℕ) → Reaches r p i → at r p ≡ Some (name_in r i)
name_at r p i reached = reached.name ∙ entry_named r i reached.within

-- it is not after that of a later point
pub still_before : (r : Entries) (p q i : ℕ) → Reaches r p i → p ≤ q → i ≤ entry_at r q
still_before r p q i reached order = omega (arith, reached.value, entry_at_rises r p q order)
