-- A lock of one word round a book in one slot. The word is 0, or k + 1 while the seat of number k holds it.
use Rattle.std.specs.Prelude.{◌≡◌, ◌≢◌, ◌≤◌, ℕ, suc, List, [], ◌∷◌, Option, Some, None, Ok, true, false, slice_index, length}
use mathlib.Core.Option.{some}
use lib.ListN.{get_elem?}
use Rattle.atomic_table.specs.Table.{State, Me, rest}
use Rattle.book_core.specs.Book.{Contents}
use Rattle.book_core.specs.Calls.{Call, book_of_calls}
use Rattle.book_core.specs.declared.noted.Noted.TheVariants.{New}
use Rattle.book_lock.specs.Seen.{calls_by, IsLegal, AllKnow, sight, view_of, times, total, once_below, with_call, at_list}
use Rattle.book_lock.specs.declared.call.View.{View}

abbrev pub St : Type 0
St = State (Option Contents) View

abbrev pub Sat : Type 0
Sat = Me (Option Contents) View

-- the seat of number k, which has seen these calls, holds the word
abbrev pub holding : ℕ → List Call → View
holding k all = view_of true (sight k all ∷ [])

-- the same seat, which does not hold it
abbrev pub idle : ℕ → List Call → View
idle k seen = view_of false (sight k seen ∷ [])

-- nothing is known
abbrev pub spent : View
spent = view_of false []

-- There is one legal list of the calls that the book accepted.
-- While the word is 0, the slot has the book that these calls leave, and nobody holds.
-- Else just the named seat holds; it has seen the whole list, and the slot may be out with it.
-- What each seat has seen begins the list and has all its own calls. Each number below n is in one view, once, and no other is, nor made one a call.
pub record Orderly (n : ℕ) (s : St) : Type 0 where
  pub all : List Call
  pub holder : ℕ
  pub wide : length s.words ≡ 1
  pub legal : IsLegal all
  pub callers : (k : ℕ) → n ≤ k → calls_by k all ≡ []
  pub free : slice_index s.words 0 ≡ 0 → (book : Contents) × (get_elem? s.homes 0 ≡ some (some (Some book))) × (book ≡ book_of_calls [] all)
  pub nobody : slice_index s.words 0 ≡ 0 → (seat : ℕ) (v : View) → get_elem? s.views seat ≡ some v → v.holds ≡ false
  pub named : slice_index s.words 0 ≢ 0 → (v : View) × (get_elem? s.views holder ≡ some v) × (v.holds ≡ true)
  pub one : (seat : ℕ) (v : View) → get_elem? s.views seat ≡ some v → v.holds ≡ true → (seat ≡ holder) × ((k : ℕ) × (slice_index s.words 0 ≡ suc k) × (v ≡ holding k all))
  pub seen : (seat : ℕ) (v : View) → get_elem? s.views seat ≡ some v → AllKnow all v.seats
  pub numbers : (k : ℕ) → total (λ v. times k v.seats) s.views ≡ once_below k n

-- Found free: the seat holds, and has the slot with the book of the legal list that it has then seen. Else nothing changed.
abbrev pub Takes : Sat → ℕ → Sat → Type 0
Takes m r n =
    (r ≡ 0 → (all : List Call) × (n ≡ (view_of true (at_list all m.0.seats), (0, Some (book_of_calls [] all)) ∷ m.1)) × IsLegal all × AllKnow all m.0.seats)
    × (r ≢ 0 → n ≡ m)

-- given back as it was
abbrev pub Gives : Sat → Sat → Type 0
Gives m n = n ≡ (view_of false m.0.seats, rest m.1)

-- given back with one call more
abbrev pub Records : Call → Sat → Sat → Type 0
Records c m n = n ≡ (view_of false (with_call c m.0.seats), rest m.1)

-- a call that nobody made
abbrev pub no_call : Call
no_call = record { seat = 0; page = record { flag = []; site = 0; by = None }; input = []; reply = Ok New }
