-- What a seat has seen of the one list of a book's calls.
use Rattle.std.specs.Prelude.{◌≡◌, ℕ, zero, suc, ◌+◌, List, [], ◌∷◌, ◌++◌, Bool, true, false, ◌==◌, nat_lt, if◌then◌else◌, is_ok}
use Rattle.book_core.specs.Book.{Contents}
use Rattle.book_core.specs.Calls.{Call, AreCalls, book_of_calls}
use Rattle.book_lock.specs.declared.call.Sight.{Sight}
use Rattle.book_lock.specs.declared.call.View.{View}

-- the list begins with these calls
abbrev pub StartsWith : List Call → List Call → Type 0
StartsWith all front = (rest : List Call) × (all ≡ front ++ rest)

-- the calls of one seat, in their order
abbrev pub calls_by : ℕ → List Call → List Call
calls_by k [] = []
calls_by k (c ∷ cs) = if k == c.seat then c ∷ calls_by k cs else calls_by k cs

-- each call was accepted, as New or Again
abbrev pub all_ok : List Call → Bool
all_ok [] = true
all_ok (c ∷ cs) = if is_ok c.reply then all_ok cs else false

-- a legal list: the calls that a book accepted, each with the reply that comes after those before it
abbrev pub IsLegal : List Call → Type 0
IsLegal all = AreCalls all × (all_ok all ≡ true)

abbrev pub sight : ℕ → List Call → Sight
sight number seen = record { number = number; seen = seen }

-- the list begins with what the seat has seen, and has no call of the seat that it has not seen
abbrev pub Knows : List Call → Sight → Type 0
Knows all x = StartsWith all x.seen × (calls_by x.number all ≡ calls_by x.number x.seen)

abbrev pub AllKnow : List Call → List Sight → Type 0
AllKnow all [] = Unit {0}
AllKnow all (x ∷ xs) = Knows all x × AllKnow all xs

abbrev pub view_of : Bool → List Sight → View
view_of holds seats = record { holds = holds; seats = seats }

abbrev pub one_if : Bool → ℕ
one_if true = 1
one_if false = 0

-- how often the number stands among those of the seats
abbrev pub times : ℕ → List Sight → ℕ
times k [] = 0
times k (x ∷ xs) = one_if (k == x.number) + times k xs

-- added up over all views
abbrev pub total : (View → ℕ) → List View → ℕ
total f [] = 0
total f (v ∷ vs) = f v + total f vs

-- 1 where k is below n, else 0
abbrev pub once_below : ℕ → ℕ → ℕ
once_below k n = one_if (nat_lt k n)

-- the seats below n, which have seen nothing
abbrev pub unseen : ℕ → List Sight
unseen zero = []
unseen (suc n) = sight n [] ∷ unseen n

abbrev pub first_of : List Sight → List Sight
first_of [] = []
first_of (x ∷ xs) = x ∷ []

abbrev pub rest_of : List Sight → List Sight
rest_of [] = []
rest_of (x ∷ xs) = xs

-- each seat has seen one call more
abbrev pub with_call : Call → List Sight → List Sight
with_call c [] = []
with_call c (x ∷ xs) = sight x.number (x.seen ++ c ∷ []) ∷ with_call c xs

-- each seat has seen this list
abbrev pub at_list : List Call → List Sight → List Sight
at_list all [] = []
at_list all (x ∷ xs) = sight x.number all ∷ at_list all xs

-- what the first of the seats has seen
abbrev pub seen_in : List Sight → List Call
seen_in [] = []
seen_in (x ∷ xs) = x.seen

-- the book is what these calls make, a legal list
abbrev pub IsMade : Contents → List Call → Type 0
IsMade book calls = IsLegal calls × (book ≡ book_of_calls [] calls)

-- the same, where the calls go on from what a seat had seen
abbrev pub IsMadeSince : Contents → List Call → Sight → Type 0
IsMadeSince book calls before = (book ≡ book_of_calls [] calls) × IsLegal calls × Knows calls before
