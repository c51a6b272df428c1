-- A list of calls, seat by seat.
use Rattle.std.proofs.Common.{◌==◌, ◌≡◌, ℕ, ◌+◌, ◌≤◌, List, [], ◌∷◌, ◌++◌, Bool, true, false, true≢false, ◌&&◌, ◌||◌, cond, length, nat_lt, is_ok, sum_by, refl, sym, ap, ◌∙◌, arith, eq-eqb}
use Rattle.std.proofs.lemmas.Bool.Decides.{nat_tests}
use Rattle.std.proofs.lemmas.List.Sums.{sum_by-cons}
use Rattle.book_core.specs.Page.{PageName}
use Rattle.book_core.specs.Calls.{Call, is_new, stands}
use Rattle.book_lock.specs.Counts.{news_of, own}
use Rattle.book_lock.specs.Seen.{calls_by, AllKnow, one_if, once_below, times}
use Rattle.book_lock.specs.Told.{all_told, tells, times_new}
use Rattle.book_lock.specs.declared.call.Sight.{Sight}

-- added up over calls
abbrev amount : (Call → ℕ) → List Call → ℕ
amount f [] = 0
amount f (c ∷ cs) = f c + amount f cs

-- added up over the calls of each seat
abbrev dealt : (Call → ℕ) → List Call → List Sight → ℕ
dealt f all [] = 0
dealt f all (x ∷ xs) = amount f (calls_by x.number all) + dealt f all xs

amount-append : (f : Call → ℕ) (xs ys : List Call) → amount f (xs ++ ys) ≡ amount f xs + amount f ys
amount-append f [] ys = omega arith
amount-append f (x ∷ xs) ys = let later = amount-append f xs ys in omega (arith, later)

filled : {X : Type 0} (c : Call) (cs : List Call) → c ∷ cs ≡ [] → X
filled c cs e = let n : length (c ∷ cs) ≡ 0 = ap length e in absurd (omega (arith, n))

-- ---- one call more

other_case : (f : Call → ℕ) (c : Call) (cs : List Call) (k t l r : ℕ) (b d : Bool) → (k == c.seat) ≡ b → (c.seat == k) ≡ d → one_if d + t ≡ 0 → (t ≡ 0 → l ≡ r)
    → amount f (cond b (c ∷ cs) cs) + l ≡ amount f cs + r
other_case f c cs k t l r true true e g none later = absurd (omega (arith, none))
other_case f c cs k t l r true false e g none later = absurd (grind (arith, nat_tests))
other_case f c cs k t l r false true e g none later = absurd (omega (arith, none))
other_case f c cs k t l r false false e g none later = let same = later (omega (arith, none)) in omega (arith, same)

-- a call of none of these seats
dealt_other : (f : Call → ℕ) (c : Call) (cs : List Call) (seats : List Sight) → times c.seat seats ≡ 0 → dealt f (c ∷ cs) seats ≡ dealt f cs seats
dealt_other f c cs [] none = refl
dealt_other f c cs (x ∷ xs) none =
    other_case f c (calls_by x.number cs) x.number (times c.seat xs) (dealt f (c ∷ cs) xs) (dealt f cs xs) (x.number == c.seat) (c.seat == x.number) refl refl none (dealt_other f c cs xs)

one_case : (f : Call → ℕ) (c : Call) (cs : List Call) (k t l r : ℕ) (b d : Bool) → (k == c.seat) ≡ b → (c.seat == k) ≡ d → one_if d + t ≡ 1 → (t ≡ 0 → l ≡ r) → (t ≡ 1 → l ≡ f c + r)
    → amount f (cond b (c ∷ cs) cs) + l ≡ f c + (amount f cs + r)
one_case f c cs k t l r true true e g one other later = let same = other (omega (arith, one)) in omega (arith, same)
one_case f c cs k t l r true false e g one other later = absurd (grind (arith, nat_tests))
one_case f c cs k t l r false true e g one other later = absurd (grind (arith, nat_tests))
one_case f c cs k t l r false false e g one other later = let more = later (omega (arith, one)) in omega (arith, more)

-- a call of one of these seats
dealt_one : (f : Call → ℕ) (c : Call) (cs : List Call) (seats : List Sight) → times c.seat seats ≡ 1 → dealt f (c ∷ cs) seats ≡ f c + dealt f cs seats
dealt_one f c cs [] one = absurd (omega (arith, one))
dealt_one f c cs (x ∷ xs) one =
    one_case f c (calls_by x.number cs) x.number (times c.seat xs) (dealt f (c ∷ cs) xs) (dealt f cs xs) (x.number == c.seat) (c.seat == x.number) refl refl one (dealt_other f c cs xs) (dealt_one f c cs xs)

-- ---- all calls

nothing : (f : Call → ℕ) (seats : List Sight) → dealt f [] seats ≡ 0
nothing f [] = refl
nothing f (x ∷ xs) = let later = nothing f xs in omega (arith, later)

own_there : (k : ℕ) (c : Call) (cs : List Call) (b : Bool) → (k == c.seat) ≡ b → k ≡ c.seat → cond b (c ∷ cs) cs ≡ [] → nat_lt 1 0 ≡ true
own_there k c cs true e same none = filled c cs none
own_there k c cs false e same none = absurd (true≢false (sym (eq-eqb k c.seat same) ∙ e))

rest_none : (b : Bool) (c : Call) (cs : List Call) → cond b (c ∷ cs) cs ≡ [] → cs ≡ []
rest_none true c cs e = filled c cs e
rest_none false c cs e = e

known_number : (k n : ℕ) (b : Bool) → nat_lt k n ≡ b → (n ≤ k → nat_lt 1 0 ≡ true) → one_if b ≡ 1
known_number k n true e f = refl
known_number k n false e f = let no = f (grind (arith, nat_tests)) in absurd (grind (arith, nat_tests))

-- the calls of all seats are the calls
all_dealt : (f : Call → ℕ) (n : ℕ) (seats : List Sight) → ((k : ℕ) → times k seats ≡ once_below k n) → (cs : List Call) → ((k : ℕ) → n ≤ k → calls_by k cs ≡ []) → dealt f cs seats ≡ amount f cs
all_dealt f n seats each [] none = nothing f seats
all_dealt f n seats each (c ∷ cs) none =
    let later = all_dealt f n seats each cs (λ k above. rest_none (k == c.seat) c (calls_by k cs) (none k above)) in
    let one = known_number c.seat n (nat_lt c.seat n) refl (λ above. own_there c.seat c (calls_by c.seat cs) (c.seat == c.seat) refl refl (none c.seat above)) in
    dealt_one f c cs seats (each c.seat ∙ one) ∙ ap (λ m. f c + m) later

-- what the seats were told is what the list has of each
told_dealt : (f : Call → ℕ) (all : List Call) (seats : List Sight) → AllKnow all seats → amount f (all_told seats) ≡ dealt f all seats
told_dealt f all [] knows = refl
told_dealt f all (x ∷ xs) knows =
    let here : amount f (calls_by x.number all) ≡ amount f (own x) = ap (amount f) knows.0.1 in
    let later = told_dealt f all xs knows.1 in
    let both = amount-append f (own x) (all_told xs) in
    omega (arith, here, later, both)

-- ---- what is counted

abbrev new_of : Call → ℕ
new_of c = one_if (is_new c.reply)

new_amount : (cs : List Call) → news_of cs ≡ amount new_of cs
new_amount [] = refl
new_amount (c ∷ cs) = ap (λ n. one_if (is_new c.reply) + n) (new_amount cs)

abbrev new_here : PageName → List ℕ → Call → ℕ
new_here page input c = one_if (is_new c.reply && tells page input c)

times_amount : (page : PageName) (input : List ℕ) (cs : List Call) → times_new page input cs ≡ amount (new_here page input) cs
unfolding times_new
times_amount page input [] = refl
times_amount page input (c ∷ cs) = ap (λ n. one_if (is_new c.reply && tells page input c) + n) (times_amount page input cs)

abbrev taken_here : PageName → List ℕ → Call → ℕ
taken_here page input c = one_if (is_ok c.reply && tells page input c)

none_more : (n : ℕ) → n ≡ 0 + n
none_more n = omega arith

any_more : (b d : Bool) (n : ℕ) → d ≡ nat_lt 0 n → (b || d) ≡ nat_lt 0 (one_if b + n)
any_more true d n e = sym (grind (arith, nat_tests))
any_more false d n e = e ∙ ap (nat_lt 0) (none_more n)

stands_amount : (page : PageName) (input : List ℕ) (cs : List Call) → stands cs page input ≡ nat_lt 0 (amount (taken_here page input) cs)
unfolding stands
stands_amount page input [] = sym (grind (arith, nat_tests))
stands_amount page input (c ∷ cs) = any_more (is_ok c.reply && tells page input c) (stands cs page input) (amount (taken_here page input) cs) (stands_amount page input cs)

-- ---- what the seats were told

same_amount : (f : Call → ℕ) (n : ℕ) (all : List Call) (seats : List Sight) → ((k : ℕ) → times k seats ≡ once_below k n) → ((k : ℕ) → n ≤ k → calls_by k all ≡ []) → AllKnow all seats
    → amount f (all_told seats) ≡ amount f all
same_amount f n all seats each none knows = told_dealt f all seats knows ∙ all_dealt f n seats each all none

pub same_times : (n : ℕ) (all : List Call) (seats : List Sight) → ((k : ℕ) → times k seats ≡ once_below k n) → ((k : ℕ) → n ≤ k → calls_by k all ≡ []) → AllKnow all seats
    → (page : PageName) (input : List ℕ) → times_new page input (all_told seats) ≡ times_new page input all
same_times n all seats each none knows page input =
    times_amount page input (all_told seats) ∙ same_amount (new_here page input) n all seats each none knows ∙ sym (times_amount page input all)

pub same_stands : (n : ℕ) (all : List Call) (seats : List Sight) → ((k : ℕ) → times k seats ≡ once_below k n) → ((k : ℕ) → n ≤ k → calls_by k all ≡ []) → AllKnow all seats
    → (page : PageName) (input : List ℕ) → stands (all_told seats) page input ≡ stands all page input
same_stands n all seats each none knows page input =
    stands_amount page input (all_told seats) ∙ ap (nat_lt 0) (same_amount (taken_here page input) n all seats each none knows) ∙ sym (stands_amount page input all)

news_dealt : (all : List Call) (seats : List Sight) → AllKnow all seats → sum_by (λ x. news_of (own x)) seats ≡ dealt new_of all seats
news_dealt all [] knows = refl
news_dealt all (x ∷ xs) knows =
    let g : Sight → ℕ = λ y. news_of (own y) in
    let put = sum_by-cons g x xs in
    let here : amount new_of (calls_by x.number all) ≡ amount new_of (own x) = ap (amount new_of) knows.0.1 in
    let later : sum_by g xs ≡ dealt new_of all xs = news_dealt all xs knows.1 in
    let is = new_amount (own x) in
    omega (arith, put, here, later, is)

pub same_news : (n : ℕ) (all : List Call) (seats : List Sight) → ((k : ℕ) → times k seats ≡ once_below k n) → ((k : ℕ) → n ≤ k → calls_by k all ≡ []) → AllKnow all seats
    → sum_by (λ x. news_of (own x)) seats ≡ news_of all
same_news n all seats each none knows = news_dealt all seats knows ∙ all_dealt new_of n seats each all none ∙ sym (new_amount all)
