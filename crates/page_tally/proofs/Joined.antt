-- The fold over the lines of a book gives the counts of the wanted page of the book that they make, or their first fault.
use Rattle.std.proofs.Common.{◌≡◌, ◌≢◌, ◌<◌, ◌+◌, ◌++◌, ◌&&◌, ℕ, Bool, true, false, List, [], ◌∷◌, length, set, get_or, replicate, Option, Some, None, Result, Ok, Err, cond, unwrap_or, eqb, length-append, nat_lt, if◌then◌else◌, refl, sym, ap, ◌∙◌, ⊎_elim, arith, length-set}
use Rattle.std.proofs.lemmas.Bool.{cases_eq, eq-eqb, ne_eqb, and_parts}
use Rattle.std.proofs.lemmas.List.{get_or-set_same, get_or-set_other, get_or-replicate, length-replicate}
use Rattle.std.proofs.lemmas.List.FromFn.{fill_by_all}
use Rattle.std.proofs.lemmas.List.Sums.{sum_by-cons}
use Rattle.std.specs.Cmp.Lexicographic.{nat_list_cmp_total}
use Rattle.std.specs.List.{AllByRecursion}
use Rattle.std.specs.List.Sorted.{IsStrictlySortedBy}
use Rattle.std.specs.Map.{keys_of, lookup}
use Rattle.std.specs.BTreeMap.{is_at}
use Rattle.std.specs.Option.{option_or}
use Rattle.std.specs.Ordering.{is_lt, is_eq, ordering_reverse}
use Rattle.std.specs.declared.cmp.Ordering.{Ordering}
use Rattle.std.specs.declared.cmp.Ordering.TheVariants.{Less, Equal, Greater}
use Rattle.bucket_core.specs.Point.{point_of}
use Rattle.bucket_core.proofs.Hashes.{point_of-below}
use Rattle.book_core.specs.Book.{Inputs, Contents, inputs_on, most_inputs, most_bytes}
use Rattle.book_core.specs.Counts.{inputs_at, counts_of}
use Rattle.book_core.specs.Page.{PageName, bytes_cmp, page_cmp, page_eq}
use Rattle.book_core.specs.PageOrder.{pages_total}
use Rattle.book_core.specs.Reading.{FileLine, begins, adds, neither, is_above, input_fault, page_fault, first_fault, leading, pages_in, unless, lines_book}
use Rattle.book_core.specs.declared.fault.BookFileFault.{BookFileFault}
use Rattle.book_core.specs.declared.fault.BookFileFault.TheVariants.{Order, InputTooLong, PageFull}
use Rattle.book_core.proofs.Lawful.{lawful_lines}
use Rattle.book_core.proofs.Ordered.{All-weaker}
use Rattle.book_core.proofs.Taken.{is_less}
use Rattle.page_tally.specs.Folding.{Kept, counted, counted_if, with_input, begun, starting, passing, next_fault, is_above_last, or_fault, tally_from, tally_after}
use Rattle.page_tally.specs.Tally.{page_counts, if_book}

-- ---- counts

-- each input at its point
abbrev counts_on : ℕ → List ℕ → Inputs → List ℕ
counts_on total counts [] = counts
counts_on total counts (x ∷ xs) = counts_on total (counted total counts x) xs

length-counts_on : (xs : Inputs) (total : ℕ) (counts : List ℕ) → length (counts_on total counts xs) ≡ length counts
length-counts_on [] total counts = refl
length-counts_on (x ∷ xs) total counts =
    length-counts_on xs total (counted total counts x) ∙ length-set counts (point_of total x) (get_or counts (point_of total x) 0 + 1)

one_at : (total : ℕ) (counts x : List ℕ) (p : ℕ) → point_of total x < length counts → get_or (counted total counts x) p 0 ≡ get_or counts p 0 + (if eqb (point_of total x) p then 1 else 0)
one_at total counts x p room =
    let q = point_of total x in
    let v = get_or counts q 0 + 1 in
    ⊎_elim
    (λ (same : p ≡ q).
    let here : eqb q p ≡ true = eq-eqb q p (sym same) in
    rw here (ap (λ i. get_or (set counts q v) i 0) same ∙ get_or-set_same counts q v 0 room ∙ ap (λ i. get_or counts i 0 + 1) (sym same)))
    (λ (other : p ≢ q).
    let here : eqb q p ≡ false = ne_eqb q p (λ e. other (sym e)) in
    let same = get_or-set_other counts q p v 0 other in
    rw here (omega (arith, same)))
    (cases_eq p q)

at_each : (xs : Inputs) (total : ℕ) (counts : List ℕ) (p : ℕ) → 0 < total → length counts ≡ total → get_or (counts_on total counts xs) p 0 ≡ get_or counts p 0 + inputs_at xs total p
at_each [] total counts p some whole = omega arith
at_each (x ∷ xs) total counts p some whole =
    let room : point_of total x < length counts = omega (arith, whole, point_of-below total x some) in
    let more : length (counted total counts x) ≡ total = length-set counts (point_of total x) (get_or counts (point_of total x) 0 + 1) ∙ whole in
    let later = at_each xs total (counted total counts x) p some more in
    let here = one_at total counts x p room in
    let split = sum_by-cons (λ (input : List ℕ). if eqb (point_of total input) p then 1 else 0) x xs in
    omega (arith, later, here, split)

counts_from_nothing : (xs : Inputs) (total : ℕ) → 0 < total → counts_on total (replicate total 0) xs ≡ counts_of xs total
counts_from_nothing xs total some =
    let whole : length (replicate total 0) ≡ total = length-replicate {A = ℕ} total 0 in
    fill_by_all (inputs_at xs total) (counts_on total (replicate total 0) xs) total 0 (length-counts_on xs total (replicate total 0) ∙ whole) (λ p below.
    let each = at_each xs total (replicate total 0) p some whole in
    let none = get_or-replicate {A = ℕ} total p 0 0 below in
    omega (arith, each, none))

-- ---- the inputs of a page rise, so that the last one is enough

below_below : (o : Ordering) (q y x : List ℕ) → bytes_cmp y x ≡ o → is_lt (bytes_cmp q y) ≡ true → is_lt o ≡ true → is_lt (bytes_cmp q x) ≡ true
below_below o q y x is low high =
    ap is_lt (nat_list_cmp_total.trans q y x (is_less (bytes_cmp q y) low) (is ∙ is_less o high))

and_below : (a b : Bool) → (b ≡ true → a ≡ true) → (a && b) ≡ b
and_below true b h = refl
and_below false true h = h refl
and_below false false h = refl

and_true : (b : Bool) → (b && true) ≡ b
and_true true = refl
and_true false = refl

above_more : (had : Inputs) (y x : List ℕ) → is_above had y ≡ true → is_above (had ++ y ∷ []) x ≡ is_lt (bytes_cmp y x)
above_more [] y x above = and_true (is_lt (bytes_cmp y x))
above_more (q ∷ had) y x above =
    let p = and_parts (is_lt (bytes_cmp q y)) (is_above had y) above in
    ap (λ b. is_lt (bytes_cmp q x) && b) (above_more had y x p.1)
    ∙ and_below (is_lt (bytes_cmp q x)) (is_lt (bytes_cmp y x)) (λ high. below_below (bytes_cmp y x) q y x refl p.0 high)

-- what is known of the inputs of the page that stands
record IsKnown (had : Inputs) (last : Option (List ℕ)) (k : Kept) : Type 0 where
  many : k.inputs ≡ length had
  above : (x : List ℕ) → is_above had x ≡ is_above_last last x

fault_known : (n : ℕ) (had : Inputs) (last : Option (List ℕ)) (k : Kept) (x : List ℕ) → IsKnown had last k → input_fault n had x ≡ next_fault n last k.inputs x
fault_known n had last k x known =
    ap (λ b. if nat_lt most_bytes (length x) then Some (InputTooLong n) else (if b then (if nat_lt (length had) most_inputs then None else Some (PageFull n)) else Some (Order n))) (known.above x)
    ∙ ap (λ m. next_fault n last m x) (sym known.many)

good_above : (long above room : Bool) (n : ℕ) → (if long then Some (InputTooLong n) else (if above then (if room then None else Some (PageFull n)) else Some (Order n))) ≡ None → above ≡ true
good_above true above room n e = cc
good_above false true room n e = refl
good_above false false room n e = cc

known_more : (n : ℕ) (had : Inputs) (last : Option (List ℕ)) (k : Kept) (x : List ℕ) → IsKnown had last k → input_fault n had x ≡ None → IsKnown (had ++ x ∷ []) (Some x) (with_input k x)
known_more n had last k x known good =
    let above = good_above (nat_lt most_bytes (length x)) (is_above had x) (nat_lt (length had) most_inputs) n good in
    record {
      many = omega (arith, known.many, length-append had (x ∷ []));
      above = λ y. above_more had x y above;
    }

known_none : (k : Kept) → k.inputs ≡ 0 → IsKnown [] None k
known_none k none = record { many = none; above = λ x. refl }

-- ---- the counts of the wanted page among pages

-- after these pages, with what was counted before them
abbrev found : PageName → ℕ → List ℕ → Contents → List ℕ
found wanted total counts [] = counts
found wanted total counts (e ∷ es) = found wanted total (if page_eq e.0 wanted then counts_on total (replicate total 0) e.1 else counts) es

-- the rest of the inputs of the page that stands, where they are counted
abbrev counts_more : Option ℕ → List ℕ → Inputs → List ℕ
counts_more None counts xs = counts
counts_more (Some total) counts xs = counts_on total counts xs

-- a fault, or the counts where there is none
abbrev unless_counts : Option BookFileFault → List ℕ → Result (List ℕ) BookFileFault
unless_counts None counts = Ok counts
unless_counts (Some fault) counts = Err fault

or_both : (a b : Option BookFileFault) (r : Result (List ℕ) BookFileFault) (counts : List ℕ) → (a ≡ None → r ≡ unless_counts b counts) → or_fault a r ≡ unless_counts (option_or a b) counts
or_both None b r counts h = h refl
or_both (Some e) b r counts h = refl

begun_more : (same : Bool) (total : ℕ) (counts : List ℕ) (xs : Inputs) → counts_more (let k : Kept = if same then starting total else passing counts in k.total) (let k : Kept = if same then starting total else passing counts in k.counts) xs ≡ (if same then counts_on total (replicate total 0) xs else counts)
begun_more true total counts xs = refl
begun_more false total counts xs = refl

none_begun : (same : Bool) (total : ℕ) (counts : List ℕ) → (let k : Kept = if same then starting total else passing counts in k.inputs) ≡ 0
none_begun true total counts = refl
none_begun false total counts = refl

more_none : (total : Option ℕ) (counts : List ℕ) → counts_more total counts [] ≡ counts
more_none None counts = refl
more_none (Some total) counts = refl

more_one : (total : Option ℕ) (counts x : List ℕ) (xs : Inputs) → counts_more total (counted_if total counts x) xs ≡ counts_more total counts (x ∷ xs)
more_one None counts x xs = refl
more_one (Some total) counts x xs = refl

-- on a page
inside : (ls : List FileLine) (wanted : PageName) (total : ℕ) (page : PageName) (n : ℕ) (had : Inputs) (last : Option (List ℕ)) (k : Kept) → IsKnown had last k
    → tally_from wanted total (Some page) n last k ls ≡ unless_counts (first_fault n (Some (page, had)) ls) (found wanted total (counts_more k.total k.counts (leading ls)) (pages_in ls))
inside [] wanted total page n had last k known = ap Ok (sym (more_none k.total k.counts))
inside (neither ∷ ls) wanted total page n had last k known = refl
inside (begins next ∷ ls) wanted total page n had last k known =
    let new = begun wanted total next k.counts in
    or_both (page_fault n (Some (page, had)) next ls) (first_fault (n + 1) (Some (next, [])) ls) (tally_from wanted total (Some next) (n + 1) None new ls) (found wanted total (counts_more k.total k.counts []) ((next, leading ls) ∷ pages_in ls)) (λ good.
    inside ls wanted total next (n + 1) [] None new (known_none new (none_begun (page_eq next wanted) total k.counts))
    ∙ ap (λ cs. unless_counts (first_fault (n + 1) (Some (next, [])) ls) (found wanted total cs (pages_in ls)))
    (begun_more (page_eq next wanted) total k.counts (leading ls) ∙ ap (λ cs. if page_eq next wanted then counts_on total (replicate total 0) (leading ls) else cs) (sym (more_none k.total k.counts))))
inside (adds x ∷ ls) wanted total page n had last k known =
    let same = fault_known n had last k x known in
    ap (λ o. or_fault o (tally_from wanted total (Some page) (n + 1) (Some x) (with_input k x) ls)) (sym same)
    ∙ or_both (input_fault n had x) (first_fault (n + 1) (Some (page, had ++ x ∷ [])) ls) (tally_from wanted total (Some page) (n + 1) (Some x) (with_input k x) ls) (found wanted total (counts_more k.total k.counts (x ∷ leading ls)) (pages_in ls)) (λ good.
    inside ls wanted total page (n + 1) (had ++ x ∷ []) (Some x) (with_input k x) (known_more n had last k x known good)
    ∙ ap (λ cs. unless_counts (first_fault (n + 1) (Some (page, had ++ x ∷ [])) ls) (found wanted total cs (pages_in ls))) (more_one k.total k.counts x (leading ls)))

-- before the first page
outside : (ls : List FileLine) (wanted : PageName) (total n : ℕ) (counts : List ℕ)
    → tally_after wanted total None n counts ls ≡ unless_counts (first_fault n None ls) (found wanted total counts (pages_in ls))
outside [] wanted total n counts = refl
outside (neither ∷ ls) wanted total n counts = refl
outside (adds x ∷ ls) wanted total n counts = refl
outside (begins next ∷ ls) wanted total n counts =
    let new = begun wanted total next counts in
    or_both (page_fault n None next ls) (first_fault (n + 1) (Some (next, [])) ls) (tally_from wanted total (Some next) (n + 1) None new ls) (found wanted total counts ((next, leading ls) ∷ pages_in ls)) (λ good.
    inside ls wanted total next (n + 1) [] None new (known_none new (none_begun (page_eq next wanted) total counts))
    ∙ ap (λ cs. unless_counts (first_fault (n + 1) (Some (next, [])) ls) (found wanted total cs (pages_in ls))) (begun_more (page_eq next wanted) total counts (leading ls)))

-- ---- pages rise, so that the wanted one stands there once

none_found : (es : Contents) (wanted : PageName) (total : ℕ) (counts : List ℕ) → AllByRecursion (λ (p : PageName). page_cmp wanted p ≡ Less) (keys_of es) → found wanted total counts es ≡ counts
none_found [] wanted total counts above = refl
none_found (e ∷ es) wanted total counts above =
    let other : page_eq e.0 wanted ≡ false = ap is_eq (pages_total.antisymm e.0 wanted ∙ ap ordering_reverse above.0) in
    ap (λ b. found wanted total (if b then counts_on total (replicate total 0) e.1 else counts) es) other ∙ none_found es wanted total counts above.1

flip_eq : (a b : Ordering) → a ≡ ordering_reverse b → is_eq a ≡ is_eq b
flip_eq a Less e = ap is_eq e
flip_eq a Equal e = ap is_eq e
flip_eq a Greater e = ap is_eq e

pub is_equal : (r : Ordering) → is_eq r ≡ true → r ≡ Equal
is_equal Less e = cc
is_equal Equal e = refl
is_equal Greater e = cc

held_here : (same : Bool) (e : PageName × Inputs) (es : Contents) (wanted : PageName) (total : ℕ) → 0 < total → is_eq (page_cmp wanted e.0) ≡ same → AllByRecursion (λ (p : PageName). page_cmp e.0 p ≡ Less) (keys_of es)
    → found wanted total (replicate total 0) es ≡ counts_of (unwrap_or (lookup (is_at (page_cmp wanted)) es) []) total
    → found wanted total (if same then counts_on total (replicate total 0) e.1 else replicate total 0) es ≡ counts_of (unwrap_or (cond same (Some e.1) (lookup (is_at (page_cmp wanted)) es)) []) total
held_here true e es wanted total some is above later =
    let all = All-weaker (λ p. page_cmp e.0 p ≡ Less) (λ p. page_cmp wanted p ≡ Less) (keys_of es) (λ p low. pages_total.congr wanted e.0 p (is_equal (page_cmp wanted e.0) is) ∙ low) above in
    none_found es wanted total (counts_on total (replicate total 0) e.1) all ∙ counts_from_nothing e.1 total some
held_here false e es wanted total some is above later = later

-- what is found among rising pages is what the wanted one holds
held : (es : Contents) (wanted : PageName) (total : ℕ) → 0 < total → IsStrictlySortedBy page_cmp (keys_of es) → found wanted total (replicate total 0) es ≡ counts_of (unwrap_or (lookup (is_at (page_cmp wanted)) es) []) total
unfolding IsStrictlySortedBy
held [] wanted total some rising = counts_from_nothing [] total some
held (e ∷ es) wanted total some rising =
    let same : page_eq e.0 wanted ≡ is_eq (page_cmp wanted e.0) = flip_eq (page_cmp e.0 wanted) (page_cmp wanted e.0) (pages_total.antisymm e.0 wanted) in
    ap (λ b. found wanted total (if b then counts_on total (replicate total 0) e.1 else replicate total 0) es) same
    ∙ held_here (is_eq (page_cmp wanted e.0)) e es wanted total some refl rising.0 (held es wanted total some rising.1)

held_on : (es : Contents) (wanted : PageName) (total : ℕ) → 0 < total → IsStrictlySortedBy page_cmp (keys_of es) → found wanted total (replicate total 0) es ≡ page_counts wanted total es
unfolding inputs_on
held_on es wanted total some rising = held es wanted total some rising

book_counts : (fault : Option BookFileFault) (book : Contents) (counts : List ℕ) (wanted : PageName) (total : ℕ) → (fault ≡ None → counts ≡ page_counts wanted total book) → unless_counts fault counts ≡ if_book (page_counts wanted total) (unless fault book)
book_counts None book counts wanted total h = ap Ok (h refl)
book_counts (Some fault) book counts wanted total h = refl

-- the fold over the lines after the first is the tally of the book that they make, or their first fault
pub tally_lines : (wanted : PageName) (total : ℕ) (ls : List FileLine) → 0 < total → tally_after wanted total None 2 (replicate total 0) ls ≡ if_book (page_counts wanted total) (lines_book ls)
unfolding lines_book
tally_lines wanted total ls some =
    let book = pages_in ls in
    let fault = first_fault 2 None ls in
    outside ls wanted total 2 (replicate total 0)
    ∙ book_counts fault book (found wanted total (replicate total 0) book) wanted total (λ good.
    held_on book wanted total some (lawful_lines ls book (ap (λ o. unless o book) good)).rising)
