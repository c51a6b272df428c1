-- How a reader of a book goes from line to line.
use Rattle.std.proofs.Common.{◌≡◌, ℕ, zero, suc, ◌+◌, ◌-◌, ⊎_elim, Bool, true, false, ◌&&◌, if◌then◌else◌, append_assoc, length-append, List, [], ◌∷◌, ◌++◌, map, length, Option, Some, None, Ordering, Result, Err, slice_get, MatchOption, refl, sym, ap, ap₂, ◌∙◌, arith}
use Rattle.std.specs.Prelude.{option_map}
use Rattle.std.specs.declared.cmp.Ordering.TheVariants.{Less, Equal, Greater}
use Rattle.std.specs.Option.{option_or}
use Rattle.std.specs.Ordering.{is_lt, ordering_reverse}
use Rattle.std.specs.Cmp.{IsTotalOrder}
use Rattle.std.specs.List.{list_all, AllByRecursion}
use Rattle.std.specs.Map.{keys_of}
use Rattle.std.specs.BTreeMap.{insert_entry}
use Rattle.std.specs.BTreeSet.{insert_key}
use Rattle.std.proofs.lemmas.Bool.{cases_Bool, and_from, and_parts}
use Rattle.std.proofs.lemmas.List.{length-map}
use Rattle.book_core.specs.Page.{PageName}
use Rattle.book_core.specs.Book.{Inputs, Contents, inputs_view, contents_view}
use Rattle.book_core.specs.Lines.{line_view, with_line, with_page, last_of, TakesInputs}
use Rattle.book_core.specs.Reading.{FileLine, begins, Standing, comes_after, first_fault, ends_page, leading, pages_in, unless, lines_book}
use Rattle.book_core.specs.declared.inputs.PageInputs.{PageInputs}
use Rattle.book_core.specs.declared.line.Line.{Line}
use Rattle.book_core.specs.declared.fault.BookFileFault.{BookFileFault}
use Rattle.book_core.specs.declared.fault.BookFileFault.TheVariants.{Line as LineFault, Order}

-- ---- above the last is above all

pub is_less : (r : Ordering) → is_lt r ≡ true → r ≡ Less
is_less Less e = refl
is_less Equal e = cc
is_less Greater e = cc

-- what is not above k is below what k is below
lt_through : {K : Type 0} {R : K → K → Ordering} → IsTotalOrder R → (k q x : K) → is_lt (R k q) ≡ false → R k x ≡ Less → is_lt (R q x) ≡ true
lt_through {R = R} o k q x up below =
    elim (R k q) as (λ r. R k q ≡ r → is_lt r ≡ false → is_lt (R q x) ≡ true) [
      | Less ↦ λ e h. cc
      | Equal ↦ λ e h. ap is_lt (sym (o.congr k q x e) ∙ below)
      | Greater ↦ λ e h. ap is_lt (o.trans q k x (o.antisymm q k ∙ ap ordering_reverse e) below)
    ] refl up

all_below : {K : Type 0} {R : K → K → Ordering} → IsTotalOrder R → (ks : List K) (k x : K) → AllByRecursion (λ q. is_lt (R k q) ≡ false) ks → R k x ≡ Less → list_all (λ q. is_lt (R q x)) ks ≡ true
all_below o [] k x up below = refl
all_below o (q ∷ qs) k x up below = and_from _ _ (lt_through o k q x up.0 below) (all_below o qs k x up.1 below)

and_false : (a : Bool) → (a && false) ≡ false
and_false true = refl
and_false false = refl

some_not : {K : Type 0} (p : K → Bool) (ks : List K) (i : ℕ) (k : K) → slice_get ks i ≡ Some k → p k ≡ false → list_all p ks ≡ false
some_not p [] i k at fails = cc
some_not p (q ∷ qs) zero k at fails = let same : q ≡ k = cc in rw (same, fails) refl
some_not p (q ∷ qs) (suc i) k at fails = rw (some_not p qs i k at fails) (and_false (p q))

pub above_by_last : {K : Type 0} {R : K → K → Ordering} → IsTotalOrder R → (ks : List K) (k x : K) → AllByRecursion (λ q. is_lt (R k q) ≡ false) ks → slice_get ks (length ks - 1) ≡ Some k → is_lt (R k x) ≡ list_all (λ q. is_lt (R q x)) ks
above_by_last {R = R} o ks k x up at =
    ⊎_elim
    (λ (below : is_lt (R k x) ≡ true). below ∙ sym (all_below o ks k x up (is_less (R k x) below)))
    (λ (not_below : is_lt (R k x) ≡ false). not_below ∙ sym (some_not (λ q. is_lt (R q x)) ks (length ks - 1) k at not_below))
    (cases_Bool (is_lt (R k x)))

pub slice_get-map : {X Y : Type 0} (f : X → Y) (xs : List X) (i : ℕ) → slice_get (map f xs) i ≡ option_map f (slice_get xs i)
slice_get-map f [] i = refl
slice_get-map f (x ∷ xs) zero = refl
slice_get-map f (x ∷ xs) (suc i) = slice_get-map f xs i

-- the last page of a map
pub last_of-view : (es : List (PageName × PageInputs)) (e : PageName × PageInputs) → slice_get es (length es - 1) ≡ Some e → last_of (contents_view es) ≡ Some (e.0, inputs_view e.1)
last_of-view es e at =
    let f : PageName × PageInputs → PageName × Inputs = λ x. (x.0, inputs_view x.1) in
    ap (λ n. slice_get (map f es) (n - 1)) (length-map es f) ∙ slice_get-map f es (length es - 1) ∙ ap (option_map f) at

last_one : (book : Contents) (e : PageName × Inputs) → slice_get (book ++ e ∷ []) (length book) ≡ Some e
last_one [] e = refl
last_one (x ∷ xs) e = last_one xs e

pub last_of-append : (book : Contents) (e : PageName × Inputs) → last_of (book ++ e ∷ []) ≡ Some e
last_of-append book e =
    let size : length (book ++ e ∷ []) - 1 ≡ length book = omega (arith, length-append book (e ∷ [])) in
    ap (slice_get (book ++ e ∷ [])) size ∙ last_one book e

-- ---- what is above all goes to the end

pub above_greater : {K : Type 0} {R : K → K → Ordering} → IsTotalOrder R → (q k : K) → is_lt (R q k) ≡ true → R k q ≡ Greater
above_greater {R = R} o q k below = o.antisymm k q ∙ ap ordering_reverse (is_less (R q k) below)

pub insert_key-above : {K : Type 0} {R : K → K → Ordering} → IsTotalOrder R → (ks : List K) (k : K) → list_all (λ q. is_lt (R q k)) ks ≡ true → insert_key R ks k ≡ ks ++ k ∷ []
insert_key-above o [] k above = refl
insert_key-above {R = R} o (q ∷ qs) k above =
    let parts = and_parts (is_lt (R q k)) (list_all (λ x. is_lt (R x k)) qs) above in
    rw (above_greater o q k parts.0) (ap (λ xs. q ∷ xs) (insert_key-above o qs k parts.1))

pub insert_entry-above : {K X : Type 0} {R : K → K → Ordering} → IsTotalOrder R → (es : List (K × X)) (k : K) (v : X) → list_all (λ q. is_lt (R q k)) (keys_of es) ≡ true → insert_entry R es k v ≡ es ++ (k, v) ∷ []
insert_entry-above o [] k v above = refl
insert_entry-above {R = R} o (e ∷ es) k v above =
    let parts = and_parts (is_lt (R e.0 k)) (list_all (λ x. is_lt (R x k)) (keys_of es)) above in
    rw (above_greater o e.0 k parts.0) (ap (λ xs. e ∷ xs) (insert_entry-above o es k v parts.1))

-- ---- from line to line

-- the lines after one that was taken
pub taken_lines : (r : Option Line) (before after : List FileLine) → MatchOption r (before ≡ []) (λ line. before ≡ line_view line ∷ after) → before ≡ with_line r after
taken_lines None before after taken = taken
taken_lines (Some line) before after taken = taken

-- the faults from there on, by their numbers
pub renumbered : (r : Option Line) (after : List FileLine) (last : Standing) (n m : ℕ) (P : Type 0) → MatchOption r P (λ line. m ≡ n + 1) → first_fault (n + 1) last (with_line r after) ≡ first_fault m last (with_line r after)
renumbered None after last n m P number = refl
renumbered (Some line) after last n m P number = ap (λ k. first_fault k last (line_view line ∷ after)) (sym number)

-- ---- from page to page

pub page_ends : (n : ℕ) (last : Standing) (page : PageName) (ls : List FileLine) (book : Contents) → ends_page ls ≡ true → unless (first_fault n last (begins page ∷ ls)) book ≡ Err (LineFault n)
page_ends n last page ls book ends =
    ap (λ b. unless (option_or (if b then Some (LineFault n) else (if comes_after last page then None else Some (Order n))) (first_fault (n + 1) (Some (page, [])) ls)) book) ends

pub page_below : (n : ℕ) (last : Standing) (page : PageName) (ls : List FileLine) (book : Contents) → ends_page ls ≡ false → comes_after last page ≡ false → unless (first_fault n last (begins page ∷ ls)) book ≡ Err (Order n)
page_below n last page ls book goes below =
    ap₂ (λ b d. unless (option_or (if b then Some (LineFault n) else (if d then None else Some (Order n))) (first_fault (n + 1) (Some (page, [])) ls)) book) goes below

page_good : (n : ℕ) (last : Standing) (page : PageName) (ls : List FileLine) → ends_page ls ≡ false → comes_after last page ≡ true → first_fault n last (begins page ∷ ls) ≡ first_fault (n + 1) (Some (page, [])) ls
page_good n last page ls goes above =
    ap₂ (λ b d. option_or (if b then Some (LineFault n) else (if d then None else Some (Order n))) (first_fault (n + 1) (Some (page, [])) ls)) goes above

-- the faults of a page are those of its inputs
pub page_refused : (n k : ℕ) (last : Standing) (page : PageName) (ls mid : List FileLine) (book : Contents) (e : BookFileFault) → ends_page ls ≡ false → comes_after last page ≡ true → ls ≡ mid → first_fault (n + 1) (Some (page, [])) mid ≡ first_fault k (Some (page, [])) mid → first_fault k (Some (page, [])) mid ≡ Some e → unless (first_fault n last (begins page ∷ ls)) book ≡ Err e
page_refused n k last page ls mid book e goes above same number bad =
    ap (λ f. unless f book) (page_good n last page ls goes above ∙ ap (first_fault (n + 1) (Some (page, []))) same ∙ number ∙ bad)

-- a page was read, and what is left answers as before
pub page_read : (book new : Contents) (page : PageName) (xs : Inputs) (n k m : ℕ) (ls mid after : List FileLine) (wanted : Result Contents BookFileFault)
    → unless (first_fault n (last_of book) (begins page ∷ ls)) (book ++ pages_in (begins page ∷ ls)) ≡ wanted
    → ends_page ls ≡ false → comes_after (last_of book) page ≡ true → ls ≡ mid → first_fault (n + 1) (Some (page, [])) mid ≡ first_fault k (Some (page, [])) mid
    → TakesInputs k mid xs m after → new ≡ book ++ (page, xs) ∷ []
    → unless (first_fault m (last_of new) after) (new ++ pages_in after) ≡ wanted
page_read book new page xs n k m ls mid after wanted before goes above same number taken grown =
    let last : last_of new ≡ Some (page, xs) = ap last_of grown ∙ last_of-append book (page, xs) in
    let faults : first_fault m (last_of new) after ≡ first_fault n (last_of book) (begins page ∷ ls) =
    ap (λ s. first_fault m s after) last ∙ sym (taken.fault page) ∙ sym number ∙ ap (first_fault (n + 1) (Some (page, []))) (sym same) ∙ sym (page_good n (last_of book) page ls goes above) in
    let here : (page, xs) ∷ pages_in after ≡ (page, leading ls) ∷ pages_in ls =
    ap₂ (λ ys rest. (page, ys) ∷ rest) (taken.led ∙ ap leading (sym same)) (taken.same ∙ ap pages_in (sym same)) in
    let contents : new ++ pages_in after ≡ book ++ pages_in (begins page ∷ ls) =
    ap (λ b. b ++ pages_in after) grown ∙ append_assoc book ((page, xs) ∷ []) (pages_in after) ∙ ap (λ b. book ++ b) here in
    ap₂ unless faults contents ∙ before

-- a new entry at the end, seen
pub contents_view-append : (es : List (PageName × PageInputs)) (page : PageName) (s : PageInputs) → contents_view (es ++ (page, s) ∷ []) ≡ contents_view es ++ (page, inputs_view s) ∷ []
contents_view-append [] page s = refl
contents_view-append (e ∷ es) page s = ap (λ (b : Contents). (e.0, inputs_view e.1) ∷ b) (contents_view-append es page s)

-- the first page was taken
pub first_taken : (next : Option PageName) (before after : List FileLine) (n m : ℕ) (P : Type 0) → before ≡ with_page next after → MatchOption next P (λ page. m ≡ n + 1) → n ≡ 1 → unless (first_fault m None (with_page next after)) (pages_in (with_page next after)) ≡ lines_book before
unfolding lines_book
first_taken None before after n m P taken number one = rw taken refl
first_taken (Some page) before after n m P taken number one =
    let second : m ≡ 2 = omega (arith, number, one) in
    rw (second, taken) refl

pub first_refused : (ls : List FileLine) (n : ℕ) (e : BookFileFault) → n ≡ 1 → first_fault (n + 1) None ls ≡ Some e → lines_book ls ≡ Err e
unfolding lines_book
first_refused ls n e one bad =
    let second : n + 1 ≡ 2 = omega (arith, one) in
    ap (λ k. unless (first_fault k None ls) (pages_in ls)) (sym second) ∙ ap (λ f. unless f (pages_in ls)) bad
