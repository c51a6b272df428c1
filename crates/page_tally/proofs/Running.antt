-- What a run of inputs changes: nothing but the line, the last input and what is kept of the page's inputs.
use Rattle.std.proofs.Common.{◌≡◌, ◌<◌, ◌≤◌, ◌+◌, ◌++◌, ℕ, Bool, true, false, List, [], ◌∷◌, length, set, get_or, Option, Some, None, nat_lt, if◌then◌else◌, refl, sym, ap, ◌∙◌, subst, arith, length-append, length-set}
use Rattle.std.proofs.lemmas.Bool.{lt-ltb, le-ltb}
use Rattle.std.proofs.lemmas.List.{get_or_read}
use Rattle.std.specs.Ordering.{is_lt}
use Rattle.bucket_core.specs.Point.{point_of}
use Rattle.book_core.specs.Book.{Inputs, most_inputs, most_bytes}
use Rattle.book_core.specs.Page.{PageName, bytes_cmp}
use Rattle.book_core.specs.Reading.{FileLine, adds}
use Rattle.book_core.specs.declared.fault.BookFileFault.TheVariants.{Order, InputTooLong, PageFull}
use Rattle.page_tally.specs.Folding.{Kept, counted, counted_if, with_input, with_inputs, next_fault, or_fault, tally_from}
use Rattle.page_tally.specs.Runs.{IsRun, last_of_run, with_lines, TakesRun}

-- one input more, as the counter does it
pub counted_more : (k : Kept) (t q v : ℕ) (x : List ℕ) → k.total ≡ Some t → q ≡ point_of t x → q < length k.counts → v ≡ get_or k.counts q v → (let m : Kept = record { inputs = k.inputs + 1; total = k.total; counts = set k.counts q (v + 1) } in m) ≡ with_input k x
counted_more k t q v x total at room was =
    let old : v ≡ get_or k.counts (point_of t x) 0 = get_or_read k.counts q v room was 0 ∙ ap (λ i. get_or k.counts i 0) at in
    let here : set k.counts q (v + 1) ≡ counted t k.counts x = ap (λ i. set k.counts i (v + 1)) at ∙ ap (λ n. set k.counts (point_of t x) (n + 1)) old in
    let same : set k.counts q (v + 1) ≡ counted_if k.total k.counts x = here ∙ sym (ap (λ o. counted_if o k.counts x) total) in
    ap (λ cs. let m : Kept = record { inputs = k.inputs + 1; total = k.total; counts = cs } in m) same

length-counted_if : (total : Option ℕ) (counts x : List ℕ) → length (counted_if total counts x) ≡ length counts
length-counted_if None counts x = refl
length-counted_if (Some t) counts x = length-set counts (point_of t x) (get_or counts (point_of t x) 0 + 1)

pub length-with_input : (k : Kept) (x : List ℕ) → length (with_input k x).counts ≡ length k.counts
length-with_input k x = length-counted_if k.total k.counts x

pub length-with_inputs : (xs : Inputs) (k : Kept) → length (with_inputs k xs).counts ≡ length k.counts
length-with_inputs [] k = refl
length-with_inputs (x ∷ xs) k = length-with_inputs xs (with_input k x) ∙ length-with_input k x

pub inputs-with_inputs : (xs : Inputs) (k : Kept) → (with_inputs k xs).inputs ≡ k.inputs + length xs
inputs-with_inputs [] k = omega arith
inputs-with_inputs (x ∷ xs) k =
    let later = inputs-with_inputs xs (with_input k x) in
    omega (arith, later)

with_inputs-more : (xs : Inputs) (k : Kept) (x : List ℕ) → with_inputs k (xs ++ x ∷ []) ≡ with_input (with_inputs k xs) x
with_inputs-more [] k x = refl
with_inputs-more (y ∷ xs) k x = with_inputs-more xs (with_input k y) x

last_of_run-more : (xs : Inputs) (last x : List ℕ) → last_of_run last (xs ++ x ∷ []) ≡ x
last_of_run-more [] last x = refl
last_of_run-more (y ∷ xs) last x = last_of_run-more xs y x

with_lines-more : (xs : Inputs) (x : List ℕ) (after : List FileLine) → with_lines xs (adds x ∷ after) ≡ with_lines (xs ++ x ∷ []) after
with_lines-more [] x after = refl
with_lines-more (y ∷ xs) x after = ap (λ ls. adds y ∷ ls) (with_lines-more xs x after)

IsRun-more : (xs : Inputs) (count : ℕ) (last x : List ℕ) → IsRun count last xs → is_lt (bytes_cmp (last_of_run last xs) x) ≡ true → length x ≤ most_bytes → count + length xs < most_inputs → IsRun count last (xs ++ x ∷ [])
IsRun-more [] count last x run above short room = (above, short, omega (arith, room), tt)
IsRun-more (y ∷ xs) count last x run above short room = (run.0, run.1, run.2, IsRun-more xs (count + 1) y x run.3 above short (omega (arith, room)))

-- no input yet
pub run_none : (first : List ℕ) (ls : List FileLine) (n : ℕ) (k : Kept) → TakesRun first [] ls n k first ls n k
run_none first ls n k = record { run = tt; lines = refl; number = omega arith; last = refl; kept = refl }

-- one input more
pub run_more : (first : List ℕ) (xs : Inputs) (before after later : List FileLine) (n m i : ℕ) (had have new : Kept) (end x : List ℕ) → TakesRun first xs before n had end after m have
    → after ≡ adds x ∷ later → is_lt (bytes_cmp end x) ≡ true → length x ≤ most_bytes → i ≡ m + 1 → have.inputs < most_inputs → new ≡ with_input have x
    → TakesRun first (xs ++ x ∷ []) before n had x later i new
run_more first xs before after later n m i had have new end x t next above short number room is =
    let size : have.inputs ≡ had.inputs + length xs = ap (λ (k : Kept). k.inputs) t.kept ∙ inputs-with_inputs xs had in
    record {
      run = IsRun-more xs had.inputs first x t.run (subst (λ e. is_lt (bytes_cmp e x) ≡ true) t.last above) short (omega (arith, size, room));
      lines = t.lines ∙ ap (λ ls. with_lines xs ls) next ∙ with_lines-more xs x later;
      number = omega (arith, number, t.number, length-append xs (x ∷ []));
      last = sym (last_of_run-more xs first x);
      kept = is ∙ ap (λ k. with_input k x) t.kept ∙ sym (with_inputs-more xs had x);
    }

no_fault : (long above room : Bool) (n : ℕ) → long ≡ false → above ≡ true → room ≡ true → (if long then Some (InputTooLong n) else (if above then (if room then None else Some (PageFull n)) else Some (Order n))) ≡ None
no_fault true above room n l a r = cc
no_fault false true true n l a r = refl
no_fault false true false n l a r = cc
no_fault false false room n l a r = cc

good_next : (n count : ℕ) (last x : List ℕ) → is_lt (bytes_cmp last x) ≡ true → length x ≤ most_bytes → count < most_inputs → next_fault n (Some last) count x ≡ None
good_next n count last x above short room = no_fault (nat_lt most_bytes (length x)) (is_lt (bytes_cmp last x)) (nat_lt count most_inputs) n (le-ltb most_bytes (length x) short) above (lt-ltb count most_inputs room)

-- the lines of a run change nothing but what is kept
pub run_passes : (xs : Inputs) (wanted page : PageName) (total n : ℕ) (last : List ℕ) (k : Kept) (after : List FileLine) → IsRun k.inputs last xs
    → tally_from wanted total (Some page) n (Some last) k (with_lines xs after) ≡ tally_from wanted total (Some page) (n + length xs) (Some (last_of_run last xs)) (with_inputs k xs) after
run_passes [] wanted page total n last k after run =
    let same : n ≡ n + 0 = omega arith in
    ap (λ m. tally_from wanted total (Some page) m (Some last) k after) same
run_passes (x ∷ xs) wanted page total n last k after run =
    let here = ap (λ o. or_fault o (tally_from wanted total (Some page) (n + 1) (Some x) (with_input k x) (with_lines xs after))) (good_next n k.inputs last x run.0 run.1 run.2) in
    let later = run_passes xs wanted page total (n + 1) x (with_input k x) after run.3 in
    let same : n + 1 + length xs ≡ n + length (x ∷ xs) = omega arith in
    here ∙ later ∙ ap (λ m. tally_from wanted total (Some page) m (Some (last_of_run x xs)) (with_inputs (with_input k x) xs) after) same

-- the same of a run that was taken
pub run_followed : (first : List ℕ) (xs : Inputs) (before after : List FileLine) (n m : ℕ) (had have : Kept) (end : List ℕ) (wanted page : PageName) (total : ℕ) → TakesRun first xs before n had end after m have
    → tally_from wanted total (Some page) (n + 1) (Some first) had before ≡ tally_from wanted total (Some page) (m + 1) (Some end) have after
run_followed first xs before after n m had have end wanted page total t =
    let number : n + 1 + length xs ≡ m + 1 = omega (arith, t.number) in
    ap (λ ls. tally_from wanted total (Some page) (n + 1) (Some first) had ls) t.lines
    ∙ run_passes xs wanted page total (n + 1) first had after t.run
    ∙ ap (λ i. tally_from wanted total (Some page) i (Some (last_of_run first xs)) (with_inputs had xs) after) number
    ∙ ap (λ e. tally_from wanted total (Some page) (m + 1) (Some e) (with_inputs had xs) after) (sym t.last)
    ∙ ap (λ k. tally_from wanted total (Some page) (m + 1) (Some end) k after) (sym t.kept)

pub length-taken : (first : List ℕ) (xs : Inputs) (before after : List FileLine) (n m : ℕ) (had have : Kept) (end : List ℕ) → TakesRun first xs before n had end after m have → length have.counts ≡ length had.counts
length-taken first xs before after n m had have end t = ap (λ (k : Kept). length k.counts) t.kept ∙ length-with_inputs xs had
