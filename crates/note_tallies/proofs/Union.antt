-- The tallies of two sets of inputs, joined, are the tally of the union; and those of two sets of hashes.
use Rattle.std.proofs.Common.{◌≡◌, ℕ, ◌+◌, ◌==◌, ◌&&◌, true, map, count_by, if◌then◌else◌, eqb, List, [], ◌∷◌, ◌++◌, length, get_or, Option, Some, None, refl, sym, ap, ◌∙◌, subst, arith, length-append}
use Rattle.std.specs.Cmp.Lexicographic.{nat_list_cmp_total}
use Rattle.std.specs.List.{AllByRecursion, range_with_len}
use Rattle.std.specs.List.Sorted.{IsStrictlySortedBy}
use Rattle.std.specs.Option.{option_or}
use Rattle.std.specs.declared.cmp.Ordering.TheVariants.{Less}
use Rattle.std.proofs.lemmas.Bool.{and_parts, eqb-true}
use Rattle.std.proofs.lemmas.List.{map-append}
use Rattle.std.proofs.lemmas.List.FromFn.{fill_by_all, get_or-map-range_with_len, length-map-range_with_len}
use Rattle.std.proofs.lemmas.List.Sums.{sum_by-append}
use Rattle.bucket_core.specs.Point.{point_of, scale}
use Rattle.book_core.specs.Page.{PageName, bytes_cmp, page_eq}
use Rattle.book_core.proofs.Ordered.{All-weaker}
use Rattle.book_core.proofs.Taken.{is_less}
use Rattle.note_tallies.specs.Join.{are_of_one_kind, follows}
use Rattle.note_tallies.specs.JoinLaw.{counts_by, first_line, last_line, Joined, JoinsHashes, JoinsSets}
use Rattle.note_tallies.specs.Tally.{hash_line_on, line_on}
use Rattle.note_tallies.proofs.Pages.{same_page}

-- ---- the lines

below_all : (x : List ℕ) (ys : List (List ℕ)) → IsStrictlySortedBy bytes_cmp ys → follows (Some x) (first_line ys) ≡ true → AllByRecursion (λ (z : List ℕ). bytes_cmp x z ≡ Less) ys
unfolding IsStrictlySortedBy
below_all x [] rising follow = tt
below_all x (y ∷ ys) rising follow =
    let less : bytes_cmp x y ≡ Less = is_less (bytes_cmp x y) follow in
    (less, All-weaker (λ (z : List ℕ). bytes_cmp y z ≡ Less) (λ (z : List ℕ). bytes_cmp x z ≡ Less) ys (λ z high. nat_list_cmp_total.trans x y z (less) (high)) rising.0)

last_again : (o : Option (List ℕ)) (x y : List ℕ) → option_or (option_or o (Some y)) (Some x) ≡ option_or o (Some y)
last_again None x y = refl
last_again (Some z) x y = refl

rise_both : (xs ys : List (List ℕ)) → IsStrictlySortedBy bytes_cmp xs → IsStrictlySortedBy bytes_cmp ys → follows (last_line xs) (first_line ys) ≡ true → IsStrictlySortedBy bytes_cmp (xs ++ ys)
unfolding IsStrictlySortedBy
rise_both [] ys one other follow = other
rise_both (x ∷ []) ys one other follow = (below_all x ys other follow, other)
rise_both (x ∷ y ∷ xs) ys one other follow =
    let later = rise_both (y ∷ xs) ys one.1 other (subst (λ o. follows o (first_line ys) ≡ true) (last_again (last_line xs) x y) follow) in
    let less : bytes_cmp x y ≡ Less = one.0.0 in
    let all = All-weaker (λ (z : List ℕ). bytes_cmp y z ≡ Less) (λ (z : List ℕ). bytes_cmp x z ≡ Less) (xs ++ ys) (λ z high. nat_list_cmp_total.trans x y z (less) (high)) later.0 in
    ((less, all), later)

first_of_both : (xs ys : List (List ℕ)) → option_or (first_line xs) (first_line ys) ≡ first_line (xs ++ ys)
first_of_both [] ys = refl
first_of_both (x ∷ xs) ys = refl

none_before : (o : Option (List ℕ)) → option_or o None ≡ o
none_before None = refl
none_before (Some x) = refl

grouped : (a b : Option (List ℕ)) (x : List ℕ) → option_or a (option_or b (Some x)) ≡ option_or (option_or a b) (Some x)
grouped None b x = refl
grouped (Some y) b x = refl

last_of_both : (xs ys : List (List ℕ)) → option_or (last_line ys) (last_line xs) ≡ last_line (xs ++ ys)
last_of_both [] ys = none_before (last_line ys)
last_of_both (x ∷ xs) ys = grouped (last_line ys) (last_line xs) x ∙ ap (λ o. option_or o (Some x)) (last_of_both xs ys)

-- ---- the counts

counts_of_both : {X : Type 0} (at : X → ℕ) (now old more : List ℕ) (total : ℕ) (some others : List X) → old ≡ map (λ p. count_by (λ x. at x == p) some) (range_with_len 0 total) → more ≡ map (λ p. count_by (λ x. at x == p) others) (range_with_len 0 total)
    → length now ≡ total → ((p : ℕ) → get_or now p 0 ≡ get_or old p 0 + get_or more p 0) → now ≡ map (λ p. count_by (λ x. at x == p) (some ++ others)) (range_with_len 0 total)
counts_of_both {X} at now old more total some others one other whole each =
    let on : List X → ℕ → ℕ = λ xs p. count_by (λ x. at x == p) xs in
    fill_by_all (on (some ++ others)) now total 0 whole (λ p below.
    let first : get_or old p 0 ≡ on some p = ap (λ (xs : List ℕ). get_or xs p 0) one ∙ get_or-map-range_with_len (on some) 0 total p p 0 below (omega arith) in
    let second : get_or more p 0 ≡ on others p = ap (λ (xs : List ℕ). get_or xs p 0) other ∙ get_or-map-range_with_len (on others) 0 total p p 0 below (omega arith) in
    let both : on (some ++ others) p ≡ on some p + on others p = sum_by-append (λ (x : X). if eqb (at x) p then 1 else 0) some others in
    let here = each p in
    omega (arith, first, second, both, here))

-- ---- both together

union_by : {X : Type 0} (line : PageName → X → List ℕ) (at : ℕ → X → ℕ) → Joined line at
union_by {X} line at one other both some more first second joins =
    let kinds = and_parts (page_eq one.page other.page && eqb one.total other.total) (are_of_one_kind one.last other.first) joins.0 in
    let alike = and_parts (page_eq one.page other.page) (eqb one.total other.total) kinds.0 in
    let page : one.page ≡ other.page = same_page one.page other.page alike.0 in
    let total : one.total ≡ other.total = eqb-true one.total other.total alike.1 in
    let joined = joins.2 in
    let lines_by : PageName → List X → List (List ℕ) = λ p xs. map (line p) xs in
    let here : lines_by other.page more ≡ lines_by both.page more = ap (λ p. lines_by p more) (sym page ∙ sym joined.page) in
    let there : lines_by one.page some ≡ lines_by both.page some = ap (λ p. lines_by p some) (sym joined.page) in
    let lines : lines_by both.page some ++ lines_by both.page more ≡ lines_by both.page (some ++ more) = sym (map-append (line both.page) some more) in
    let size : length both.counts ≡ both.total = joined.counts.whole ∙ ap length first.tally.counts ∙ length-map-range_with_len (λ p. count_by (λ x. at one.total x == p) some) 0 one.total ∙ sym joined.total in
    record {
      rising = subst (IsStrictlySortedBy bytes_cmp) lines
          (rise_both (lines_by both.page some) (lines_by both.page more) (subst (IsStrictlySortedBy bytes_cmp) there first.rising) (subst (IsStrictlySortedBy bytes_cmp) here second.rising)
          (subst (λ ls. follows (last_line (lines_by both.page some)) (first_line ls) ≡ true) here
          (subst (λ ls. follows (last_line ls) (first_line (lines_by other.page more)) ≡ true) there
          (subst (λ o. follows o (first_line (lines_by other.page more)) ≡ true) first.last
          (subst (λ o. follows one.last o ≡ true) second.first joins.1)))));
      first = joined.first ∙ ap (λ o. option_or o other.first) (first.first ∙ ap first_line there) ∙ ap (option_or (first_line (lines_by both.page some))) (second.first ∙ ap first_line here) ∙ first_of_both (lines_by both.page some) (lines_by both.page more) ∙ ap first_line lines;
      last = joined.last ∙ ap (λ o. option_or o one.last) (second.last ∙ ap last_line here) ∙ ap (option_or (last_line (lines_by both.page more))) (first.last ∙ ap last_line there) ∙ last_of_both (lines_by both.page some) (lines_by both.page more) ∙ ap last_line lines;
      tally = record {
        inputs = (let size = length-append some more in let one_has = first.tally.inputs in let other_has = second.tally.inputs in omega (arith, joined.inputs, one_has, other_has, size));
        counts = counts_of_both (at both.total) both.counts one.counts other.counts both.total some more (first.tally.counts ∙ ap (counts_by at some) (sym joined.total)) (second.tally.counts ∙ ap (counts_by at more) (sym total ∙ sym joined.total)) size joined.counts.each;
      };
    }

pub union : JoinsSets
union = union_by line_on point_of

pub union_of_hashes : JoinsHashes
union_of_hashes = union_by hash_line_on scale
