-- Lines that are cut one after another.
use Rattle.std.proofs.Common.{◌≡◌, ◌≢◌, ◌<◌, ◌≤◌, ◌+◌, not, nat_lt, Option, IfSome, ◌==◌, ℕ, zero, suc, Bool, true, false, cond, List, [], ◌∷◌, ◌++◌, length, take, drop, get_or, Some, None, append_assoc, take-append-drop, drop-cons, add-one, refl, sym, ap, ap₂, ◌∙◌, arith}
use borrow.Author.Tests.{ltb-false}
use Rattle.std.specs.List.{AllByRecursion, position, position_or_len, prefix_len, onto_first, slice_split}
use Rattle.std.proofs.lemmas.Bool.{eqb-true}
use Rattle.std.proofs.lemmas.List.Elements.{All-from_recursion}
use Rattle.std.proofs.lemmas.List.Quantifiers.{position-Some}
use Rattle.std.proofs.Math.Seq.{take-suc}
use Rattle.std.proofs.lemmas.List.Splits.{slice_split_at, slice_split_none, slice_split-cons_no}
use Rattle.byte_streams.specs.Lines.{HasNoFeed, IsCut, is_feed, parts_of}

none_before : (xs : List ℕ) (at : ℕ) → at < length xs → ((k : ℕ) → k < at → is_feed (get_or xs k 0) ≡ false) → HasNoFeed (take at xs)
none_before [] zero within none = tt
none_before [] (suc at) within none = absurd (omega (arith, within))
none_before (x ∷ xs) zero within none = tt
none_before (x ∷ xs) (suc at) within none = (none 0 (omega arith), none_before xs at (omega (arith, within)) (λ k below. none (suc k) (omega (arith, below))))

some_joined : (feed : Bool) (b : ℕ) (parts : List (List ℕ)) → cond feed ([] ∷ parts) (onto_first b parts) ≢ []
some_joined true b parts e = cc
some_joined false b [] e = cc
some_joined false b (part ∷ parts) e = cc

pub some_part : (bytes : List ℕ) → parts_of bytes ≢ []
unfolding parts_of
some_part [] e = cc
some_part (b ∷ bs) e = some_joined (is_feed b) b (slice_split is_feed bs) e

pub line_first : (line rest : List ℕ) → HasNoFeed line → parts_of (line ++ 10 ∷ rest) ≡ line ∷ parts_of rest
unfolding parts_of
line_first line rest none = slice_split_at is_feed line 10 rest (All-from_recursion (λ (b : ℕ). is_feed b ≡ false) line none) refl

-- what has no line feed is no line
pub no_line : (rest : List ℕ) → HasNoFeed rest → parts_of rest ≡ rest ∷ []
unfolding parts_of
no_line rest none = slice_split_none is_feed rest (All-from_recursion (λ (b : ℕ). is_feed b ≡ false) rest none)

first_of : (parts : List (List ℕ)) → parts ≢ [] → (part : List ℕ) × (others : List (List ℕ)) × (parts ≡ part ∷ others)
first_of [] some = absurd (some refl)
first_of (part ∷ others) some = (part, others, refl)

-- whatever follows it, the first part begins with it
pub begins : (rest more : List ℕ) → HasNoFeed rest → (part : List ℕ) × (others : List (List ℕ)) × (parts_of (rest ++ more) ≡ part ∷ others) × (length rest ≤ length part)
unfolding parts_of
begins [] more none =
    let first = first_of (slice_split is_feed more) (some_part more) in
    (first.0, first.1, first.2, omega arith)
begins (b ∷ bs) more none =
    let later = begins bs more none.1 in
    (b ∷ later.0, later.1, slice_split-cons_no is_feed b (bs ++ more) none.0 ∙ ap (onto_first b) later.2, omega (arith, later.3))

pub cut_next : (bytes rest line behind : List ℕ) (lines : List (List ℕ)) → IsCut bytes lines rest → HasNoFeed line → rest ≡ line ++ 10 ∷ behind → IsCut bytes (lines ++ line ∷ []) behind
cut_next bytes rest line behind lines cut none parts = λ more.
    let all : rest ++ more ≡ line ++ 10 ∷ (behind ++ more) = ap (λ (t : List ℕ). t ++ more) parts ∙ append_assoc line (10 ∷ behind) more in
    cut more ∙ ap (λ (ls : List (List ℕ)). lines ++ ls) (ap parts_of all ∙ line_first line (behind ++ more) none)
    ∙ sym (append_assoc lines (line ∷ []) (parts_of (behind ++ more)))

pub line_before : (bytes : List ℕ) (at : ℕ) → Some at ≡ position is_feed bytes → HasNoFeed (take at bytes)
line_before bytes at first =
    let here = position-Some is_feed bytes at 0 (sym first) in
    none_before bytes at here.0 here.2

pub in_parts : (bytes : List ℕ) (at : ℕ) → Some at ≡ position is_feed bytes → bytes ≡ take at bytes ++ 10 ∷ drop (at + 1) bytes
in_parts bytes at first =
    let here = position-Some is_feed bytes at 0 (sym first) in
    let within : at < length bytes = here.0 in
    let feed : get_or bytes at 0 ≡ 10 = eqb-true (get_or bytes at 0) 10 here.1 in
    let behind : drop at bytes ≡ get_or bytes at 0 ∷ drop (at + 1) bytes = rw (add-one, drop-cons bytes at 0) refl in
    sym (take-append-drop at bytes) ∙ ap (λ (t : List ℕ). take at bytes ++ t) (behind ∙ ap (λ (b : ℕ). b ∷ drop (at + 1) bytes) feed)

choice_none : (b : Bool) (n : ℕ) → None ≡ cond b (Some n) None → b ≡ false
choice_none true n e = cc
choice_none false n e = refl

no_feed : (xs : List ℕ) → length xs ≤ prefix_len (λ x. not (is_feed x)) xs → HasNoFeed xs
no_feed [] whole = tt
no_feed (x ∷ xs) whole =
    let later = no_feed xs in
    elim (is_feed x) as (λ b. length (x ∷ xs) ≤ cond (not b) (1 + prefix_len (λ y. not (is_feed y)) xs) 0 → (b ≡ false) × HasNoFeed xs) [
      | true ↦ λ h. absurd (omega (arith, h))
      | false ↦ λ h. (refl, later (omega (arith, h)))
    ] whole

pub no_feed_there : (xs : List ℕ) → None ≡ position is_feed xs → HasNoFeed xs
no_feed_there xs e = no_feed xs (ltb-false _ _ (choice_none (nat_lt (position_or_len is_feed xs) (length xs)) (position_or_len is_feed xs) e))

pub place_within : (r : Option ℕ) (xs : List ℕ) → r ≡ position is_feed xs → IfSome r (λ at. at < length xs)
place_within None xs e = tt
place_within (Some at) xs e = (position-Some is_feed xs at 0 (sym e)).0

-- the line with its line feed
pub line_whole : (bytes : List ℕ) (at : ℕ) → Some at ≡ position is_feed bytes → take (at + 1) bytes ≡ take at bytes ++ 10 ∷ []
line_whole bytes at first =
    let here = position-Some is_feed bytes at 0 (sym first) in
    let feed : get_or bytes at 0 ≡ 10 = eqb-true (get_or bytes at 0) 10 here.1 in
    let one : take (at + 1) bytes ≡ take at bytes ++ get_or bytes at 0 ∷ [] = rw (add-one, take-suc bytes at 0 here.0) refl in
    one ∙ ap (λ (b : ℕ). take at bytes ++ b ∷ []) feed
