-- The parts between line feeds, and the lines that they stand for.
use Rattle.std.proofs.Common.{◌≡◌, ◌≢◌, ℕ, zero, suc, ◌+◌, ◌<◌, ◌≤◌, Bool, true, false, not, cond, List, [], ◌∷◌, length, take, drop, Some, None, Result, Ok, Err, if◌then◌else◌, String, Vec, ◌-◌, nat_lt, refl, ap, ◌∙◌, arith, rules}
use borrow.Author.Tests.{ltb-true, ltb-false}
use Rattle.std.specs.List.{slice_split, position, position_or_len, prefix_len, onto_first}
use Rattle.std.specs.declared.alloc.Global.{Global}
use Rattle.std.proofs.lemmas.List.{drop_all}
use Rattle.book_core.specs.declared.fault.BookFileFault.{BookFileFault}
use Rattle.std.proofs.lemmas.List.Splits.{slice_split_first}
use Rattle.flag_text.specs.View.{view, members_view}
use Rattle.flag_text.specs.declared.tree.Tree.{Tree, the_lemmas}
use Rattle.flag_text.specs.declared.tree.Tree.TheVariants as variant
use Rattle.flag_text.specs.Shape.{object}
use Rattle.book_core.specs.Reading.{FileLine, neither, is_feed, lines_in, line_of, lines_of, is_book_member, is_header, unended_fault, parts_book, lines_book, book_of}
use Rattle.book_core.specs.declared.fault.BookFileFault.TheVariants.{Header}
use Rattle.flag_text.specs.Reading.{tree_of}

-- two members or more are not the one of a book
pub not_one_member : (ms : List (String Global × Tree)) → 2 ≤ length ms → false ≡ is_book_member (members_view ms)
not_one_member [] two = absurd (omega arith)
not_one_member (m ∷ []) two = absurd (omega arith)
not_one_member (m ∷ n ∷ ms) two = refl

-- where the test never passes there is one part
one_part : (p : ℕ → Bool) (xs : List ℕ) → length xs ≤ prefix_len (λ x. not (p x)) xs → slice_split p xs ≡ xs ∷ []
one_part p [] whole = refl
one_part p (x ∷ xs) whole =
    let later = one_part p xs in
    elim (p x) as (λ b. length (x ∷ xs) ≤ cond (not b) (1 + prefix_len (λ y. not (p y)) xs) 0 → cond b ([] ∷ slice_split p xs) (onto_first x (slice_split p xs)) ≡ (x ∷ xs) ∷ []) [
      | true ↦ λ h. absurd (omega (arith, h))
      | false ↦ λ h. ap (onto_first x) (later (omega (arith, h)))
    ] whole

choice_none : (b : Bool) (n : ℕ) → None ≡ cond b (Some n) None → b ≡ false
choice_none true n e = cc
choice_none false n e = refl

choice_some : (b : Bool) (n m : ℕ) → Some m ≡ cond b (Some n) None → (b ≡ true) × (m ≡ n)
choice_some true n m e = (refl, cc)
choice_some false n m e = cc

pub cut_none : (p : ℕ → Bool) (xs : List ℕ) → None ≡ position p xs → slice_split p xs ≡ xs ∷ []
cut_none p xs e = one_part p xs (ltb-false _ _ (choice_none (nat_lt (position_or_len p xs) (length xs)) (position_or_len p xs) e))

pub cut_some : (p : ℕ → Bool) (xs : List ℕ) (at : ℕ) → Some at ≡ position p xs → slice_split p xs ≡ take at xs ∷ slice_split p (drop (at + 1) xs)
cut_some p xs at e =
    let found = choice_some (nat_lt (position_or_len p xs) (length xs)) (position_or_len p xs) at e in
    let split = slice_split_first p xs 0 (ltb-true _ _ found.0) in
    rw found.1 split

some_joined : (feed : Bool) (b : ℕ) (parts : List (List ℕ)) → cond feed ([] ∷ parts) (onto_first b parts) ≢ []
some_joined true b parts e = cc
some_joined false b [] e = cc
some_joined false b (part ∷ parts) e = cc

-- there is a part at least
some_part : (bytes : List ℕ) → slice_split is_feed bytes ≢ []
some_part [] e = cc
some_part (b ∷ bs) e = some_joined (is_feed b) b (slice_split is_feed bs) e

lines_in-cons : (part : List ℕ) (parts : List (List ℕ)) → parts ≢ [] → lines_in (part ∷ parts) ≡ line_of part ∷ lines_in parts
lines_in-cons part [] some = absurd (some refl)
lines_in-cons part (next ∷ parts) some = refl

-- the lines of what begins with a whole line
pub lines_of-cut : (bytes line rest : List ℕ) → slice_split is_feed bytes ≡ line ∷ slice_split is_feed rest → lines_of bytes ≡ line_of line ∷ lines_of rest
unfolding lines_of
lines_of-cut bytes line rest split = ap lines_in split ∙ lines_in-cons line (slice_split is_feed rest) (some_part rest)

pub lines_of-none : lines_of [] ≡ []
unfolding lines_of
lines_of-none = refl

pub lines_of-unended : (bytes : List ℕ) → 0 < length bytes → slice_split is_feed bytes ≡ bytes ∷ [] → lines_of bytes ≡ neither ∷ []
unfolding lines_of
lines_of-unended [] some split = absurd (omega arith)
lines_of-unended (b ∷ bs) some split = ap lines_in split

pub lines_of-empty : (bytes : List ℕ) → length bytes ≡ 0 → lines_of bytes ≡ []
lines_of-empty [] none = lines_of-none
lines_of-empty (b ∷ bs) none = absurd (omega (arith, none))

pub some_bytes : (bytes : List ℕ) → (length bytes ≡ 0 → ⊥) → 0 < length bytes
some_bytes bytes some = omega (arith, some)

take_none : (n : ℕ) → take {A = ℕ} n [] ≡ []
take_none zero = refl
take_none (suc n) = refl

-- nothing is left behind the last byte
pub nothing_left : (bytes : List ℕ) → take (length bytes - length bytes) (drop (length bytes) bytes) ≡ []
nothing_left bytes =
    let all : drop (length bytes) bytes ≡ [] = drop_all (length bytes) bytes (omega arith) in
    rw all (take_none (length bytes - length bytes))

-- what two results have inside
pub line_within : (a b : FileLine) → (let r : Result FileLine BookFileFault = Ok a in r) ≡ Ok b → a ≡ b
line_within a b e = cc

pub view-Object : (v : Vec (String Global × Tree) Global) → view (variant.Object v) ≡ object (members_view v.items)
view-Object v = search (rules, the_lemmas)

headed : (first : List ℕ) (parts : List (List ℕ)) → parts ≢ [] → parts_book (first ∷ parts) ≡ (if is_header (tree_of first (length first)) then lines_book (lines_in parts) else Err Header)
headed first [] some = absurd (some refl)
headed first (part ∷ parts) some = refl

-- the book of a first line and the bytes after it
pub book_of-cut : (bytes first rest : List ℕ) (header : Bool) → slice_split is_feed bytes ≡ first ∷ slice_split is_feed rest → is_header (tree_of first (length first)) ≡ header → book_of bytes ≡ (if header then lines_book (lines_of rest) else Err Header)
unfolding book_of lines_of
book_of-cut bytes first rest header split is =
    ap parts_book split ∙ headed first (slice_split is_feed rest) (some_part rest) ∙ ap (λ b. if b then lines_book (lines_in (slice_split is_feed rest)) else Err Header) is

pub book_of-unended : (bytes : List ℕ) (header : Bool) → slice_split is_feed bytes ≡ bytes ∷ [] → is_header (tree_of bytes (length bytes)) ≡ header → book_of bytes ≡ Err (unended_fault header)
unfolding book_of
book_of-unended bytes header split is = ap parts_book split ∙ ap (λ b. Err (unended_fault b)) is

pub bool_within : (a b : Bool) → (let r : Result Bool BookFileFault = Ok a in r) ≡ Ok b → a ≡ b
bool_within a b e = cc
