-- What one line more does, and so what any number of them do.
use Rattle.std.proofs.Common.{◌≡◌, inl, inr, ℕ, ◌≤◌, ◌+◌, List, [], ◌∷◌, ◌++◌, length, nat_lt, Bool, true, false, if◌then◌else◌, refl, sym, ap, subst, ◌∙◌, true≢false, length-append}
use Rattle.std.specs.Cmp.Lexicographic.{nat_list_eq_equiv}
use Rattle.std.specs.List.{AllByRecursion, Contains, IsDistinct, concat, list_any}
use Rattle.std.specs.Str.{bytes_eq}
use Rattle.std.proofs.lemmas.Bool.{ltb-false}
use Rattle.std.proofs.lemmas.List.Elements.{Contains-append_left, Contains-append_right, Contains-append_cases, Contains-push}
use Rattle.std.proofs.lemmas.Map.Keys.{IsDistinct-push}
use Rattle.std.proofs.lemmas.Map.Views.{Contains-from_any}
use Rattle.std.proofs.lemmas.Slice.Eq.{bytes_eq-Decides}
use Rattle.library_seat.specs.Kept.{Kept, IsOneOf, with_line, with_lines}
use Rattle.library_seat.proofs.LinesKept.{concat-push}

-- what a line more does
record Grown (line : List ℕ) (old new : Kept) : Type 0 where
  pub most : new.most ≡ old.most
  pub told : new.full ≡ false → (old.full ≡ false) × Contains new.lines line
  pub stay : (other : List ℕ) → Contains old.lines other → Contains new.lines other
  pub only : (other : List ℕ) → Contains new.lines other → IsOneOf old.lines (line ∷ []) other
  pub once : IsDistinct bytes_eq old.lines → IsDistinct bytes_eq new.lines
  pub within : length (concat old.lines) ≤ old.most → length (concat new.lines) ≤ old.most

has_room : (kept : Kept) (line : List ℕ) → nat_lt kept.most (length (concat kept.lines) + length line) ≡ false → length (concat (kept.lines ++ line ∷ [])) ≤ kept.most
has_room kept line fits = let room = ltb-false kept.most (length (concat kept.lines) + length line) fits in
    subst (λ (n : ℕ). n ≤ kept.most) (sym (ap length (concat-push kept.lines line) ∙ length-append (concat kept.lines) line)) room

by_tests : (kept : Kept) (line : List ℕ) (has over : Bool) → list_any (bytes_eq line) kept.lines ≡ has → nat_lt kept.most (length (concat kept.lines) + length line) ≡ over
    → Grown line kept (if has then kept else (if over then record kept { full = true } else record kept { lines = kept.lines ++ line ∷ [] }))
by_tests kept line true over is_kept _ = record {
  most = refl;
  told = λ quiet. (quiet, Contains-from_any (λ x y. (bytes_eq-Decides x y).0) line kept.lines is_kept);
  stay = λ _ there. there;
  only = λ _ there. inl there;
  once = λ distinct. distinct;
  within = λ small. small;
}
by_tests kept line false true _ _ = record {
  most = refl;
  told = λ quiet. absurd (true≢false quiet);
  stay = λ _ there. there;
  only = λ _ there. inl there;
  once = λ distinct. distinct;
  within = λ small. small;
}
by_tests kept line false false new fits = record {
  most = refl;
  told = λ quiet. (quiet, Contains-push kept.lines line);
  stay = λ other there. Contains-append_left kept.lines (line ∷ []) other there;
  only = λ other there. Contains-append_cases kept.lines (line ∷ []) other there;
  once = λ distinct. IsDistinct-push nat_list_eq_equiv kept.lines line distinct new;
  within = λ _. has_room kept line fits;
}

grown : (kept : Kept) (line : List ℕ) → Grown line kept (with_line kept line)
unfolding with_line
grown kept line = by_tests kept line _ _ refl refl

-- ---- any number of lines

-- what is told is told of those before
quiet_before : (kept : Kept) (lines : List (List ℕ)) → (with_lines kept lines).full ≡ false → kept.full ≡ false
quiet_before kept [] quiet = quiet
quiet_before kept (line ∷ lines) quiet = ((grown kept line).told (quiet_before (with_line kept line) lines quiet)).0

pub all_stay : (kept : Kept) (lines : List (List ℕ)) (other : List ℕ) → Contains kept.lines other → Contains (with_lines kept lines).lines other
all_stay kept [] other there = there
all_stay kept (line ∷ lines) other there = all_stay (with_line kept line) lines other ((grown kept line).stay other there)

pub all_kept : (kept : Kept) (lines : List (List ℕ)) → (with_lines kept lines).full ≡ false → AllByRecursion (Contains (with_lines kept lines).lines) lines
all_kept kept [] quiet = tt
all_kept kept (line ∷ lines) quiet =
    let next = with_line kept line in
    (all_stay next lines line ((grown kept line).told (quiet_before next lines quiet)).1, all_kept next lines quiet)

-- what is one of the lines before or the first one, or one of those behind
regrouped : (kept : Kept) (line : List ℕ) (lines : List (List ℕ)) (other : List ℕ) → IsOneOf (with_line kept line).lines lines other → IsOneOf kept.lines (line ∷ lines) other
regrouped kept line lines other (inr behind) = inr (Contains-append_right (line ∷ []) lines other behind)
regrouped kept line lines other (inl there) = first ((grown kept line).only other there)
  where
    first : IsOneOf kept.lines (line ∷ []) other → IsOneOf kept.lines (line ∷ lines) other
    first (inl before) = inl before
    first (inr it) = inr (Contains-append_left (line ∷ []) lines other it)

pub only_those : (kept : Kept) (lines : List (List ℕ)) (other : List ℕ) → Contains (with_lines kept lines).lines other → IsOneOf kept.lines lines other
only_those kept [] other there = inl there
only_those kept (line ∷ lines) other there = regrouped kept line lines other (only_those (with_line kept line) lines other there)

pub all_once : (kept : Kept) (lines : List (List ℕ)) → IsDistinct bytes_eq kept.lines → IsDistinct bytes_eq (with_lines kept lines).lines
all_once kept [] distinct = distinct
all_once kept (line ∷ lines) distinct = all_once (with_line kept line) lines ((grown kept line).once distinct)

pub all_within : (kept : Kept) (lines : List (List ℕ)) → length (concat kept.lines) ≤ kept.most → length (concat (with_lines kept lines).lines) ≤ kept.most
all_within kept [] small = small
all_within kept (line ∷ lines) small =
    let next = with_line kept line in let same = (grown kept line).most in
    let still : length (concat next.lines) ≤ next.most = subst (λ (n : ℕ). length (concat next.lines) ≤ n) (sym same) ((grown kept line).within small) in
    subst (λ (n : ℕ). length (concat (with_lines next lines).lines) ≤ n) same (all_within next lines still)
