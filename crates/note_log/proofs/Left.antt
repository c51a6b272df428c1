-- Lines that are left of several.
use Rattle.std.proofs.Common.{◌≡◌, ℕ, List, [], ◌∷◌, ◌++◌, Vec, refl, sym, ap, ◌∙◌, subst, append_assoc, append-nil, inl, inr}
use Rattle.std.specs.List.{Contains}
use Rattle.std.specs.declared.alloc.Global.{Global}
use Rattle.std.proofs.Math.Logic.{∥∥₁_map, ∥∥₁_map₂}
use Rattle.std.proofs.lemmas.List.Elements.{Contains-append_left, Contains-push, Contains-push_cases}
use Rattle.note_log.specs.Files.{StandsIn}
use Rattle.note_log.specs.Memory.{AreLeft}
use Rattle.note_log.specs.Shown.{open_in, shown_in}
use Rattle.note_log.specs.declared.files.Files.{Files}
use Rattle.note_log.proofs.Lists.{not_in}

abbrev pub Line : Type 0
Line = Vec ℕ Global

pub all_left : (lines : List Line) (shown : List (List ℕ)) → ∥ AreLeft lines lines shown ∥₁
all_left lines shown = ∣ (λ line c. c, λ line c. inl c) ∣₁

-- some are left of the lines before the rest
pub record LeavesOf (lines rest left : List Line) (shown : List (List ℕ)) : Type 0 where
  pub before : List Line
  pub parts : before ++ rest ≡ lines
  pub asked : AreLeft before left shown

pub none_left : (lines left : List Line) (shown : List (List ℕ)) → left ≡ [] → ∥ LeavesOf lines lines left shown ∥₁
none_left lines left shown none = ∣ record {
  before = [];
  parts = refl;
  asked = (λ line c. absurd (not_in line (subst (λ (l : List Line). Contains l line) none c)), λ line c. absurd (not_in line c));
} ∣₁

module _ (lines rest left : List Line) (shown : List (List ℕ)) (line : Line) where
  -- a line that is known
  known : LeavesOf lines (line ∷ rest) left shown → StandsIn line.items shown → LeavesOf lines rest left shown
  known l s = record {
    before = l.before ++ line ∷ [];
    parts = append_assoc l.before (line ∷ []) rest ∙ l.parts;
    asked = (
      λ other c. Contains-append_left l.before (line ∷ []) other (l.asked.0 other c),
      λ other c. elim (Contains-push_cases l.before line other c) [
        | inl d ↦ l.asked.1 other d
        | inr same ↦ inr (subst (λ (k : Line). StandsIn k.items shown) same s)
      ],
    );
  }

  -- a line that is left
  kept : LeavesOf lines (line ∷ rest) left shown → LeavesOf lines rest (left ++ line ∷ []) shown
  kept l = record {
    before = l.before ++ line ∷ [];
    parts = append_assoc l.before (line ∷ []) rest ∙ l.parts;
    asked = (
      λ other c. elim (Contains-push_cases left line other c) [
        | inl d ↦ Contains-append_left l.before (line ∷ []) other (l.asked.0 other d)
        | inr same ↦ subst (Contains (l.before ++ line ∷ [])) same (Contains-push l.before line)
      ],
      λ other c. elim (Contains-push_cases l.before line other c) [
        | inl d ↦ elim (l.asked.1 other d) [
          | inl k ↦ inl (Contains-append_left left (line ∷ []) other k)
          | inr s ↦ inr s
        ]
        | inr same ↦ inl (subst (Contains (left ++ line ∷ [])) same (Contains-push left line))
      ],
    );
  }

  pub line_known : (before : List Line) → before ≡ line ∷ rest → ∥ LeavesOf lines before left shown ∥₁ → ∥ StandsIn line.items shown ∥₁ → ∥ LeavesOf lines rest left shown ∥₁
  line_known before is l s = ∥∥₁_map₂ l s (λ (h : LeavesOf lines before left shown) (k : StandsIn line.items shown). known (subst (λ (r : List Line). LeavesOf lines r left shown) is h) k)

  pub line_left : (before after : List Line) → before ≡ line ∷ rest → after ≡ left ++ line ∷ [] → ∥ LeavesOf lines before left shown ∥₁ → ∥ LeavesOf lines rest after shown ∥₁
  line_left before after is more l = ∥∥₁_map l (λ (h : LeavesOf lines before left shown). subst (λ (t : List Line). LeavesOf lines rest t shown) (sym more) (kept (subst (λ (r : List Line). LeavesOf lines r left shown) is h)))

-- no line is left out
whole : (lines left : List Line) (shown : List (List ℕ)) → LeavesOf lines [] left shown → AreLeft lines left shown
whole lines left shown l = subst (λ (ls : List Line). AreLeft ls left shown) (sym (append-nil l.before) ∙ l.parts) l.asked

pub all_asked : (lines rest left : List Line) (shown : List (List ℕ)) → rest ≡ [] → ∥ LeavesOf lines rest left shown ∥₁ → ∥ AreLeft lines left shown ∥₁
all_asked lines rest left shown none l = ∥∥₁_map l (λ (h : LeavesOf lines rest left shown). whole lines left shown (subst (λ (r : List Line). LeavesOf lines r left shown) none h))

-- what was shown at one moment
pub shown_once : (before moments : List (Files × ℕ)) (seen files : Files) (n : ℕ) → before ≡ [] → moments ≡ before ++ (seen, n) ∷ [] → seen ≡ files → shown_in moments ≡ open_in files
shown_once before moments seen files n none is same =
    ap shown_in is ∙ ap (λ (ms : List (Files × ℕ)). shown_in (ms ++ (seen, n) ∷ [])) none ∙ append-nil (open_in seen) ∙ ap open_in same
