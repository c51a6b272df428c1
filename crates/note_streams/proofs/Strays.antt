-- Lines that are looked at one after another.
use Rattle.std.proofs.Common.{◌≡◌, ◌+◌, ℕ, suc, true, false, List, [], ◌∷◌, Option, Some, None, is_some, refl, sym, ◌∙◌, subst, inl, inr, arith, Bool, not}
use Rattle.std.specs.Option.{MatchOption}
use Rattle.byte_streams.specs.Lines.{HasNoFeed, IsFirst}
use Rattle.note_tallies.proofs.Refused.{no_hash, no_input}
use Rattle.note_tallies.specs.Lines.{of_hash, of_input}
use Rattle.note_lines.specs.Hashed.{Hashed, has_hash}
use Rattle.note_lines.specs.Note.{Noted}
use Rattle.note_lines.specs.Reading.{Reads, ReadsHashed}
use Rattle.note_tallies.specs.Blank.{is_blank}
use Rattle.note_streams.proofs.Among.{all_both}
use Rattle.note_streams.proofs.Cut.{lines_first, lines_none}
use Rattle.note_streams.specs.LogLines.{all_lines, lines_in}
use Rattle.note_streams.specs.Stray.{AreKept, IsFirstIn, IsFirstStray, IsKept, IsStray, IsTold, SaysWhether}

differs : {Y : Type 0} → true ≡ false → Y
differs h = cc

-- what is read of a line tells whether it says something
pub hash_told : (line : List ℕ) (r : Option Hashed) → has_hash line ≡ true → ReadsHashed line r → SaysWhether line (is_some r)
hash_told line (Some note) kind reads = (of_hash note, reads.0, reads.1)
hash_told line None kind reads = no_hash line kind reads

pub input_told : (line : List ℕ) (r : Option Noted) → has_hash line ≡ false → Reads line r → SaysWhether line (is_some r)
input_told line (Some note) kind reads = (of_input note, reads.0, reads.1)
input_told line None kind reads = no_input line kind reads

-- what is told of a blank line, and of another one by whether it says something
pub blank_told : (line : List ℕ) → is_blank line ≡ true → IsTold line false
blank_told line blank = inl blank

pub noted_told : (line : List ℕ) (noted : Bool) → is_blank line ≡ false → SaysWhether line noted → IsTold line (not noted)
noted_told line true some says = inr says
noted_told line false some says = record { some = some; none = says }

-- what is said of a result, by what it is
pub none_told : {T A : Type 0} (B : T → Type 0) (r : Option T) → r ≡ None → MatchOption r A B → A
none_told {T} {A} B r is told = subst (λ (o : Option T). MatchOption o A B) is told

pub some_told : {T : Type 0} (A : Type 0) (B : T → Type 0) (r : Option T) (x : T) → r ≡ Some x → MatchOption r A B → B x
some_told {T} A B r x is told = subst (λ (o : Option T). MatchOption o A B) is told

-- no line is both
pub not_both : (line : List ℕ) → IsKept line → IsStray line → ⊥
not_both line (inl blank) stray = differs (sym blank ∙ stray.some)
not_both line (inr noted) stray = stray.none noted.0 noted.1 noted.2

-- ---- the lines of a file

-- so many lines are kept, and the rest answers as the whole
pub record Looked (bytes rest : List ℕ) (lines : ℕ) : Type 0 where
  pub kept : AreKept (lines_in rest) → AreKept (lines_in bytes)
  pub first : (n : ℕ) → IsFirstIn (lines_in rest) n → IsFirstIn (lines_in bytes) (lines + n)

pub looked_none : (bytes : List ℕ) → Looked bytes bytes 0
looked_none bytes = record { kept = λ k. k; first = λ n is. let same : n ≡ 0 + n = omega arith in subst (IsFirstIn (lines_in bytes)) same is }

module _ (bytes rest line behind : List ℕ) (lines : ℕ) (first : IsFirst rest line behind) (looked : Looked bytes rest lines) where
  pub looked_more : IsKept line → Looked bytes behind (lines + 1)
  looked_more kept = record {
    kept = λ later. looked.kept (subst AreKept (sym (lines_first rest line behind first)) (kept, later));
    first = λ n is.
        let here : IsFirstIn (line ∷ lines_in behind) (suc n) = inr (kept, n, refl, is) in
        let there = looked.first (suc n) (subst (λ (ls : List (List ℕ)). IsFirstIn ls (suc n)) (sym (lines_first rest line behind first)) here) in
        let same : lines + suc n ≡ (lines + 1) + n = omega arith in
        subst (IsFirstIn (lines_in bytes)) same there;
  }

  pub stray_here : IsStray line → IsFirstIn (lines_in bytes) (lines + 1)
  stray_here stray =
      let here : IsFirstIn (line ∷ lines_in behind) 1 = inl (stray, refl) in
      looked.first 1 (subst (λ (ls : List (List ℕ)). IsFirstIn ls 1) (sym (lines_first rest line behind first)) here)

pub none_here : (bytes rest : List ℕ) (lines : ℕ) → HasNoFeed rest → Looked bytes rest lines → AreKept (lines_in bytes)
none_here bytes rest lines none looked = looked.kept (subst AreKept (sym (lines_none rest none)) tt)

-- ---- the files

-- so many files have none, and the rest answers as the whole
pub record Passed (files rest : List (List ℕ)) (at : ℕ) : Type 0 where
  pub kept : AreKept (all_lines rest) → AreKept (all_lines files)
  pub first : (i n : ℕ) → IsFirstStray rest i n → IsFirstStray files (at + i) n

pub passed_none : (files : List (List ℕ)) → Passed files files 0
passed_none files = record { kept = λ k. k; first = λ i n is. let same : i ≡ 0 + i = omega arith in subst (λ (k : ℕ). IsFirstStray files k n) same is }

pub passed_more : (files rest others : List (List ℕ)) (file : List ℕ) (at : ℕ) → AreKept (lines_in file) → rest ≡ file ∷ others → Passed files rest at → Passed files others (at + 1)
passed_more files rest others file at kept is passed = record {
  kept = λ later. passed.kept (subst (λ (fs : List (List ℕ)). AreKept (all_lines fs)) (sym is) (all_both IsKept (lines_in file) (all_lines others) kept later));
  first = λ i n later.
      let here : IsFirstStray (file ∷ others) (suc i) n = (kept, later) in
      let there = passed.first (suc i) n (subst (λ (fs : List (List ℕ)). IsFirstStray fs (suc i) n) (sym is) here) in
      let same : at + suc i ≡ (at + 1) + i = omega arith in
      subst (λ (k : ℕ). IsFirstStray files k n) same there;
}

pub found_there : (files rest others : List (List ℕ)) (file : List ℕ) (at n : ℕ) → IsFirstIn (lines_in file) n → rest ≡ file ∷ others → Passed files rest at → IsFirstStray files at n
found_there files rest others file at n found is passed =
    let there = passed.first 0 n (subst (λ (fs : List (List ℕ)). IsFirstStray fs 0 n) (sym is) found) in
    let same : at + 0 ≡ at = omega arith in
    subst (λ (k : ℕ). IsFirstStray files k n) same there

pub none_left : (files rest : List (List ℕ)) (at : ℕ) → rest ≡ [] → Passed files rest at → AreKept (all_lines files)
none_left files rest at is passed = passed.kept (subst (λ (fs : List (List ℕ)). AreKept (all_lines fs)) (sym is) tt)
