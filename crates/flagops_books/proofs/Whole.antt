-- The book of what files come to is the union of what they note.
use Rattle.std.proofs.Common.{◌≡◌, ◌⊎◌, ◌||◌, ◌∙◌, ℕ, Bool, true, false, List, [], ◌∷◌, refl, ap, sym, subst, inl, inr}
use Rattle.std.specs.Prelude.{◌↔◌, Result, Ok, Err}
use Rattle.book_core.specs.Book.{Contents}
use Rattle.book_core.specs.Page.{PageName}
use Rattle.book_core.specs.Reading.{book_of}
use Rattle.book_core.specs.declared.fault.BookFileFault.{BookFileFault}
use Rattle.flagops_books.proofs.Read.{read_whole}
use Rattle.flagops_books.specs.Law.{BookNotes, BytesNote, FileNotes, OneNotes, UnitesFiles}
use Rattle.flagops_books.specs.Union.{IsUnited, IsWithBook, IsWithBytes, IsWithFile, IsWithLines, Later, TakesBytes, United, is_one_line, noted, stray}
use Rattle.flagops_shell.specs.Files.{Holding}
use Rattle.flagops_files.specs.Question.{notes_bytes_at}
use Rattle.flagops_books.specs.declared.refusal.BookRefusal.{BookRefusal}
use Rattle.flagops_files.specs.declared.refusal.Refusal.{Refusal}
use Rattle.byte_streams.specs.Lines.{parts_of}
use Rattle.note_lines.proofs.Noted.{notes_its_lines}
use Rattle.note_lines.specs.Blank.{begins_book}
use Rattle.note_lines.specs.BookLaw.{HasNote}
use Rattle.note_lines.specs.Lines.{Taken, Takes}
use Rattle.note_lines.specs.Notes.{Notes, both, no_notes, notes_in}
use Rattle.note_lines.specs.declared.fault.NotesFault.{NotesFault}
use Rattle.note_lines.specs.declared.fault.NotesFault.TheVariants as lines

not_both : {X E Y : Type 0} {x : X} {e : E} → Ok x ≡ Err e → Y
not_both h = cc

differs : {Y : Type 0} → false ≡ true → Y
differs h = cc

either : (a b : Bool) → (a || b) ≡ true → (a ≡ true) ⊎ (b ≡ true)
either true b found = inl refl
either false b found = inr found

or_left : (a b : Bool) → a ≡ true → (a || b) ≡ true
or_left a b is = rw is refl

or_right : (a b : Bool) → b ≡ true → (a || b) ≡ true
or_right true b is = refl
or_right false b is = is

notes_of : Result United BookRefusal → Notes
notes_of (Ok (noted n t)) = n
notes_of (Ok (stray path k)) = no_notes
notes_of (Err e) = no_notes

-- of what comes of some notes and others, what comes of the first in two parts
there : {M B N R : Type 0} → M ⊎ R → (M → B ⊎ N) → B ⊎ (N ⊎ R)
there {M} {B} {N} {R} (inl m) step = go (step m)
  where
    go : B ⊎ N → B ⊎ (N ⊎ R)
    go (inl b) = inl b
    go (inr n) = inr (inl n)
there (inr r) step = inr (inr r)

back : {M B N R : Type 0} → B ⊎ (N ⊎ R) → (B ⊎ N → M) → M ⊎ R
back (inl b) step = inl (step (inl b))
back (inr (inl n)) step = inl (step (inr n))
back (inr (inr r)) step = inr r

in_parts : {A M B N R : Type 0} → A ↔ (M ⊎ R) → M ↔ (B ⊎ N) → A ↔ (B ⊎ (N ⊎ R))
in_parts later step = (λ a. there (later.0 a) step.0, λ x. later.1 (back x step.1))

module _ (at : Holding) (passing : Bool) (all : Notes) (told : List ℕ) (page : PageName) (input : List ℕ) where
  abbrev Came : Result United BookRefusal
  Came = Ok (noted all told)

  -- what is noted in all is noted before, or here
  abbrev Parts : Notes → Type 0 → Type 0
  Parts before Here = (all page input ≡ true) ↔ ((before page input ≡ true) ⊎ Here)

  apart : {Y : Type 0} (path : List ℕ) (k : ℕ) → Came ≡ Ok (stray path k) → Y
  apart path k h = cc

  module _ (Next : Later) (Rest : Type 0) (later : (n : Notes) (t : List ℕ) → Next n t Came → Parts n Rest) (before : Notes) (t : List ℕ) where
    by_book : (o : Result Contents BookFileFault) → IsWithBook Next before t o Came → Parts before (BookNotes o page input ⊎ Rest)
    by_book (Err e) is = not_both is
    by_book (Ok other) (inl none) = not_both none.1
    by_book (Ok other) (inr more) =
        in_parts (later (both before (notes_in other)) t more.2)
        (either (before page input) (notes_in other page input), one_of)
      where
        one_of : (before page input ≡ true) ⊎ (notes_in other page input ≡ true) → both before (notes_in other) page input ≡ true
        one_of (inl is) = or_left (before page input) (notes_in other page input) is
        one_of (inr is) = or_right (before page input) (notes_in other page input) is

    by_lines : (path bytes : List ℕ) (o : Result Taken NotesFault) → Takes passing before 1 0 (parts_of bytes) o → IsWithLines Next t path o Came → Parts before (HasNote (parts_of bytes) page input ⊎ Rest)
    by_lines path bytes (Ok taken) takes is = in_parts (later taken.notes _ is) (notes_its_lines passing before 1 0 (parts_of bytes) taken takes page input)
    by_lines path bytes (Err (lines.Line k)) takes is = apart path k is
    by_lines path bytes (Err lines.PageFull) takes is = not_both is
    by_lines path bytes (Err lines.WantOfMemory) takes is = absurd is

    by_taken : (one : Bool) (path bytes : List ℕ) (o : Result Taken NotesFault) → TakesBytes one passing before bytes o → IsWithLines Next t path o Came → Parts before (HasNote (parts_of bytes) page input ⊎ Rest)
    by_taken true path bytes (Ok taken) takes is = not_both takes
    by_taken true path bytes (Err (lines.Line k)) takes is = apart path k is
    by_taken true path bytes (Err lines.PageFull) takes is = not_both is
    by_taken true path bytes (Err lines.WantOfMemory) takes is = absurd is
    by_taken false path bytes o takes is = by_lines path bytes o takes is

    by_bytes : (as_book : Bool) (path bytes : List ℕ) → IsWithBytes as_book Next passing before t path bytes Came → Parts before (BytesNote as_book bytes page input ⊎ Rest)
    by_bytes true path bytes is = by_book (book_of bytes) is
    by_bytes false path bytes is = by_taken (is_one_line bytes) path bytes is.0 is.1 is.2

    by_file : (path : List ℕ) (o : Result (List ℕ) Refusal) → IsWithFile Next passing before t path o Came → Parts before (FileNotes o page input ⊎ Rest)
    by_file path (Err e) is = not_both is
    by_file path (Ok bytes) is = by_bytes (begins_book bytes) path bytes is

  by_files : (paths : List (List ℕ)) (before : Notes) (t : List ℕ) → IsUnited at passing paths before t Came → Parts before (OneNotes at paths page input)
  unfolding IsUnited notes_of
  by_files [] before t is =
      let same : all page input ≡ before page input = ap (λ (r : Result United BookRefusal). notes_of r page input) is in
      (λ h. inl (sym same ∙ h), last same)
    where
      last : all page input ≡ before page input → (before page input ≡ true) ⊎ OneNotes at [] page input → all page input ≡ true
      last same (inl h) = same ∙ h
      last same (inr none) = absurd none
  by_files (path ∷ paths) before t is =
      subst (λ (o : Result (List ℕ) Refusal). Parts before (FileNotes o page input ⊎ OneNotes at paths page input)) (read_whole (IsUnited at passing paths) at passing before all t told path is)
      (by_file (IsUnited at passing paths) (OneNotes at paths page input) (λ n u later. by_files paths n u later) before t path (notes_bytes_at at passing path) is)

pub unites_files : UnitesFiles
unites_files at passing paths all told book united is_of page input =
    let parts = by_files at passing all told page input paths no_notes [] united in
    (λ h. none_before (parts.0 (sym (is_of.held page input) ∙ h)), λ x. is_of.held page input ∙ parts.1 (inr x))
  where
    none_before : {X : Type 0} → (no_notes page input ≡ true) ⊎ X → X
    none_before (inl h) = differs h
    none_before (inr x) = x
