-- What is noted in a file is what has its line there.
use Rattle.std.proofs.Common.{◌≡◌, ◌⊎◌, ◌+◌, ◌||◌, ℕ, Bool, true, false, List, [], ◌∷◌, Result, Ok, Err, refl, sym, ap, ◌∙◌, subst, inl, inr}
use Rattle.book_core.specs.Page.{PageName}
use Rattle.book_core.specs.Printing.{book_text}
use Rattle.flag_text.specs.Printing.{text_of}
use Rattle.note_lines.proofs.Lines as lines
use Rattle.note_lines.specs.Note.{Noted, note_line}
use Rattle.note_lines.specs.Blank.{is_blank}
use Rattle.note_lines.specs.BookLaw.{BooksBegin, HasNote, LinesBegin, NotesItsLines}
use Rattle.note_lines.specs.Lines.{IsLineOf, IsStray, Taken, Takes, ended}
use Rattle.note_lines.specs.Notes.{Notes, both, no_notes, one_note}
use Rattle.note_lines.specs.declared.fault.NotesFault.{NotesFault}

pub books_begin : BooksBegin
unfolding book_text text_of
books_begin book = refl

pub lines_begin : LinesBegin
unfolding note_line text_of
lines_begin note more = refl

-- a note line is not blank
not_blank : (note : Noted) → is_blank (note_line note) ≡ false
unfolding note_line text_of
not_blank note = refl

not_both : {X E Y : Type 0} {x : X} {e : E} → Ok x ≡ Err e → Y
not_both h = cc

differs : {Y : Type 0} → true ≡ false → Y
differs h = cc

either : (a b : Bool) → (a || b) ≡ true → (a ≡ true) ⊎ (b ≡ true)
either true b found = inl refl
either false b found = inr found

or_left : (a b : Bool) → a ≡ true → (a || b) ≡ true
or_left a b is = rw is refl

or_right : (a b : Bool) → b ≡ true → (a || b) ≡ true
or_right true b is = refl
or_right false b is = is

notes_in : Result Taken NotesFault → Notes
notes_in (Ok t) = t.notes
notes_in (Err e) = no_notes

-- of no line
abbrev good : Taken → Result Taken NotesFault
good t = Ok t

alone : (t other : Taken) (page : PageName) (input : List ℕ) → good t ≡ good other → t.notes page input ≡ other.notes page input
unfolding notes_in
alone t other page input is = ap (λ (r : Result Taken NotesFault). notes_in r page input) is

blank_line : {Y : Type 0} (line : List ℕ) (note : Noted) → is_blank line ≡ true → IsLineOf line note → Y
blank_line line note blank is = differs (sym blank ∙ ap is_blank is.same ∙ not_blank note)

stray_line : {Y : Type 0} (line : List ℕ) (note : Noted) → IsStray line → IsLineOf line note → Y
stray_line line note stray is = absurd (stray.none note is.note_is is.same)

-- a line is that of one note
same_note : (line : List ℕ) (note other : Noted) → IsLineOf line note → IsLineOf line other → other ≡ note
same_note line note other is also = lines.one_note other note also.note_is is.note_is (sym also.same ∙ is.same)

module _ (passing : Bool) (t : Taken) (page : PageName) (input : List ℕ) where
  behind : {A B C : Type 0} → A ⊎ B → A ⊎ (C ⊎ B)
  behind (inl a) = inl a
  behind (inr b) = inr (inr b)

  -- what is noted has its line
  has_line : (parts : List (List ℕ)) (all : Notes) (n passed : ℕ) → Takes passing all n passed parts (Ok t) → t.notes page input ≡ true → (all page input ≡ true) ⊎ HasNote parts page input
  has_line [] all n passed takes noted = inl (sym (alone t _ page input takes) ∙ noted)
  has_line (rest ∷ []) all n passed takes noted = inl (sym (alone t _ page input takes) ∙ noted)
  has_line (line ∷ next ∷ parts) all n passed (inl blank) noted = behind (has_line (next ∷ parts) all (n + 1) passed blank.1 noted)
  has_line (line ∷ next ∷ parts) all n passed (inr (inl added)) noted = elim (has_line (next ∷ parts) (both all (one_note added.0)) (n + 1) passed added.4 noted) [
    | inl before ↦
        elim (either (all page input) (one_note added.0 page input) before) [
          | inl old ↦ inl old
          | inr new ↦ inr (inl (added.0, added.1, new))
        ]
    | inr later ↦ inr (inr later)
  ]
  has_line (line ∷ next ∷ parts) all n passed (inr (inr (inl full))) noted = not_both full.3
  has_line (line ∷ next ∷ parts) all n passed (inr (inr (inr (inl stray)))) noted = behind (has_line (next ∷ parts) all (n + 1) (passed + 1) stray.2 noted)
  has_line (line ∷ next ∷ parts) all n passed (inr (inr (inr (inr refused)))) noted = not_both refused.2

  -- and what has its line is noted
  is_noted : (parts : List (List ℕ)) (all : Notes) (n passed : ℕ) → Takes passing all n passed parts (Ok t) → (all page input ≡ true) ⊎ HasNote parts page input → t.notes page input ≡ true
  is_noted [] all n passed takes (inl before) = alone t _ page input takes ∙ before
  is_noted [] all n passed takes (inr none) = absurd none
  is_noted (rest ∷ []) all n passed takes (inl before) = alone t _ page input takes ∙ before
  is_noted (rest ∷ []) all n passed takes (inr none) = absurd none
  is_noted (line ∷ next ∷ parts) all n passed (inl blank) (inl before) = is_noted (next ∷ parts) all (n + 1) passed blank.1 (inl before)
  is_noted (line ∷ next ∷ parts) all n passed (inl blank) (inr (inl here)) = blank_line (ended line) here.0 blank.0 here.1
  is_noted (line ∷ next ∷ parts) all n passed (inl blank) (inr (inr later)) = is_noted (next ∷ parts) all (n + 1) passed blank.1 (inr later)
  is_noted (line ∷ next ∷ parts) all n passed (inr (inl added)) (inl before) =
      is_noted (next ∷ parts) (both all (one_note added.0)) (n + 1) passed added.4 (inl (or_left (all page input) (one_note added.0 page input) before))
  is_noted (line ∷ next ∷ parts) all n passed (inr (inl added)) (inr (inl here)) =
      let same : here.0 ≡ added.0 = same_note (ended line) added.0 here.0 added.1 here.1 in
      let one : one_note added.0 page input ≡ true = subst (λ (x : Noted). one_note x page input ≡ true) same here.2 in
      is_noted (next ∷ parts) (both all (one_note added.0)) (n + 1) passed added.4 (inl (or_right (all page input) (one_note added.0 page input) one))
  is_noted (line ∷ next ∷ parts) all n passed (inr (inl added)) (inr (inr later)) = is_noted (next ∷ parts) (both all (one_note added.0)) (n + 1) passed added.4 (inr later)
  is_noted (line ∷ next ∷ parts) all n passed (inr (inr (inl full))) has = not_both full.3
  is_noted (line ∷ next ∷ parts) all n passed (inr (inr (inr (inl stray)))) (inl before) = is_noted (next ∷ parts) all (n + 1) (passed + 1) stray.2 (inl before)
  is_noted (line ∷ next ∷ parts) all n passed (inr (inr (inr (inl stray)))) (inr (inl here)) = stray_line (ended line) here.0 stray.0 here.1
  is_noted (line ∷ next ∷ parts) all n passed (inr (inr (inr (inl stray)))) (inr (inr later)) = is_noted (next ∷ parts) all (n + 1) (passed + 1) stray.2 (inr later)
  is_noted (line ∷ next ∷ parts) all n passed (inr (inr (inr (inr refused)))) has = not_both refused.2

pub notes_its_lines : NotesItsLines
notes_its_lines passing all n passed parts t takes page input = (has_line passing t page input parts all n passed takes, is_noted passing t page input parts all n passed takes)
