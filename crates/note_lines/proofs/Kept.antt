-- Lines that are taken one after another.
use Rattle.std.proofs.Common.{◌≡◌, ◌≢◌, ◌≤◌, ◌⊎◌, ◌+◌, ◌&&◌, ◌||◌, ℕ, nat_lt, cond, if◌then◌else◌, unwrap_or, Bool, true, false, List, [], ◌∷◌, length, Some, None, Result, Ok, Err, IsOk, refl, sym, ap, ap₂, ◌∙◌, subst, inl, inr, arith}
use borrow.Author.Tests.{le-ltb}
use Rattle.std.specs.Str.{bytes_eq}
use Rattle.std.specs.List.Sorted.{IsStrictlySortedBy}
use Rattle.book_core.proofs.Answered.{held_with}
use Rattle.book_core.proofs.Noting.{book_taken}
use Rattle.book_core.proofs.United.{united}
use Rattle.book_core.specs.Book.{Contents, IsBook, inputs_on, is_among, most_bytes, most_inputs, reply_to, with_input}
use Rattle.book_core.specs.Page.{PageName, page_eq}
use Rattle.book_core.specs.Union.{HaveNoUnion, after_reply, with_pages}
use Rattle.book_core.specs.declared.fault.BookFault.{BookFault}
use Rattle.book_core.specs.declared.fault.BookFault.TheVariants as book
use Rattle.book_core.specs.declared.noted.Noted.TheVariants.{New, Again}
use Rattle.byte_streams.proofs.Cutting.{line_first, no_line, some_part}
use Rattle.byte_streams.specs.Lines.{HasNoFeed, IsFirst, parts_of}
use Rattle.note_lines.specs.Note.{Noted}
use Rattle.note_lines.specs.Blank.{is_blank}
use Rattle.note_lines.specs.Fault.{of_note}
use Rattle.note_lines.specs.Line.{TakesLine}
use Rattle.note_lines.specs.Lines.{IsLineOf, IsStray, Taken, Takes, TakesNotes, ended, is_some_text}
use Rattle.note_lines.specs.Notes.{HaveNoBook, IsBookOf, Notes, both, one_note}
use Rattle.note_lines.specs.declared.fault.NotesFault.{NotesFault}
use Rattle.note_lines.specs.declared.fault.NotesFault.TheVariants.{Line, PageFull, WantOfMemory}
use Rattle.note_lines.specs.declared.taking.NotesTaken.{NotesTaken}

-- ---- one note

full_only : (long among room : Bool) (f : BookFault) → cond long (Err book.InputTooLong) (cond among (Ok Again) (cond room (Ok New) (Err book.PageFull))) ≡ Err f → long ≡ false → f ≡ book.PageFull
full_only true among room f is short = cc
full_only false true room f is short = cc
full_only false false true f is short = cc
full_only false false false f is short = cc

-- an input that is not too long is refused where its page is full
pub refused_full : (b : Contents) (page : PageName) (input : List ℕ) (f : BookFault) → length input ≤ most_bytes → reply_to b page input ≡ Err f → f ≡ book.PageFull
unfolding reply_to
refused_full b page input f short is = full_only (nat_lt most_bytes (length input)) (is_among input (inputs_on b page)) (nat_lt (length (inputs_on b page)) most_inputs) f is (le-ltb _ _ short)

differs : {X : Type 0} → WantOfMemory ≡ PageFull → X
differs h = cc

pub full_there : (b : Contents) (page : PageName) (input : List ℕ) (f : BookFault) → length input ≤ most_bytes → (f ≢ book.WantOfMemory → reply_to b page input ≡ Err f) → of_note f ≡ PageFull → reply_to b page input ≡ Err book.PageFull
full_there b page input book.WantOfMemory short is full = differs full
full_there b page input book.PageFull short is full = is (λ e. cc)
full_there b page input book.InputTooLong short is full = let there = is (λ e. cc) in there ∙ ap Err (refused_full b page input book.InputTooLong short there)
full_there b page input book.LastCall short is full = let there = is (λ e. cc) in there ∙ ap Err (refused_full b page input book.LastCall short there)
full_there b page input book.Stranger short is full = let there = is (λ e. cc) in there ∙ ap Err (refused_full b page input book.Stranger short there)

-- the book that takes a note is that of one note more
pub with_note : (all : Notes) (b : Contents) (note : Noted) → IsBookOf all b → IsOk (reply_to b note.page note.input) → IsBookOf (both all (one_note note)) (with_input b note.page note.input)
with_note all b note is_of taken = record {
  lawful = book_taken b note.page note.input is_of.lawful taken;
  held = λ q x. held_with b note.page q note.input x ∙ ap (λ (h : Bool). h || (page_eq q note.page && bytes_eq x note.input)) (is_of.held q x);
}

or_none : (a : Bool) → a ≡ (a || false)
or_none true = refl
or_none false = refl

-- the book of one note
of_one : PageName → List ℕ → Contents
of_one page input = (page, input ∷ []) ∷ []

is_one : (page : PageName) (input : List ℕ) → length input ≤ most_bytes → IsBook (of_one page input)
unfolding of_one IsStrictlySortedBy
is_one page input short = record {
  rising = (tt, tt);
  filled = (record { some = omega arith; lawful = record { few = omega arith; short = (short, tt); rising = (tt, tt) } }, tt);
}

held_one : (page q : PageName) (input x : List ℕ) → (page_eq q page && bytes_eq x input) ≡ is_among x (inputs_on (of_one page input) q)
unfolding of_one inputs_on
held_one page q input x = go (page_eq q page)
  where
    go : (same : Bool) → (same && bytes_eq x input) ≡ is_among x (unwrap_or (cond same (Some (input ∷ [])) None) [])
    go true = or_none (bytes_eq x input)
    go false = refl

-- where a page is full there is no book of one note more
pub no_note : (all : Notes) (b : Contents) (note : Noted) → length note.input ≤ most_bytes → IsBookOf all b → reply_to b note.page note.input ≡ Err book.PageFull → HaveNoBook (both all (one_note note))
unfolding of_one
no_note all b note short is_of full = λ other is_other.
    let gives : with_pages (Ok b) (of_one note.page note.input) ≡ Err book.PageFull = ap (λ r. with_pages (after_reply r (Ok (with_input b note.page note.input))) []) full in
    let none : HaveNoUnion b (of_one note.page note.input) = united (Err book.PageFull) b (of_one note.page note.input) is_of.lawful (is_one note.page note.input short) (λ _. gives) in
    none other (record {
      lawful = is_other.lawful;
      held = λ q x. is_other.held q x ∙ ap₂ (λ (a c : Bool). a || c) (sym (is_of.held q x)) (held_one note.page q note.input x);
    })

-- ---- one line

abbrev Next : Bool → Notes → ℕ → ℕ → List ℕ → List (List ℕ) → Result Taken NotesFault → Type 0
Next passing all n passed line parts r =
    ((is_blank line ≡ true) × Takes passing all (n + 1) passed parts r)
    ⊎ ((note : Noted) × IsLineOf line note × (b : Contents) × IsBookOf (both all (one_note note)) b × Takes passing (both all (one_note note)) (n + 1) passed parts r)
    ⊎ ((note : Noted) × IsLineOf line note × HaveNoBook (both all (one_note note)) × (r ≡ Err PageFull))
    ⊎ (IsStray line × (passing ≡ true) × Takes passing all (n + 1) (passed + 1) parts r)
    ⊎ (IsStray line × (passing ≡ false) × (r ≡ Err (Line n)))

next_line : (passing : Bool) (all : Notes) (n passed : ℕ) (line : List ℕ) (parts : List (List ℕ)) (r : Result Taken NotesFault) → parts ≢ [] → Next passing all n passed (ended line) parts r → Takes passing all n passed (line ∷ parts) r
next_line passing all n passed line [] r some next = absurd (some refl)
next_line passing all n passed line (part ∷ parts) r some next = next

-- what is taken of the rest from here on is what is taken of all
pub record Stands (passing : Bool) (all : Notes) (bytes : List ℕ) (book : Contents) (lines passed : ℕ) (rest : List ℕ) : Type 0 where
  pub now : Notes
  pub is_of : IsBookOf now book
  pub goes : (r : Result Taken NotesFault) → Takes passing now (lines + 1) passed (parts_of rest) r → Takes passing all 1 0 (parts_of bytes) r

pub begins : (passing : Bool) (all : Notes) (bytes : List ℕ) (b : Contents) → IsBookOf all b → Stands passing all bytes b 0 0 bytes
begins passing all bytes b is_of = record { now = all; is_of = is_of; goes = λ r taken. taken }

module _ (passing : Bool) (rest line behind : List ℕ) (first : IsFirst rest line behind) where
  at_line : (now : Notes) (n passed : ℕ) (r : Result Taken NotesFault) → Next passing now n passed line (parts_of behind) r → Takes passing now n passed (parts_of rest) r
  at_line now n passed r next =
      let parts : parts_of rest ≡ first.text ∷ parts_of behind = ap parts_of first.whole ∙ line_first first.text behind first.none in
      let here : Next passing now n passed (ended first.text) (parts_of behind) r = subst (λ (l : List ℕ). Next passing now n passed l (parts_of behind) r) first.ended next in
      subst (λ (ps : List (List ℕ)). Takes passing now n passed ps r) (sym parts) (next_line passing now n passed first.text (parts_of behind) r (some_part behind) here)

  module _ (all : Notes) (bytes : List ℕ) (lines passed : ℕ) (old new : Contents) (stands : Stands passing all bytes old lines passed rest) where
    -- a line that is passed over
    pub passes : TakesLine passing line (lines + 1) old new (Ok true) → Stands passing all bytes new (lines + 1) (passed + 1) behind
    passes taken = record {
      now = stands.now;
      is_of = subst (IsBookOf stands.now) (sym taken.2) stands.is_of;
      goes = λ r later. stands.goes r (at_line stands.now (lines + 1) passed r (inr (inr (inr (inl (taken.0, taken.1, later))))));
    }

    -- a line that is blank or added
    pub takes : TakesLine passing line (lines + 1) old new (Ok false) → Stands passing all bytes new (lines + 1) passed behind
    takes (inl blank) = record {
      now = stands.now;
      is_of = subst (IsBookOf stands.now) (sym blank.1) stands.is_of;
      goes = λ r later. stands.goes r (at_line stands.now (lines + 1) passed r (inl (blank.0, later)));
    }
    takes (inr added) =
        let note = added.0 in
        let is_of : IsBookOf (both stands.now (one_note note)) new = subst (IsBookOf (both stands.now (one_note note))) (sym added.2.1) (with_note stands.now old note stands.is_of added.2.0) in
        record {
          now = both stands.now (one_note note);
          is_of = is_of;
          goes = λ r later. stands.goes r (at_line stands.now (lines + 1) passed r (inr (inl (note, added.1, new, is_of, later))));
        }

    -- a line that is refused
    pub refuses : (e : NotesFault) → TakesLine passing line (lines + 1) old new (Err e) → TakesNotes passing all bytes (Err e)
    refuses WantOfMemory taken = tt
    refuses (Line k) taken =
        let told : Takes passing stands.now (lines + 1) passed (parts_of rest) (Err (Line (lines + 1))) = at_line stands.now (lines + 1) passed _ (inr (inr (inr (inr (taken.1, taken.2, refl))))) in
        subst (λ (n : ℕ). Takes passing all 1 0 (parts_of bytes) (Err (Line n))) (sym taken.0) (stands.goes (Err (Line (lines + 1))) told)
    refuses PageFull taken =
        stands.goes (Err PageFull) (at_line stands.now (lines + 1) passed (Err PageFull)
        (inr (inr (inl (taken.0, taken.1, no_note stands.now old taken.0 taken.1.note_is.short stands.is_of taken.2, refl)))))

-- ---- what becomes of a line

-- the line of no note
pub strayed : (passing : Bool) (line : List ℕ) (n : ℕ) (b : Contents) (r : Result Bool NotesFault) → r ≡ (if passing then Ok passing else Err (Line n)) → IsStray line → TakesLine passing line n b b r
strayed true line n b r is stray = subst (TakesLine true line n b b) (sym is) (stray, refl, refl)
strayed false line n b r is stray = subst (TakesLine false line n b b) (sym is) (refl, stray, refl)

-- a note that is refused
pub unadded : (passing : Bool) (line : List ℕ) (n : ℕ) (old new : Contents) (note : Noted) (e : NotesFault) → IsLineOf line note → (e ≡ PageFull → reply_to old note.page note.input ≡ Err book.PageFull) → ((k : ℕ) → e ≡ Line k → ⊥)
    → TakesLine passing line n old new (Err e)
unadded passing line n old new note WantOfMemory is full one = tt
unadded passing line n old new note (Line k) is full one = absurd (one k refl)
unadded passing line n old new note PageFull is full one = (note, is, full refl)

-- no line is left
pub ends : (passing : Bool) (all : Notes) (bytes rest : List ℕ) (t : NotesTaken) (lines : ℕ) → Stands passing all bytes t.book lines t.passed rest → HasNoFeed rest → t.torn ≡ is_some_text rest → TakesNotes passing all bytes (Ok t)
ends passing all bytes rest t lines stands none torn =
    let taken : Taken = record { notes = stands.now; passed = t.passed; torn = is_some_text rest } in
    let last : Takes passing stands.now (lines + 1) t.passed (parts_of rest) (Ok taken) = subst (λ (ps : List (List ℕ)). Takes passing stands.now (lines + 1) t.passed ps (Ok taken)) (sym (no_line rest none)) refl in
    (taken, stands.goes (Ok taken) last, stands.is_of, refl, torn)
