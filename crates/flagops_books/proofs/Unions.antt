-- What one file comes to: a book, or note lines.
use Rattle.flagops_files.specs.declared.refusal.Refusal.{Refusal}
use Rattle.std.proofs.Common.{◌≡◌, ◌∙◌, ◌||◌, ◌++◌, ℕ, Bool, true, false, List, Option, Some, None, IfSome, refl, ap, ap₂, sym, subst, inl, inr, string_bytes, IfErr, IfOk}
use Rattle.std.specs.Prelude.{Result, Ok, Err}
use Rattle.book_core.specs.Book.{Contents, inputs_on, is_among}
use Rattle.book_core.specs.Union.{HaveNoUnion, IsUnion, Unites}
use Rattle.book_core.specs.declared.fault.BookFault.{BookFault}
use Rattle.book_core.specs.declared.fault.BookFault.TheVariants as noting
use Rattle.book_core.specs.declared.fault.BookFileFault.{BookFileFault}
use Rattle.flagops_books.specs.Step.{GivesUnited, IsStepOf, IsStopOf}
use Rattle.flagops_books.specs.Told.{passed_text}
use Rattle.flagops_books.specs.Union.{IsLast, IsWithBook, IsWithBytes, IsWithFile, TakesBytes, United, is_one_line, noted, stray, union_refusal}
use Rattle.flagops_books.specs.declared.uniting.Gathered.{Gathered}
use Rattle.flagops_books.specs.declared.uniting.Step.{Step}
use Rattle.flagops_books.specs.declared.uniting.Step.TheVariants.{Noted, Stopped}
use Rattle.flagops_shell.specs.Files.{Holding}
use Rattle.flagops_shell.specs.Outcomes.{refused_by}
use Rattle.flagops_files.specs.Question.{notes_bytes_at}
use Rattle.flagops_books.specs.Refusal.{is_want, read_refusal, Refused}
use Rattle.flagops_books.specs.declared.refusal.BookRefusal.{BookRefusal}
use Rattle.flagops_books.specs.declared.refusal.BookRefusal.TheVariants.{FullBook, Load, WantOfMemory}
use Rattle.note_lines.specs.Blank.{begins_book}
use Rattle.byte_streams.specs.Lines.{parts_of}
use Rattle.note_lines.specs.Lines.{Taken, Takes, TakesNotes}
use Rattle.note_lines.specs.Notes.{HaveNoBook, IsBookOf, Notes, both, notes_in}
use Rattle.note_lines.specs.declared.fault.NotesFault.{NotesFault}
use Rattle.note_lines.specs.declared.fault.NotesFault.TheVariants as lines
use Rattle.note_lines.specs.declared.taking.NotesTaken.{NotesTaken}
use Rattle.flagops_books.proofs.Naming.{want_alone}

not_both : {X E Y : Type 0} {x : X} {e : E} → Ok x ≡ Err e → Y
not_both h = cc

-- ---- a book

read_is : (o : Result Contents BookFileFault) (other : Contents) → refused_by read_refusal o ≡ Ok other → o ≡ Ok other
read_is (Ok b) other is = cc
read_is (Err e) other is = not_both (sym is)

pub unread_book : (all : Notes) (told : List ℕ) (o : Result Contents BookFileFault) (e : BookRefusal) → refused_by read_refusal o ≡ Err e → IsWithBook IsLast all told o (Err e)
unread_book all told (Ok b) e is = not_both is
unread_book all told (Err f) e is = let same : e ≡ read_refusal f = cc in ap Err same

-- the union of a book of some notes with another one is the book of the notes of both
union_of : (all : Notes) (one other b : Contents) → IsBookOf all one → IsUnion one other b → IsBookOf (both all (notes_in other)) b
union_of all one other b is_of union = record {
  lawful = union.lawful;
  held = λ page input. union.held page input ∙ ap (λ (h : Bool). h || is_among input (inputs_on other page)) (is_of.held page input);
}

no_union : (all : Notes) (one other : Contents) → IsBookOf all one → HaveNoUnion one other → HaveNoBook (both all (notes_in other))
no_union all one other is_of none = λ b is_both.
    none b (record {
      lawful = is_both.lawful;
      held = λ page input. is_both.held page input ∙ ap (λ (h : Bool). h || is_among input (inputs_on other page)) (sym (is_of.held page input));
    })

module _ (all : Notes) (one other : Contents) (o : Result Contents BookFileFault) (is_of : IsBookOf all one) (read : refused_by read_refusal o ≡ Ok other) where
  pub united_book : (g : Gathered) → IsUnion one other g.book → GivesUnited (Ok (Noted g)) (IsWithBook IsLast all (string_bytes g.told) o)
  united_book g union =
      let told = string_bytes g.told in
      let whole : IsBookOf (both all (notes_in other)) g.book = union_of all one other g.book is_of union in
      let r : Result United BookRefusal = Ok (noted (both all (notes_in other)) told) in
      (both all (notes_in other), whole, subst (λ (x : Result Contents BookFileFault). IsWithBook IsLast all told x r) (sym (read_is o other read)) (inr (g.book, whole, refl)))

  full_only : (f : BookFault) → Unites one other (Err f) → is_want (union_refusal f) ≡ false → (union_refusal f ≡ FullBook) × HaveNoUnion one other
  full_only noting.WantOfMemory unites wanted = cc
  full_only noting.PageFull unites wanted = (refl, unites)
  full_only noting.InputTooLong unites wanted = absurd unites
  full_only noting.LastCall unites wanted = absurd unites
  full_only noting.Stranger unites wanted = absurd unites

  pub full_book : (told : List ℕ) (f : BookFault) (e : Refused) → Unites one other (Err f) → e.refusal ≡ union_refusal f → GivesUnited (Err e) (IsWithBook IsLast all told o)
  full_book told f e unites is = λ wanted.
      let why = full_only f unites (ap is_want (sym is) ∙ wanted) in
      let r : Result United BookRefusal = Err e.refusal in
      subst (λ (x : Result Contents BookFileFault). IsWithBook IsLast all told x r) (sym (read_is o other read)) (inl (no_union all one other is_of why.1, ap Err (is ∙ why.0)))

-- ---- note lines

pub long_line : (passing : Bool) (all : Notes) (path bytes before : List ℕ) (r : Result Step Refused) → is_one_line bytes ≡ true → IfOk r (IsStopOf path 1) → IfErr r (λ e. e.refusal ≡ WantOfMemory)
    → GivesUnited r (IsWithBytes false IsLast passing all before path bytes)
long_line passing all path bytes before (Ok (Noted g)) one stop wants = absurd stop
long_line passing all path bytes before (Ok (Stopped o)) one stop wants =
    let t : Result Taken NotesFault = Err (lines.Line 1) in
    (path, 1, (t, subst (λ (b : Bool). TakesBytes b passing all bytes t) (sym one) refl, refl), stop)
long_line passing all path bytes before (Err e) one stop wants = λ wanted. want_alone e.refusal wants wanted

module _ (passing : Bool) (all : Notes) (path bytes before : List ℕ) (lined : is_one_line bytes ≡ false) where
  abbrev Lines : Result United BookRefusal → Type 0
  Lines = IsWithBytes false IsLast passing all before path bytes

  as_bytes : (t : Result Taken NotesFault) → Takes passing all 1 0 (parts_of bytes) t → TakesBytes (is_one_line bytes) passing all bytes t
  as_bytes t takes = subst (λ (b : Bool). TakesBytes b passing all bytes t) (sym lined) takes

  pub taken_lines : (t : NotesTaken) (r : Result Step Refused) → TakesNotes passing all bytes (Ok t) → IfOk r (IsStepOf path t before) → IfErr r (λ e. e.refusal ≡ WantOfMemory) → GivesUnited r Lines
  taken_lines t (Ok (Noted g)) takes step wants =
      let taken = takes.0 in
      let line : passed_text path t.passed t.torn ≡ passed_text path taken.passed taken.torn = ap₂ (passed_text path) takes.3 takes.4 in
      let told : string_bytes g.told ≡ before ++ passed_text path taken.passed taken.torn = step.1 ∙ ap (λ (l : List ℕ). before ++ l) line in
      (taken.notes, subst (IsBookOf taken.notes) (sym step.0) takes.2, (Ok taken, as_bytes (Ok taken) takes.1, ap (λ (l : List ℕ). Ok (noted taken.notes l)) told))
  taken_lines t (Ok (Stopped o)) takes step wants = absurd step
  taken_lines t (Err e) takes step wants = λ wanted. want_alone e.refusal wants wanted

  pub stopped_lines : (n : ℕ) (r : Result Step Refused) → TakesNotes passing all bytes (Err (lines.Line n)) → IfOk r (IsStopOf path n) → IfErr r (λ e. e.refusal ≡ WantOfMemory) → GivesUnited r Lines
  stopped_lines n (Ok (Noted g)) takes stop wants = absurd stop
  stopped_lines n (Ok (Stopped o)) takes stop wants = (path, n, (Err (lines.Line n), as_bytes (Err (lines.Line n)) takes, refl), stop)
  stopped_lines n (Err e) takes stop wants = λ wanted. want_alone e.refusal wants wanted

  pub full_lines : (e : Refused) → TakesNotes passing all bytes (Err lines.PageFull) → e.refusal ≡ FullBook → GivesUnited (Err e) Lines
  full_lines e takes is = λ wanted. (Err lines.PageFull, as_bytes (Err lines.PageFull) takes, ap Err is)

-- ---- a file

module _ (passing : Bool) (path : List ℕ) (g : Gathered) (h : Option Holding) where
  abbrev File : Result Step Refused → Holding → Type 0
  File r at = (all : Notes) → IsBookOf all g.book → GivesUnited r (IsWithFile IsLast passing all (string_bytes g.told) path (notes_bytes_at at passing path))

  unread : (all : Notes) (o : Result (List ℕ) Refusal) (e : BookRefusal) → refused_by Load o ≡ Err e → IsWithFile IsLast passing all (string_bytes g.told) path o (Err e)
  unread all (Ok bytes) e is = not_both is
  unread all (Err f) e is = let same : e ≡ Load f = cc in ap Err same

  loaded_is : (o : Result (List ℕ) Refusal) (bytes : List ℕ) → refused_by Load o ≡ Ok bytes → o ≡ Ok bytes
  loaded_is (Ok b) bytes is = cc
  loaded_is (Err e) bytes is = not_both (sym is)

  pub unread_file : (e : Refused) → IfSome h (λ at. is_want e.refusal ≡ false → refused_by Load (notes_bytes_at at passing path) ≡ Err e.refusal) → IfSome h (File (Err e))
  unread_file e loaded = go h loaded
    where
      go : (k : Option Holding) → IfSome k (λ at. is_want e.refusal ≡ false → refused_by Load (notes_bytes_at at passing path) ≡ Err e.refusal) → IfSome k (File (Err e))
      go None loaded = tt
      go (Some at) loaded = λ all is_of wanted. unread all (notes_bytes_at at passing path) e.refusal (loaded wanted)

  pub read_file : (as_book : Bool) (bytes : List ℕ) (r : Result Step Refused) → begins_book bytes ≡ as_book → IfSome h (λ at. refused_by Load (notes_bytes_at at passing path) ≡ Ok bytes)
      → ((all : Notes) → IsBookOf all g.book → GivesUnited r (IsWithBytes as_book IsLast passing all (string_bytes g.told) path bytes)) → IfSome h (File r)
  read_file as_book bytes r begins loaded gives = go h loaded
    where
      there : (at : Holding) (all : Notes) → notes_bytes_at at passing path ≡ Ok bytes → (x : Result United BookRefusal) → IsWithBytes as_book IsLast passing all (string_bytes g.told) path bytes x
          → IsWithFile IsLast passing all (string_bytes g.told) path (notes_bytes_at at passing path) x
      there at all is x came =
          subst (λ (b : Result (List ℕ) Refusal). IsWithFile IsLast passing all (string_bytes g.told) path b x) (sym is)
          (subst (λ (b : Bool). IsWithBytes b IsLast passing all (string_bytes g.told) path bytes x) (sym begins) came)

      wider : (P Q : Result United BookRefusal → Type 0) → ((x : Result United BookRefusal) → P x → Q x) → (r : Result Step Refused) → GivesUnited r P → GivesUnited r Q
      wider P Q f (Ok (Noted n)) came = (came.0, came.1, f (Ok (noted came.0 (string_bytes n.told))) came.2)
      wider P Q f (Ok (Stopped o)) came = (came.0, came.1, f (Ok (stray came.0 came.1)) came.2, came.3)
      wider P Q f (Err e) came = λ wanted. f (Err e.refusal) (came wanted)

      go : (k : Option Holding) → IfSome k (λ at. refused_by Load (notes_bytes_at at passing path) ≡ Ok bytes) → IfSome k (File r)
      go None loaded = tt
      go (Some at) loaded = λ all is_of.
          wider (IsWithBytes as_book IsLast passing all (string_bytes g.told) path bytes) (IsWithFile IsLast passing all (string_bytes g.told) path (notes_bytes_at at passing path)) (there at all (loaded_is (notes_bytes_at at passing path) bytes loaded)) r (gives all is_of)
