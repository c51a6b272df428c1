-- All of a file is read, or the file is refused.
use Rattle.std.proofs.Common.{◌≡◌, ◌≢◌, ◌≤◌, ◌∙◌, ℕ, ◌+◌, ◌==◌, ◌&&◌, ◌||◌, not, nat_lt, Bool, true, false, List, [], ◌∷◌, ◌++◌, length, take, Option, Some, None, if◌then◌else◌, append_assoc, refl, ap, sym, subst, inl, inr, arith}
use Rattle.std.proofs.lemmas.Bool.Decides.{nat_tests}
use Rattle.std.proofs.lemmas.List.{take_all, length-take}
use Rattle.std.proofs.lemmas.List.Splits.{slice_split-cons_no, slice_split-cons_yes}
use Rattle.std.specs.List.{list_all, list_any, onto_first}
use Rattle.std.specs.Prelude.{Result, Ok, Err}
use Rattle.book_core.specs.Reading.{book_of}
use Rattle.book_core.specs.Book.{Contents}
use Rattle.book_core.specs.declared.fault.BookFileFault.{BookFileFault}
use Rattle.flag_text.proofs.Bools.{left, right}
use Rattle.flag_text.specs.Printing.{text_of}
use Rattle.flagops_books.specs.Law.{file_bytes_at}
use Rattle.flagops_books.specs.Union.{IsWithBook, IsWithBytes, IsWithFile, IsWithLines, Later, TakesBytes, United, is_one_line, noted, stray}
use Rattle.flagops_shell.specs.Beginning.{ends_line, is_feed, is_ink, may_begin_notes, may_begin_record, may_note}
use Rattle.flagops_shell.specs.Files.{Holding, front_of, front_of_notes, notes_piece}
use Rattle.flagops_shell.specs.Outcomes.{◌>>=◌, refused_by}
use Rattle.flagops_files.specs.Question.{if_readable, max_book, notes_bytes_at}
use Rattle.flagops_books.specs.declared.refusal.BookRefusal.{BookRefusal}
use Rattle.flagops_files.specs.declared.refusal.Refusal.{Refusal}
use Rattle.flagops_files.specs.declared.refusal.Refusal.TheVariants.{Load}
use Rattle.byte_streams.proofs.Cutting.{some_part}
use Rattle.byte_streams.specs.Lines.{parts_of}
use Rattle.note_lines.specs.Blank.{begins_book, is_blank, is_white}
use Rattle.note_lines.specs.Lines.{IsLineOf, Taken, Takes, ended}
use Rattle.note_lines.specs.Notes.{Notes}
use Rattle.note_lines.specs.declared.fault.NotesFault.{NotesFault}
use Rattle.note_lines.specs.declared.fault.NotesFault.TheVariants as lines
use Rattle.note_lines.specs.Note.{Noted, note_line}
use Rattle.flagops_files.proofs.BookBeginnings.{no_book}

not_both : {X E Y : Type 0} {x : X} {e : E} → Ok x ≡ Err e → Y
not_both h = cc

differs : {Y : Type 0} → true ≡ false → Y
differs h = cc

and_none : (a b : Bool) → b ≡ false → (a && b) ≡ false
and_none true b none = none
and_none false b none = refl

and_some : (a b : Bool) → a ≡ true → b ≡ true → (a && b) ≡ true
and_some a b one other = rw one other

or_none : (a b : Bool) → (a || b) ≡ false → b ≡ false
or_none true b none = differs none
or_none false b none = none

or_neither : (a b : Bool) → (a || b) ≡ false → a ≡ false
or_neither true b none = none
or_neither false b none = refl

not_none : (a : Bool) → not a ≡ false → a ≡ true
not_none true none = refl
not_none false none = differs none

not_some : (a : Bool) → not a ≡ true → a ≡ false
not_some true some = sym some
not_some false some = refl

-- ---- blanks

all_but : (p q r s : Bool) → (not ((p || q) || s) && not r) ≡ not (((p || q) || r) || s)
all_but true q r s = refl
all_but false true r s = refl
all_but false false true true = refl
all_but false false true false = refl
all_but false false false true = refl
all_but false false false false = refl

-- what is no white space is ink
ink : (b : ℕ) → is_ink b ≡ not (is_white b)
ink b = all_but (b == 32) (b == 9) (b == 10) (b == 13)

ink_in : (white inked : List ℕ) (b : ℕ) → is_white b ≡ false → list_all is_white ((white ++ b ∷ inked) ++ 10 ∷ []) ≡ false
ink_in [] inked b is = ap (λ (w : Bool). w && list_all is_white (inked ++ 10 ∷ [])) is
ink_in (x ∷ white) inked b is = and_none (is_white x) _ (ink_in white inked b is)

one_white : (white : List ℕ) (b : ℕ) → list_all is_white white ≡ true → is_white b ≡ true → list_all is_white (white ++ b ∷ []) ≡ true
one_white [] b all is = and_some (is_white b) true is refl
one_white (x ∷ white) b all is = and_some (is_white x) _ (left (is_white x) _ all) (one_white white b (right (is_white x) _ all) is)

-- ---- the first line

first : List ℕ → ℕ
first [] = 0
first (b ∷ bs) = b

first_of_note : (note : Noted) → first (note_line note) ≡ 91
unfolding note_line text_of first
first_of_note note = refl

-- a note line begins with a list, and with no white space
no_note : (white rest : List ℕ) (b : ℕ) (note : Noted) → list_all is_white white ≡ true → (b == 91) ≡ false → IsLineOf (white ++ b ∷ rest) note → ⊥
unfolding first
no_note [] rest b note all other is =
    let same : b ≡ 91 = ap first is.same ∙ first_of_note note in
    differs (sym (ap (λ (x : ℕ). x == 91) same) ∙ other)
no_note (x ∷ white) rest b note all other is =
    let same : x ≡ 91 = ap first is.same ∙ first_of_note note in
    let space : is_white 91 ≡ true = subst (λ (y : ℕ). is_white y ≡ true) same (left (is_white x) _ all) in
    differs (sym space)

-- of what is taken without passing over lines, each line is blank or a note's
module _ (t : Taken) (all : Notes) (n passed : ℕ) (line next : List ℕ) (parts : List (List ℕ)) where
  not_taken : is_blank (ended line) ≡ false → ((note : Noted) → IsLineOf (ended line) note → ⊥) → Takes false all n passed (line ∷ next ∷ parts) (Ok t) → ⊥
  not_taken some none (inl blank) = differs (sym blank.0 ∙ some)
  not_taken some none (inr (inl added)) = none added.0 added.1
  not_taken some none (inr (inr (inl full))) = not_both full.3
  not_taken some none (inr (inr (inr (inl over)))) = differs (sym over.1)
  not_taken some none (inr (inr (inr (inr refused)))) = not_both refused.2

  goes_on : ((note : Noted) → IsLineOf (ended line) note → ⊥) → Takes false all n passed (line ∷ next ∷ parts) (Ok t) → Takes false all (n + 1) passed (next ∷ parts) (Ok t)
  goes_on none (inl blank) = blank.1
  goes_on none (inr (inl added)) = absurd (none added.0 added.1)
  goes_on none (inr (inr (inl full))) = not_both full.3
  goes_on none (inr (inr (inr (inl over)))) = differs (sym over.1)
  goes_on none (inr (inr (inr (inr refused)))) = not_both refused.2

-- the parts, of which the first has white space before it
glued : List ℕ → List (List ℕ) → List (List ℕ)
glued white [] = []
glued white (part ∷ parts) = (white ++ part) ∷ parts

one_more : (b : ℕ) (white : List ℕ) (parts : List (List ℕ)) → parts ≢ [] → glued white (onto_first b parts) ≡ glued (white ++ b ∷ []) parts
unfolding glued
one_more b white [] some = absurd (some refl)
one_more b white (part ∷ parts) some = ap (λ (l : List ℕ). l ∷ parts) (sym (append_assoc white (b ∷ []) part))

first_part : (parts : List (List ℕ)) → parts ≢ [] → (part : List ℕ) × (others : List (List ℕ)) × (parts ≡ part ∷ others)
first_part [] some = absurd (some refl)
first_part (part ∷ others) some = (part, others, refl)

-- where a line ends there are two parts
two_parts : (bytes : List ℕ) → ends_line bytes ≡ true → (line next : List ℕ) × (others : List (List ℕ)) × (parts_of bytes ≡ line ∷ next ∷ others)
unfolding parts_of
two_parts [] ends = differs (sym ends)
two_parts (b ∷ bs) ends = go (is_feed b) refl ends (λ later. two_parts bs later)
  where
    go : (feed : Bool) → is_feed b ≡ feed → (is_feed b || list_any is_feed bs) ≡ true → (ends_line bs ≡ true → (line next : List ℕ) × (others : List (List ℕ)) × (parts_of bs ≡ line ∷ next ∷ others))
        → (line next : List ℕ) × (others : List (List ℕ)) × (parts_of (b ∷ bs) ≡ line ∷ next ∷ others)
    go true is found behind =
        let next = first_part (parts_of bs) (some_part bs) in
        ([], next.0, next.1, slice_split-cons_yes is_feed b bs is ∙ ap (λ (ps : List (List ℕ)). [] ∷ ps) next.2)
    go false is found behind =
        let later = behind (ap (λ (f : Bool). f || list_any is_feed bs) (sym is) ∙ found) in
        (b ∷ later.0, later.1, later.2, slice_split-cons_no is_feed b bs is ∙ ap (onto_first b) later.3)

-- a file whose first line that is not blank may be no note's is not taken
stray_first : (t : Taken) (bytes white : List ℕ) (all : Notes) (n passed : ℕ) → list_all is_white white ≡ true → may_begin_notes bytes ≡ false → Takes false all n passed (glued white (parts_of bytes)) (Ok t) → ⊥
unfolding parts_of glued
stray_first t [] white all n passed blank none takes = differs none
stray_first t (b ∷ bs) white all n passed blank none takes =
    go (is_ink b) refl (is_feed b) refl (λ later ps. stray_first t bs [] all (n + 1) passed refl later ps) (λ space later ps. stray_first t bs (white ++ b ∷ []) all n passed (one_white white b blank space) later ps)
  where
    Taking : List (List ℕ) → Type 0
    Taking parts = Takes false all n passed parts (Ok t)

    Behind : List ℕ → ℕ → Type 0
    Behind front k = may_begin_notes bs ≡ false → Takes false all k passed (glued front (parts_of bs)) (Ok t) → ⊥

    go : (inked : Bool) → is_ink b ≡ inked → (feed : Bool) → is_feed b ≡ feed → Behind [] (n + 1) → (is_white b ≡ true → Behind (white ++ b ∷ []) n) → ⊥
    go true inked feed fed anew on =
        let other : (b == 91 || not (ends_line bs)) ≡ false = ap (λ (i : Bool). if i then b == 91 || not (ends_line bs) else may_begin_notes bs) (sym inked) ∙ none in
        let two = two_parts bs (not_none (ends_line bs) (or_none (b == 91) _ other)) in
        let no_feed : is_feed b ≡ false = not_some (is_feed b) (right _ (not (is_feed b)) inked) in
        let parts : parts_of (b ∷ bs) ≡ (b ∷ two.0) ∷ two.1 ∷ two.2 = slice_split-cons_no is_feed b bs no_feed ∙ ap (onto_first b) two.3 in
        let space : is_white b ≡ false = not_some (is_white b) (sym (ink b) ∙ inked) in
        not_taken t all n passed (white ++ b ∷ two.0) two.1 two.2 (ink_in white two.0 b space)
        (λ note is. no_note white (two.0 ++ 10 ∷ []) b note blank (or_neither (b == 91) _ other) (subst (λ (l : List ℕ). IsLineOf l note) (append_assoc white (b ∷ two.0) (10 ∷ [])) is))
        (subst (λ (ps : List (List ℕ)). Taking (glued white ps)) parts takes)
    go false inked true fed anew on =
        let later : may_begin_notes bs ≡ false = ap (λ (i : Bool). if i then b == 91 || not (ends_line bs) else may_begin_notes bs) (sym inked) ∙ none in
        let next = first_part (parts_of bs) (some_part bs) in
        let parts : parts_of (b ∷ bs) ≡ [] ∷ next.0 ∷ next.1 = slice_split-cons_yes is_feed b bs fed ∙ ap (λ (ps : List (List ℕ)). [] ∷ ps) next.2 in
        let behind = goes_on t all n passed (white ++ []) next.0 next.1
        (λ note is. no_note white [] 10 note blank refl (subst (λ (l : List ℕ). IsLineOf l note) (append_assoc white [] (10 ∷ [])) is))
        (subst (λ (ps : List (List ℕ)). Taking (glued white ps)) parts takes) in
        anew later (subst (λ (ps : List (List ℕ)). Takes false all (n + 1) passed (glued [] ps) (Ok t)) (sym next.2) behind)
    go false inked false fed anew on =
        let later : may_begin_notes bs ≡ false = ap (λ (i : Bool). if i then b == 91 || not (ends_line bs) else may_begin_notes bs) (sym inked) ∙ none in
        let space : is_white b ≡ true = not_none (is_white b) (sym (ink b) ∙ inked) in
        on space later
        (subst Taking (ap (glued white) (slice_split-cons_no is_feed b bs fed) ∙ one_more b white (parts_of bs) (some_part bs)) takes)

as_glued : (parts : List (List ℕ)) → glued [] parts ≡ parts
unfolding glued
as_glued [] = refl
as_glued (part ∷ parts) = refl

-- ---- a file

not_less : (n : ℕ) → n ≡ 16777216 → nat_lt n 16777216 ≡ false
not_less n is = grind (arith, nat_tests)

at_most : (n : ℕ) → nat_lt 16777216 n ≡ false → n ≤ 16777216
at_most n is = grind (arith, nat_tests)

at_least : (n : ℕ) → nat_lt 16777216 n ≡ true → 16777216 ≤ n
at_least n is = grind (arith, nat_tests)

module _ (Next : Later) (passing : Bool) (before all : Notes) (t u : List ℕ) (path : List ℕ) where
  abbrev Came : Result United BookRefusal
  Came = Ok (noted all u)

  apart : {Y : Type 0} (other : List ℕ) (k : ℕ) → Came ≡ Ok (stray other k) → Y
  apart other k h = cc

  unread : (o : Result Contents BookFileFault) (e : BookFileFault) → o ≡ Err e → IsWithBook Next before t o Came → ⊥
  unread (Err f) e is came = not_both came
  unread (Ok b) e is came = not_both is

  module _ (piece : List ℕ) (neither : may_note passing piece ≡ false) (full : length piece ≡ 16777216) where
    no_record : may_begin_record piece ≡ false
    unfolding may_note
    no_record = or_neither (may_begin_record piece) _ neither

    not_lines : (o : Result Taken NotesFault) → ((taken : Taken) → o ≡ Ok taken → ⊥) → IsWithLines Next t path o Came → ⊥
    not_lines (Ok taken) none is = none taken refl
    not_lines (Err (lines.Line k)) none is = apart path k is
    not_lines (Err lines.PageFull) none is = not_both is
    not_lines (Err lines.WantOfMemory) none is = is

    long : ends_line piece ≡ false → is_one_line piece ≡ true
    long ends =
        let none = not_less (length piece) full in
        ap (λ (b : Bool). not (b || ends_line piece)) none ∙ ap not ends

    lined : ends_line piece ≡ true → is_one_line piece ≡ false
    lined ends =
        let none = not_less (length piece) full in
        ap (λ (b : Bool). not (b || ends_line piece)) none ∙ ap not ends

    lines_of : ends_line piece ≡ true → (passing || may_begin_notes piece) ≡ false
    unfolding may_note
    lines_of ends = ap (λ (e : Bool). e && (passing || may_begin_notes piece)) (sym ends) ∙ or_none (may_begin_record piece) _ neither

    not_taken_line : (o : Result Taken NotesFault) → TakesBytes true passing before piece o → (taken : Taken) → o ≡ Ok taken → ⊥
    not_taken_line o is taken ok = not_both (sym ok ∙ is)

    not_taken_lines : ends_line piece ≡ true → (o : Result Taken NotesFault) → TakesBytes false passing before piece o → (taken : Taken) → o ≡ Ok taken → ⊥
    not_taken_lines ends o takes taken ok =
        let whole : Takes false before 1 0 (parts_of piece) (Ok taken) =
        subst (λ (p : Bool). Takes p before 1 0 (parts_of piece) (Ok taken)) (or_neither passing _ (lines_of ends)) (subst (λ (x : Result Taken NotesFault). Takes passing before 1 0 (parts_of piece) x) ok takes) in
        stray_first taken piece [] before 1 0 refl (or_none passing _ (lines_of ends)) (subst (λ (ps : List (List ℕ)). Takes false before 1 0 ps (Ok taken)) (sym (as_glued (parts_of piece))) whole)

    -- a full piece that begins as neither a book nor note lines is refused
    refused : (as_book : Bool) → IsWithBytes as_book Next passing before t path piece Came → ⊥
    refused true is = unread (book_of piece) _ (no_book piece no_record) is
    refused false is = go (ends_line piece) refl
      where
        go : (ends : Bool) → ends_line piece ≡ ends → ⊥
        go false ends = not_lines is.0 (not_taken_line is.0 (subst (λ (b : Bool). TakesBytes b passing before piece is.0) (long ends) is.1)) is.2
        go true ends = not_lines is.0 (not_taken_lines ends is.0 (subst (λ (b : Bool). TakesBytes b passing before piece is.0) (lined ends) is.1)) is.2

  abbrev read_of : Option (List ℕ) → Result (List ℕ) Refusal
  read_of o = refused_by Load (front_of_notes passing max_book o) >>= λ bytes. if_readable bytes

  abbrev all_of : Option (List ℕ) → Result (List ℕ) Refusal
  all_of o = refused_by Load (front_of max_book o) >>= λ bytes. if_readable bytes

  readable : (bytes : List ℕ) → length bytes ≤ max_book → if_readable bytes ≡ Ok bytes
  readable bytes fits = grind (arith, nat_tests)

  all_read : (o : Option (List ℕ)) → IsWithFile Next passing before t path (read_of o) Came → read_of o ≡ all_of o
  all_read None is = refl
  all_read (Some bytes) is = go (may_note passing (notes_piece bytes)) refl
    where
      read : (may : Bool) → may_note passing (notes_piece bytes) ≡ may → read_of (Some bytes) ≡ if_readable (if may then take (max_book + 1) bytes else notes_piece bytes)
      read may is = ap (λ (b : Bool). if_readable (if b then take (max_book + 1) bytes else notes_piece bytes)) is

      piece_alone : may_note passing (notes_piece bytes) ≡ false → (more : Bool) → nat_lt 16777216 (length bytes) ≡ more → read_of (Some bytes) ≡ all_of (Some bytes)
      piece_alone may false few =
          let short : length bytes ≤ 16777216 = at_most (length bytes) few in
          let same : notes_piece bytes ≡ take (max_book + 1) bytes = take_all 16777216 bytes short ∙ sym (take_all (max_book + 1) bytes (omega (arith, short))) in
          read false may ∙ ap if_readable same
      piece_alone may true many =
          let long : 16777216 ≤ length bytes = at_least (length bytes) many in
          let full : length (notes_piece bytes) ≡ 16777216 = omega (arith, length-take 16777216 bytes, long) in
          let only : read_of (Some bytes) ≡ Ok (notes_piece bytes) = read false may ∙ readable (notes_piece bytes) (omega (arith, full)) in
          absurd (refused (notes_piece bytes) may full (begins_book (notes_piece bytes)) (subst (λ (o : Result (List ℕ) Refusal). IsWithFile Next passing before t path o Came) only is))

      go : (may : Bool) → may_note passing (notes_piece bytes) ≡ may → read_of (Some bytes) ≡ all_of (Some bytes)
      go true may = read true may
      go false may = piece_alone may (nat_lt 16777216 (length bytes)) refl

-- where a file is not refused, all of it was read
pub read_whole : (Next : Later) (at : Holding) (passing : Bool) (before all : Notes) (t u : List ℕ) (path : List ℕ) → IsWithFile Next passing before t path (notes_bytes_at at passing path) (Ok (noted all u)) → notes_bytes_at at passing path ≡ file_bytes_at at path
unfolding notes_bytes_at file_bytes_at
read_whole Next at passing before all t u path is = all_read Next passing before all t u path (at path) is
