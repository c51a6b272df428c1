-- Files that are read one after the other.
use Rattle.flagops_files.specs.declared.refusal.Refusal.{Refusal}
use Rattle.std.proofs.Common.{◌≡◌, ◌+◌, ◌<◌, ℕ, Bool, true, false, List, [], ◌∷◌, ◌++◌, Option, Some, None, IfSome, add-one, append-nil, append_assoc, refl, ap, ◌∙◌, sym, subst, drop, take, get_or, length, map, inl, inr, string_bytes}
use Rattle.std.proofs.Math.Seq.{drop-cons}
use Rattle.std.proofs.lemmas.List.{map-append, take_more}
use Rattle.std.specs.Prelude.{Result, Ok, Err}
use Rattle.std.specs.List.Sorted.{IsStrictlySortedBy}
use Rattle.book_core.specs.Book.{Contents, inputs_on}
use Rattle.book_core.specs.Reading.{book_of}
use Rattle.book_core.specs.declared.fault.BookFileFault.{BookFileFault}
use Rattle.flagops_books.specs.Attempts.{united_attempts}
use Rattle.flagops_books.specs.Step.{GivesUnited}
use Rattle.flagops_books.specs.Union.{IsLast, IsUnited, IsWithBook, IsWithBytes, IsWithFile, IsWithLines, Later, United, noted, stray}
use Rattle.flagops_books.specs.declared.uniting.Gathered.{Gathered}
use Rattle.flagops_books.specs.declared.uniting.Step.{Step}
use Rattle.flagops_books.specs.declared.uniting.Step.TheVariants.{Noted, Stopped}
use Rattle.flagops_shell.specs.Files.{Holding}
use Rattle.flagops_files.specs.Question.{notes_bytes_at}
use Rattle.flagops_shell.specs.declared.outcome.Outcome.{Outcome}
use Rattle.flagops_books.specs.declared.refusal.BookRefusal.{BookRefusal}
use Rattle.flagops_books.specs.Refusal.{Refused, is_want}
use Rattle.flagops_files.proofs.Told.{AreLeft, first_of_left, left_after}
use Rattle.flagops_files.specs.Told.{AllSucceed, Attempt, NamesFirst, NamesSubject, attempt, file}
use Rattle.flagops_shell.specs.Diagnostic.{Says}
use Rattle.note_lines.specs.Blank.{begins_book}
use Rattle.note_lines.specs.Lines.{Taken}
use Rattle.note_lines.specs.Notes.{IsBookOf, Notes, both, no_notes, notes_in}
use Rattle.note_lines.specs.declared.fault.NotesFault.{NotesFault}
use Rattle.note_lines.specs.declared.fault.NotesFault.TheVariants as lines

not_both : {X E Y : Type 0} {x : X} {e : E} → Ok x ≡ Err e → Y
not_both h = cc

apart : {Y : Type 0} (n : Notes) (t : List ℕ) (path : List ℕ) (k : ℕ) → (let r : Result United BookRefusal = Ok (noted n t) in r) ≡ Ok (stray path k) → Y
apart n t path k h = cc

notes_of : Result United BookRefusal → Notes
notes_of (Ok (noted n t)) = n
notes_of (Ok (stray path k)) = no_notes
notes_of (Err e) = no_notes

told_in : Result United BookRefusal → List ℕ
told_in (Ok (noted n t)) = t
told_in (Ok (stray path k)) = []
told_in (Err e) = []

-- ---- one file, and those behind it

module _ (Next : Later) (passing : Bool) (n : Notes) (t : List ℕ) (r : Result United BookRefusal) (later : Next n t r) where
  same_noted : (m : Notes) (u : List ℕ) → IsLast m u (Ok (noted n t)) → Next m u r
  unfolding told_in notes_of
  same_noted m u is = subst (λ (x : Notes). Next x u r) (ap notes_of is) (subst (λ (l : List ℕ). Next n l r) (ap told_in is) later)

  behind_book : (all : Notes) (told : List ℕ) (o : Result Contents BookFileFault) → IsWithBook IsLast all told o (Ok (noted n t)) → IsWithBook Next all told o r
  behind_book all told (Err e) is = not_both is
  behind_book all told (Ok other) (inl none) = not_both none.1
  behind_book all told (Ok other) (inr more) = inr (more.0, more.1, same_noted (both all (notes_in other)) told more.2)

  behind_lines : (told : List ℕ) (path : List ℕ) (o : Result Taken NotesFault) → IsWithLines IsLast told path o (Ok (noted n t)) → IsWithLines Next told path o r
  behind_lines told path (Ok taken) is = same_noted taken.notes _ is
  behind_lines told path (Err (lines.Line k)) is = apart n t path k is
  behind_lines told path (Err lines.PageFull) is = not_both is
  behind_lines told path (Err lines.WantOfMemory) is = absurd is

  behind_bytes : (as_book : Bool) (all : Notes) (told : List ℕ) (path bytes : List ℕ) → IsWithBytes as_book IsLast passing all told path bytes (Ok (noted n t)) → IsWithBytes as_book Next passing all told path bytes r
  behind_bytes true all told path bytes is = behind_book all told (book_of bytes) is
  behind_bytes false all told path bytes is = (is.0, is.1, behind_lines told path is.0 is.2)

  behind_file : (all : Notes) (told : List ℕ) (path : List ℕ) (o : Result (List ℕ) Refusal) → IsWithFile IsLast passing all told path o (Ok (noted n t)) → IsWithFile Next passing all told path o r
  behind_file all told path (Err e) is = not_both is
  behind_file all told path (Ok bytes) is = behind_bytes (begins_book bytes) all told path bytes is

-- a file that is refused, or a line of it
module _ (Next : Later) (passing : Bool) (r : Result United BookRefusal) (last : (n : Notes) (t : List ℕ) → r ≡ Ok (noted n t) → ⊥) where
  stop_book : (all : Notes) (told : List ℕ) (o : Result Contents BookFileFault) → IsWithBook IsLast all told o r → IsWithBook Next all told o r
  stop_book all told (Err e) is = is
  stop_book all told (Ok other) (inl none) = inl none
  stop_book all told (Ok other) (inr more) = absurd (last (both all (notes_in other)) told more.2)

  stop_lines : (told : List ℕ) (path : List ℕ) (o : Result Taken NotesFault) → IsWithLines IsLast told path o r → IsWithLines Next told path o r
  stop_lines told path (Ok taken) is = absurd (last taken.notes _ is)
  stop_lines told path (Err (lines.Line k)) is = is
  stop_lines told path (Err lines.PageFull) is = is
  stop_lines told path (Err lines.WantOfMemory) is = absurd is

  stop_bytes : (as_book : Bool) (all : Notes) (told : List ℕ) (path bytes : List ℕ) → IsWithBytes as_book IsLast passing all told path bytes r → IsWithBytes as_book Next passing all told path bytes r
  stop_bytes true all told path bytes is = stop_book all told (book_of bytes) is
  stop_bytes false all told path bytes is = (is.0, is.1, stop_lines told path is.0 is.2)

  stop_file : (all : Notes) (told : List ℕ) (path : List ℕ) (o : Result (List ℕ) Refusal) → IsWithFile IsLast passing all told path o r → IsWithFile Next passing all told path o r
  stop_file all told path (Err e) is = is
  stop_file all told path (Ok bytes) is = stop_bytes (begins_book bytes) all told path bytes is

-- ---- along the paths

-- there is a book of no notes
no_book : IsBookOf no_notes []
unfolding IsStrictlySortedBy inputs_on
no_book = record { lawful = record { rising = tt; filled = tt }; held = λ page input. refl }

-- what the paths that are left come to behind what is noted so far, all come to
abbrev pub Goes : Holding → Bool → List (List ℕ) → List (List ℕ) → Gathered → Type 0
Goes at passing paths left g =
    (now : Notes) × IsBookOf now g.book × ((r : Result United BookRefusal) → IsUnited at passing left now (string_bytes g.told) r → IsUnited at passing paths no_notes [] r)

pub starts : (at : Holding) (passing : Bool) (paths : List (List ℕ)) (g : Gathered) → g.book ≡ [] → string_bytes g.told ≡ [] → Goes at passing paths paths g
starts at passing paths g none quiet = (
  no_notes,
  subst (IsBookOf no_notes) (sym none) no_book,
  λ r later. subst (λ (l : List ℕ). IsUnited at passing paths no_notes l r) quiet later,
)

module _ (at : Holding) (passing : Bool) (paths left rest : List (List ℕ)) (path : List ℕ) (g : Gathered) (goes : Goes at passing paths left g) (first : left ≡ path ∷ rest) where
  abbrev Behind : Result Step Refused → Type 0
  Behind r = (now : Notes) → IsBookOf now g.book → GivesUnited r (IsWithFile IsLast passing now (string_bytes g.told) path (notes_bytes_at at passing path))

  along : (r : Result United BookRefusal) → IsWithFile (IsUnited at passing rest) passing goes.0 (string_bytes g.told) path (notes_bytes_at at passing path) r → IsUnited at passing paths no_notes [] r
  unfolding IsUnited
  along r came = goes.2 r (subst (λ (ps : List (List ℕ)). IsUnited at passing ps goes.0 (string_bytes g.told) r) (sym first) came)

  pub goes_on : (s : Step) (next : Gathered) → s ≡ Noted next → Behind (Ok s) → Goes at passing paths rest next
  goes_on s next is gives =
      let came : GivesUnited (Ok (Noted next)) (IsWithFile IsLast passing goes.0 (string_bytes g.told) path (notes_bytes_at at passing path)) = subst (λ (x : Step). Behind (Ok x)) is gives goes.0 goes.1 in (
        came.0,
        came.1,
        λ r later. along r (behind_file (IsUnited at passing rest) passing came.0 (string_bytes next.told) r later goes.0 (string_bytes g.told) path (notes_bytes_at at passing path) came.2),
      )

  pub goes_stopped : (s : Step) (o : Outcome) → s ≡ Stopped o → Behind (Ok s) → GivesUnited (Ok (Stopped o)) (IsUnited at passing paths no_notes [])
  goes_stopped s o is gives =
      let came : GivesUnited (Ok (Stopped o)) (IsWithFile IsLast passing goes.0 (string_bytes g.told) path (notes_bytes_at at passing path)) = subst (λ (x : Step). Behind (Ok x)) is gives goes.0 goes.1 in
      let r : Result United BookRefusal = Ok (stray came.0 came.1) in (
        came.0,
        came.1,
        along r (stop_file (IsUnited at passing rest) passing r (λ n t is. apart n t came.0 came.1 (sym is)) goes.0 (string_bytes g.told) path (notes_bytes_at at passing path) came.2),
        came.3,
      )

  pub goes_refused : (e : Refused) → Behind (Err e) → GivesUnited (Err e) (IsUnited at passing paths no_notes [])
  goes_refused e gives = λ wanted.
      along (Err e.refusal) (stop_file (IsUnited at passing rest) passing (Err e.refusal) (λ n t is. not_both (sym is)) goes.0 (string_bytes g.told) path (notes_bytes_at at passing path) (gives goes.0 goes.1 wanted))

pub goes_all : (at : Holding) (passing : Bool) (paths left : List (List ℕ)) (g : Gathered) → Goes at passing paths left g → left ≡ [] → GivesUnited (Ok (Noted g)) (IsUnited at passing paths no_notes [])
unfolding IsUnited
goes_all at passing paths left g goes none =
    let told = string_bytes g.told in
    (goes.0, goes.1, goes.2 (Ok (noted goes.0 told)) (subst (λ (ps : List (List ℕ)). IsUnited at passing ps goes.0 told (Ok (noted goes.0 told))) (sym none) refl))

-- ---- the first that is refused

-- the notes of these files so far: what more files come to behind them, they come to behind these files
abbrev pub AreNoted : Holding → Bool → List (List ℕ) → Gathered → Type 0
AreNoted at passing before g =
    (now : Notes) × IsBookOf now g.book × ((more : List (List ℕ)) (r : Result United BookRefusal) → IsUnited at passing more now (string_bytes g.told) r → IsUnited at passing (before ++ more) no_notes [] r)

-- behind these files others are left, of which the first that is refused is the first of all, and all succeed where these do
abbrev pub Ahead : Holding → Bool → List (List ℕ) → List (List ℕ) → List (List ℕ) → Gathered → Type 0
Ahead at passing all before left g =
    AreNoted at passing before g × AreLeft (united_attempts at passing before left) (united_attempts at passing [] all)
    × (AllSucceed (united_attempts at passing before left) → AllSucceed (united_attempts at passing [] all))

pub none_before : (at : Holding) (passing : Bool) (paths : List (List ℕ)) (g : Gathered) → g.book ≡ [] → string_bytes g.told ≡ [] → Ahead at passing paths [] paths g
none_before at passing paths g none quiet =
    ((no_notes, subst (IsBookOf no_notes) (sym none) no_book, λ more r later. subst (λ (l : List ℕ). IsUnited at passing more no_notes l r) quiet later), (λ e remark names. names), λ succeed. succeed)

module _ (at : Holding) (passing : Bool) (all before left rest : List (List ℕ)) (path : List ℕ) (g : Gathered) (ahead : Ahead at passing all before left g) (first : left ≡ path ∷ rest) where
  abbrev Here : Attempt BookRefusal
  Here = attempt (file path) (IsUnited at passing (before ++ path ∷ []) no_notes [])

  abbrev OnFile : Result Step Refused → Type 0
  OnFile r = (now : Notes) → IsBookOf now g.book → GivesUnited r (IsWithFile IsLast passing now (string_bytes g.told) path (notes_bytes_at at passing path))

  with_more : (more : List (List ℕ)) (r : Result United BookRefusal) → IsWithFile (IsUnited at passing more) passing ahead.0.0 (string_bytes g.told) path (notes_bytes_at at passing path) r
      → IsUnited at passing (before ++ path ∷ more) no_notes [] r
  unfolding IsUnited
  with_more more r came = ahead.0.2 (path ∷ more) r came

  named_left : AreLeft (Here ∷ united_attempts at passing (before ++ path ∷ []) rest) (united_attempts at passing [] all)
  named_left e remark names = ahead.1 e remark (subst (λ (ps : List (List ℕ)). NamesFirst (united_attempts at passing before ps) e remark) (sym first) names)

  pub noted_on : (s : Step) (next : Gathered) → s ≡ Noted next → OnFile (Ok s) → AreNoted at passing (before ++ path ∷ []) next
  noted_on s next is gives =
      let came : GivesUnited (Ok (Noted next)) (IsWithFile IsLast passing ahead.0.0 (string_bytes g.told) path (notes_bytes_at at passing path)) = subst (λ (x : Step). OnFile (Ok x)) is gives ahead.0.0 ahead.0.1 in (
        came.0,
        came.1,
        λ more r later.
            subst (λ (ps : List (List ℕ)). IsUnited at passing ps no_notes [] r) (sym (append_assoc before (path ∷ []) more))
            (with_more more r (behind_file (IsUnited at passing more) passing came.0 (string_bytes next.told) r later ahead.0.0 (string_bytes g.told) path (notes_bytes_at at passing path) came.2)),
      )

  last_noted : (next : Gathered) → AreNoted at passing (before ++ path ∷ []) next → Here.Succeeds
  unfolding IsUnited
  last_noted next are =
      let r : Result United BookRefusal = Ok (noted are.0 (string_bytes next.told)) in
      (noted are.0 (string_bytes next.told), subst (λ (ps : List (List ℕ)). IsUnited at passing ps no_notes [] r) (append-nil (before ++ path ∷ [])) (are.2 [] r refl))

  pub ahead_on : (s : Step) (next : Gathered) → s ≡ Noted next → OnFile (Ok s) → Ahead at passing all (before ++ path ∷ []) rest next
  ahead_on s next is gives =
      let are = noted_on s next is gives in
      let succeeds = last_noted next are in (
        are,
        left_after Here (united_attempts at passing (before ++ path ∷ []) rest) (united_attempts at passing [] all) named_left succeeds,
        λ succeed. ahead.2 (subst (λ (ps : List (List ℕ)). AllSucceed (united_attempts at passing before ps)) (sym first) (succeeds, succeed)),
      )

  pub ahead_refused : (e : Refused) → OnFile (Err e) → (is_want e.refusal ≡ false → Says (NamesSubject (file path)) e.remark) → is_want e.refusal ≡ false → NamesFirst (united_attempts at passing [] all) e.refusal e.remark
  ahead_refused e gives says wanted =
      first_of_left Here (united_attempts at passing (before ++ path ∷ []) rest) (united_attempts at passing [] all) named_left e.refusal e.remark
      (with_more [] (Err e.refusal) (stop_file (IsUnited at passing []) passing (Err e.refusal) (λ n t is. not_both (sym is)) ahead.0.0 (string_bytes g.told) path (notes_bytes_at at passing path) (gives ahead.0.0 ahead.0.1 wanted)))
      (says wanted)

pub all_ahead : (at : Holding) (passing : Bool) (all before left : List (List ℕ)) (g : Gathered) → Ahead at passing all before left g → left ≡ [] → AllSucceed (united_attempts at passing [] all)
all_ahead at passing all before left g ahead none = ahead.2 (subst (λ (ps : List (List ℕ)). AllSucceed (united_attempts at passing before ps)) (sym none) tt)

-- the first of those that are left, and those behind it
pub first_left : {X : Type 0} (now : X → List ℕ) (xs : List X) (i : ℕ) (z : X) → i < length xs → map now (drop i xs) ≡ now (get_or xs i z) ∷ map now (drop (i + 1) xs)
first_left now xs i z inside =
    let left : drop i xs ≡ get_or xs i z ∷ drop (i + 1) xs = rw add-one (drop-cons xs i z inside) in
    ap (map now) left

-- those before the next one
pub before_next : {X : Type 0} (now : X → List ℕ) (xs : List X) (i : ℕ) (z : X) → i < length xs → map now (take (i + 1) xs) ≡ map now (take i xs) ++ now (get_or xs i z) ∷ []
before_next now xs i z inside = ap (map now) (take_more xs i z inside) ∙ map-append now (take i xs) (get_or xs i z ∷ [])

-- ---- what follows for files whose bytes are known

pub where_known : {A : Type 0} (h : Option A) (P Q : A → Type 0) → ((a : A) → P a → Q a) → IfSome h P → IfSome h Q
where_known None P Q f p = tt
where_known (Some a) P Q f p = f a p

pub everywhere : {A : Type 0} (h : Option A) (P : A → Type 0) → ((a : A) → P a) → IfSome h P
everywhere None P f = tt
everywhere (Some a) P f = f a

-- the same of two facts, where the files stay
pub both_known : {A : Type 0} (h k : Option A) (P S : A → Type 0) → k ≡ h → IfSome h P → {Q : A → Type 0} → IfSome k Q → ((a : A) → P a → Q a → S a) → IfSome h S
both_known {A} h k P S same p {Q} q f = go h p (subst (λ (o : Option A). IfSome o Q) same q)
  where
    go : (o : Option A) → IfSome o P → IfSome o Q → IfSome o S
    go None p q = tt
    go (Some a) p q = f a p q
