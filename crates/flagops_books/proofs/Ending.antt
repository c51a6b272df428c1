-- What the command comes to, and what a person is told of it.
use Rattle.flagops_files.specs.declared.refusal.Refusal.{Refusal}
use Rattle.std.proofs.Common.{◌≡◌, ◌∙◌, ℕ, suc, false, List, [], ◌∷◌, Option, Some, None, IfSome, IfOk, IfErr, length, map, inl, inr, refl, ap, sym, subst, string_bytes}
use Rattle.std.specs.Prelude.{Result, Ok, Err, IsOk}
use Rattle.book_core.specs.Book.{input_count}
use Rattle.book_core.specs.Printing.{book_text}
use Rattle.flagops_books.specs.Attempts.{book_attempts, read_attempts, stored_attempts, united_attempts}
use Rattle.flagops_books.specs.Calls.{book_calls}
use Rattle.flagops_books.specs.Report.{IsBookReport, IsStored, IsUnitedFor, IsUnitedWhere, LeavesUnited, TellsUnited, counts_text, remark_of, replaces_at}
use Rattle.flagops_books.specs.Step.{GivesUnited, HaveSucceeded}
use Rattle.flagops_books.specs.Told.{NamesFile, is_told}
use Rattle.flagops_books.specs.Union.{IsUnited, United, noted, stray}
use Rattle.flagops_books.specs.Words.{Uniting}
use Rattle.flagops_books.specs.declared.uniting.Gathered.{Gathered}
use Rattle.flagops_books.specs.declared.uniting.Step.{Step}
use Rattle.flagops_books.specs.declared.uniting.Step.TheVariants.{Noted, Stopped}
use Rattle.flagops_files.proofs.Told.{first_left, first_right}
use Rattle.flagops_files.specs.Question.{replaceable_at}
use Rattle.flagops_files.specs.Told.{AllSucceed, NamesFirst, NamesSubject, file}
use Rattle.flagops_books.specs.Refusal.{ComesFrom, GivesOne, Refused, call_name, call_of, is_want, TellsOf, TellsOfFirst}
use Rattle.flagops_shell.specs.Outcomes.{IsCallOf, refused_by}
use Rattle.flagops_books.specs.declared.refusal.BookRefusal.TheVariants.{Load}
use Rattle.flagops_books.specs.declared.refusal.BookRefusal.{BookRefusal}
use Rattle.flagops_shell.specs.Diagnostic.{Says, remark_text}
use Rattle.flagops_shell.specs.Ending.{Remarks}
use Rattle.flagops_shell.specs.Files.{Holding, KeepsOthers}
use Rattle.flagops_shell.specs.Report.{Report, outcome_view}
use Rattle.flagops_shell.specs.declared.outcome.Outcome.{Outcome}
use Rattle.flagops_shell.specs.declared.refused.Remark.{Remark}
use Rattle.flagops_shell.specs.declared.refused.Remark.TheVariants.{Lines}
use Rattle.note_lines.specs.Notes.{Notes, no_notes}
use Rattle.flagops_books.proofs.Following.{both_known, where_known}

-- ---- what the files come to

counted : {X : Type 0} (now : X → List ℕ) (xs : List X) → length (map now xs) ≡ length xs
counted now [] = refl
counted now (x ∷ xs) = ap suc (counted now xs)

-- what may not become a book
not_there : (u : Uniting) (at : Holding) (o : Result (Unit {0}) Refusal) (e : BookRefusal) → refused_by Load o ≡ Err e → IsUnitedWhere o at u (Err e)
not_there u at (Err f) e is = let same : e ≡ Load f = cc in ap Err same
not_there u at (Ok free) e is = cc

there : (o : Result (Unit {0}) Refusal) (free : Unit {0}) → (let r : Result (Unit {0}) BookRefusal = refused_by Load o in r) ≡ Ok free → o ≡ Ok free
there (Ok x) free is = cc
there (Err e) free is = cc

pub not_free : (u : Uniting) (h : Option Holding) (e : Refused) → IfSome h (λ at. is_want e.refusal ≡ false → refused_by Load (replaceable_at at u.out) ≡ Err e.refusal) → IfSome h (λ at. GivesUnited (Err e) (IsUnitedFor u at))
unfolding IsUnitedFor
not_free u None e is = tt
not_free u (Some at) e is = λ wanted. not_there u at (replaceable_at at u.out) e.refusal (is wanted)

-- what may
pub for_free : (u : Uniting) (h : Option Holding) (free : Unit {0}) (r : Result Step Refused) → IfSome h (λ at. (let r : Result (Unit {0}) BookRefusal = refused_by Load (replaceable_at at u.out) in r) ≡ Ok free) → IfSome h (λ at. GivesUnited r (IsUnited at u.torn u.files no_notes []))
    → IfSome h (λ at. GivesUnited r (IsUnitedFor u at))
unfolding IsUnitedFor
for_free u None free r is came = tt
for_free u (Some at) free r is came = subst (λ (o : Result (Unit {0}) Refusal). GivesUnited r (λ x. IsUnitedWhere o at u x)) (sym (there (replaceable_at at u.out) free is)) came

not_noted : {X : Type 0} (all : Notes) (told : List ℕ) (e : BookRefusal) → (let r : Result United BookRefusal = Ok (noted all told) in r) ≡ Err e → X
not_noted all told e is = cc

where_free : (u : Uniting) (at : Holding) (all : Notes) (told : List ℕ) → IsUnitedFor u at (Ok (noted all told)) → IsOk (replaceable_at at u.out) × IsUnited at u.torn u.files no_notes [] (Ok (noted all told))
unfolding IsUnitedFor
where_free u at all told came = go (replaceable_at at u.out) came
  where
    go : (o : Result (Unit {0}) Refusal) → IsUnitedWhere o at u (Ok (noted all told)) → IsOk o × IsUnited at u.torn u.files no_notes [] (Ok (noted all told))
    go (Ok free) came = (refl, came)
    go (Err e) came = not_noted all told (Load e) came

module _ (u : Uniting) where
  pub no_union : (old after : Option Holding) (e : Refused) → after ≡ old → IfSome old (λ at. GivesUnited (Err e) (IsUnitedFor u at)) → IfSome old (λ at. is_want e.refusal ≡ false → IsBookReport at after u (Err e.refusal))
  unfolding IsBookReport
  no_union None after e same is = tt
  no_union (Some at) after e same is = λ wanted. (Err e.refusal, is wanted, (refl, same))

  pub stray_reported : (old after : Option Holding) (o : Outcome) → after ≡ old → IfSome old (λ at. GivesUnited (Ok (Stopped o)) (IsUnitedFor u at)) → IfSome old (λ at. IsBookReport at after u (Ok (outcome_view o)))
  unfolding IsBookReport
  stray_reported None after o same is = tt
  stray_reported (Some at) after o same is = (Ok (stray is.0 is.1), is.2, (ap Ok is.3.0, same))

  module _ (g : Gathered) (n : ℕ) (many : length u.files ≡ n) where
    abbrev Stores : Option Holding → Result Report BookRefusal → Holding → Type 0
    Stores after r at = IsStored (replaces_at at u.out u.replace g.book) at after u.out (book_text g.book) (counts_text (input_count g.book) n) (is_told (string_bytes g.told)) r

    reported_at : (at : Holding) (after : Option Holding) (r : Result Report BookRefusal) → GivesUnited (Ok (Noted g)) (IsUnitedFor u at) → Stores after r at → IsBookReport at after u r
    unfolding IsBookReport
    reported_at at after r is stores =
        let told = string_bytes g.told in
        (Ok (noted is.0 told), is.2, (g.book, is.1, subst (λ (k : ℕ). IsStored (replaces_at at u.out u.replace g.book) at after u.out (book_text g.book) (counts_text (input_count g.book) k) (is_told told) r) (sym many) stores))

    pub stored_reported : (old mid after : Option Holding) (r : Result Outcome Refused) → mid ≡ old → IfSome old (λ at. GivesUnited (Ok (Noted g)) (IsUnitedFor u at))
        → IfSome mid (λ at. GivesOne outcome_view r (λ x. Stores after x at)) → IfSome old (λ at. GivesOne outcome_view r (IsBookReport at after u))
    stored_reported old mid after r same is stores = both_known old mid (λ at. GivesUnited (Ok (Noted g)) (IsUnitedFor u at)) (λ at. GivesOne outcome_view r (IsBookReport at after u)) same is stores (λ at. go at r)
      where
        go : (at : Holding) (r : Result Outcome Refused) → GivesUnited (Ok (Noted g)) (IsUnitedFor u at) → GivesOne outcome_view r (λ x. Stores after x at) → GivesOne outcome_view r (IsBookReport at after u)
        go at (Ok o) is stores = reported_at at after (Ok (outcome_view o)) is stores
        go at (Err e) is stores = λ wanted. reported_at at after (Err e.refusal) is (stores wanted)

  pub left : (old mid after : Option Holding) (g : Gathered) → mid ≡ old → IfSome old (λ at. GivesUnited (Ok (Noted g)) (IsUnitedFor u at)) → KeepsOthers mid after u.out → LeavesUnited old after u
  left old mid after g same is kept = inr (
    where_known old (λ at. GivesUnited (Ok (Noted g)) (IsUnitedFor u at)) (λ at. IsOk (replaceable_at at u.out) × (all : Notes) × (told : List ℕ) × IsUnited at u.torn u.files no_notes [] (Ok (noted all told)))
        (λ at came. let both = where_free u at came.0 (string_bytes g.told) came.2 in (both.0, came.0, string_bytes g.told, both.1)) is,
    subst (λ (h : Option Holding). KeepsOthers h after u.out) same kept,
  )

-- as many paths as words
pub as_many : {X : Type 0} (now : X → List ℕ) (xs : List X) (n : ℕ) → n ≡ length xs → length (map now xs) ≡ n
as_many now xs n is = counted now xs ∙ sym is

-- ---- the first that is refused

module _ (u : Uniting) (old : Option Holding) where
  -- the file that is written, before one is read
  pub out_first : (e : Refused) → IfSome old (λ at. is_want e.refusal ≡ false → refused_by Load (replaceable_at at u.out) ≡ Err e.refusal) → (is_want e.refusal ≡ false → Says (NamesSubject (file u.out)) e.remark)
      → IfSome old (λ at. TellsOfFirst (read_attempts at u) (let r : Result Step Refused = Err e in r))
  out_first e is says = go old is
    where
      go : (h : Option Holding) → IfSome h (λ at. is_want e.refusal ≡ false → refused_by Load (replaceable_at at u.out) ≡ Err e.refusal) → IfSome h (λ at. is_want e.refusal ≡ false → NamesFirst (read_attempts at u) e.refusal e.remark)
      go None is = tt
      go (Some at) is = λ wanted. inl (is wanted, says wanted)

  -- a file that is read behind it
  pub file_first : (free : Unit {0}) (r : Result Step Refused) → IfSome old (λ at. (let x : Result (Unit {0}) BookRefusal = refused_by Load (replaceable_at at u.out) in x) ≡ Ok free) → IfSome old (λ at. TellsOfFirst (united_attempts at u.torn [] u.files) r)
      → IfSome old (λ at. TellsOfFirst (read_attempts at u) r)
  file_first free r is names = go old r is names
    where
      go : (h : Option Holding) (x : Result Step Refused) → IfSome h (λ at. (let y : Result (Unit {0}) BookRefusal = refused_by Load (replaceable_at at u.out) in y) ≡ Ok free) → IfSome h (λ at. TellsOfFirst (united_attempts at u.torn [] u.files) x)
          → IfSome h (λ at. TellsOfFirst (read_attempts at u) x)
      go None x is names = tt
      go (Some at) (Ok s) is names = tt
      go (Some at) (Err e) is names = λ wanted. inr ((free, is), names wanted)

  pub file_succeeds : (free : Unit {0}) (r : Result Step Refused) → IfSome old (λ at. (let x : Result (Unit {0}) BookRefusal = refused_by Load (replaceable_at at u.out) in x) ≡ Ok free) → IfSome old (λ at. HaveSucceeded (united_attempts at u.torn [] u.files) r)
      → IfSome old (λ at. HaveSucceeded (read_attempts at u) r)
  file_succeeds free r is succeed = go old r is succeed
    where
      go : (h : Option Holding) (x : Result Step Refused) → IfSome h (λ at. (let y : Result (Unit {0}) BookRefusal = refused_by Load (replaceable_at at u.out) in y) ≡ Ok free) → IfSome h (λ at. HaveSucceeded (united_attempts at u.torn [] u.files) x)
          → IfSome h (λ at. HaveSucceeded (read_attempts at u) x)
      go None x is succeed = tt
      go (Some at) (Ok (Noted g)) is succeed = ((free, is), succeed)
      go (Some at) (Ok (Stopped o)) is succeed = tt
      go (Some at) (Err e) is succeed = tt

  -- what is read is refused before what is written
  pub read_first : (e : Refused) → IfSome old (λ at. is_want e.refusal ≡ false → NamesFirst (read_attempts at u) e.refusal e.remark) → IfSome old (λ at. is_want e.refusal ≡ false → NamesFirst (book_attempts at u) e.refusal e.remark)
  read_first e names = go old names
    where
      go : (h : Option Holding) → IfSome h (λ at. is_want e.refusal ≡ false → NamesFirst (read_attempts at u) e.refusal e.remark) → IfSome h (λ at. is_want e.refusal ≡ false → NamesFirst (book_attempts at u) e.refusal e.remark)
      go None names = tt
      go (Some at) names = λ wanted. first_left (read_attempts at u) (stored_attempts u.out) e.refusal e.remark (names wanted)

  pub written_last : (g : Gathered) (r : Result Outcome Refused) → IfSome old (λ at. HaveSucceeded (read_attempts at u) (Ok (Noted g))) → ComesFrom book_calls r → TellsOf (file u.out) r → IfSome old (λ at. TellsOfFirst (book_attempts at u) r)
  written_last g r succeed comes tells = go old r succeed comes tells
    where
      go : (h : Option Holding) (x : Result Outcome Refused) → IfSome h (λ at. HaveSucceeded (read_attempts at u) (Ok (Noted g))) → ComesFrom book_calls x → TellsOf (file u.out) x → IfSome h (λ at. TellsOfFirst (book_attempts at u) x)
      go None x succeed comes tells = tt
      go (Some at) (Ok o) succeed comes tells = tt
      go (Some at) (Err e) succeed comes tells = λ wanted. first_right (read_attempts at u) (stored_attempts u.out) e.refusal e.remark succeed (inl (comes, tells wanted))

-- ---- what is told of it

module _ (u : Uniting) where
  -- of lines that were passed over
  noted_at : (at : Holding) (g : Gathered) (m : Option Remark) → GivesUnited (Ok (Noted g)) (IsUnitedFor u at) → IfSome m (λ r. r ≡ Lines g.told) → IfSome m (TellsUnited u at)
  noted_at at g None came is = tt
  noted_at at g (Some remark) came is = (Ok (noted came.0 (string_bytes g.told)), came.2, ap remark_text is)

  pub told_noted : (old : Option Holding) (g : Gathered) (r : Result Outcome Refused) → IfSome old (λ at. GivesUnited (Ok (Noted g)) (IsUnitedFor u at)) → IfOk r (λ o. IfSome o.remark (λ m. m ≡ Lines g.told))
      → IfOk r (λ o. IfSome old (λ at. IfSome o.remark (TellsUnited u at)))
  told_noted old g (Err e) came is = tt
  told_noted None g (Ok o) came is = tt
  told_noted (Some at) g (Ok o) came is = noted_at at g o.remark came is

  -- of a line that is refused
  stopped_at : (at : Holding) (path : List ℕ) (n : ℕ) (m : Option Remark) → IsUnitedFor u at (Ok (stray path n)) → IfSome m (Says (NamesFile path)) → IfSome m (TellsUnited u at)
  stopped_at at path n None came says = tt
  stopped_at at path n (Some remark) came says = (Ok (stray path n), came, says)

  pub told_stopped : (old : Option Holding) (o : Outcome) → IfSome old (λ at. GivesUnited (Ok (Stopped o)) (IsUnitedFor u at)) → IfSome old (λ at. IfSome o.remark (TellsUnited u at))
  told_stopped None o came = tt
  told_stopped (Some at) o came = stopped_at at came.0 came.1 o.remark came.2 came.3.1

-- ---- what the command shows of it

-- of a report what is told of the files, and of a refusal the name of the first that is refused
pub remarks : (files : Option Holding) (u : Uniting) (r : Result Outcome Refused) → IfSome files (λ at. TellsOfFirst (book_attempts at u) r) → IfOk r (λ o. IfSome files (λ at. IfSome o.remark (TellsUnited u at)))
    → IfSome files (λ at. Remarks is_want (remark_of u at) r)
remarks None u r names notes = tt
remarks (Some at) u (Ok o) names notes = λ remark is. subst (λ (m : Option Remark). IfSome m (TellsUnited u at)) is notes
remarks (Some at) u (Err e) names notes = names

-- a call of the command ran out of memory
pub wants : (r : Result Outcome Refused) → ComesFrom book_calls r → IfErr r (λ e. IsCallOf call_name book_calls (call_name (call_of e.refusal)))
wants (Ok o) comes = tt
wants (Err e) comes = (call_of e.refusal, comes, refl)
