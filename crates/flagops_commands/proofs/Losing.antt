-- A new book that is written where nothing of the old one is lost.
use Rattle.std.proofs.Common.{◌≡◌, ◌==◌, ◌||◌, ℕ, Bool, List, [], ◌∷◌, Option, Some, None, true, false, IfSome, ap, inr, refl, subst, sym, ◌∙◌}
use Rattle.std.proofs.lemmas.Bool.{eqb-true}
use Rattle.std.specs.Prelude.{Result, Ok, Err, if◌then◌else◌}
use Rattle.book_core.specs.Book.{Contents}
use Rattle.book_core.specs.Reading.{book_of}
use Rattle.flagops_files.specs.Losses.{losses_at}
use Rattle.flagops_drive.specs.Driven.{DriveOutput}
use Rattle.flagops_commands.specs.Drive.{IsSaved, IsWritten, replaces_at, unless_lost}
use Rattle.flagops_commands.specs.Calls.{checks_losses, drive_calls, writes_book}
use Rattle.flagops_commands.specs.Refusal.{ComesFrom, GivesOne, Refused, TellsOfOne, by, call_of, is_want, loads_book, stores_file}
use Rattle.flagops_commands.specs.Subjects.{is_of_losing, written_subjects}
use Rattle.flagops_commands.specs.declared.refusal.ListedCall.{ListedCall}
use Rattle.flagops_commands.specs.declared.refusal.ListedCall.TheVariants as call
use Rattle.flagops_files.proofs.Told.{told_left}
use Rattle.flagops_files.specs.Told.{file as file_of}
use Rattle.flagops_files.specs.declared.refusal.Call.TheVariants as file
use Rattle.flagops_commands.specs.declared.refusal.ListedRefusal.{ListedRefusal}
use Rattle.flagops_commands.specs.declared.refusal.ListedRefusal.TheVariants.{Load, WouldLose}
use Rattle.flagops_shell.specs.Files.{Holding}
use Rattle.flagops_shell.specs.Outcomes.{◌>>=◌, refused_by}
use Rattle.flagops_shell.specs.Report.{Report, outcome_view}
use Rattle.flagops_shell.specs.declared.outcome.Outcome.{Outcome}

-- ---- whether a book may be written

module _ (old : Option Holding) (book : List ℕ) (new : Contents) where
  abbrev Lost : Holding → Result ℕ ListedRefusal
  Lost at = refused_by Load (losses_at at book new)

  pub free : (lossy : Bool) → lossy ≡ true → IfSome old (λ at. replaces_at at book lossy new ≡ Ok tt)
  unfolding replaces_at
  free lossy is = go old
    where
      go : (h : Option Holding) → IfSome h (λ at. replaces_at at book lossy new ≡ Ok tt)
      go None = tt
      go (Some at) = rw is refl

  held : (at : Holding) (lossy : Bool) → lossy ≡ false → replaces_at at book lossy new ≡ (Lost at >>= unless_lost)
  unfolding replaces_at
  held at lossy is = rw is refl

  otherwise : (b : Bool) (lost : ℕ) → b ≡ false → (let r : Result (Unit {0}) ListedRefusal = if b then Ok tt else Err (WouldLose lost) in r) ≡ Err (WouldLose lost)
  otherwise true lost is = cc
  otherwise false lost is = refl

  apart : (b : Bool) (lost : ℕ) → (lost == 0) ≡ b → (lost ≡ 0 → ⊥) → b ≡ false
  apart true lost is some = absurd (some (eqb-true lost 0 is))
  apart false lost is some = refl

  module _ (lossy : Bool) (keeps : lossy ≡ false) where
    pub none_lost : (lost : ℕ) → IfSome old (λ at. Lost at ≡ Ok lost) → lost ≡ 0 → IfSome old (λ at. replaces_at at book lossy new ≡ Ok tt)
    none_lost lost is none = go old is
      where
        go : (h : Option Holding) → IfSome h (λ at. Lost at ≡ Ok lost) → IfSome h (λ at. replaces_at at book lossy new ≡ Ok tt)
        go None is = tt
        go (Some at) is = held at lossy keeps ∙ ap (λ (r : Result ℕ ListedRefusal). r >>= unless_lost) is ∙ ap unless_lost none

    pub some_lost : (lost : ℕ) (e : Refused) → IfSome old (λ at. Lost at ≡ Ok lost) → (lost ≡ 0 → ⊥) → e.refusal ≡ WouldLose lost → IfSome old (λ at. is_want e.refusal ≡ false → replaces_at at book lossy new ≡ Err e.refusal)
    some_lost lost e is some refused = go old is
      where
        go : (h : Option Holding) → IfSome h (λ at. Lost at ≡ Ok lost) → IfSome h (λ at. is_want e.refusal ≡ false → replaces_at at book lossy new ≡ Err e.refusal)
        go None is = tt
        go (Some at) is = λ wanted.
            held at lossy keeps ∙ ap (λ (r : Result ℕ ListedRefusal). r >>= unless_lost) is ∙ otherwise (lost == 0) lost (apart (lost == 0) lost refl some) ∙ ap Err (sym refused)

    pub unknown : (e : Refused) → IfSome old (λ at. is_want e.refusal ≡ false → Lost at ≡ Err e.refusal) → IfSome old (λ at. is_want e.refusal ≡ false → replaces_at at book lossy new ≡ Err e.refusal)
    unknown e is = go old is
      where
        go : (h : Option Holding) → IfSome h (λ at. is_want e.refusal ≡ false → Lost at ≡ Err e.refusal) → IfSome h (λ at. is_want e.refusal ≡ false → replaces_at at book lossy new ≡ Err e.refusal)
        go None is = tt
        go (Some at) is = λ wanted. held at lossy keeps ∙ ap (λ (r : Result ℕ ListedRefusal). r >>= unless_lost) (is wanted)

-- ---- whether it was

module _ (old after : Option Holding) (book : List ℕ) (lossy : Bool) (new : Contents) (d : DriveOutput) (reads : book_of d.book ≡ Ok new) where
  -- it may not be
  pub not_written : (e : Refused) → after ≡ old → IfSome old (λ at. is_want e.refusal ≡ false → replaces_at at book lossy new ≡ Err e.refusal)
      → IfSome old (λ at. is_want e.refusal ≡ false → IsWritten at after book lossy (Ok d) (Err e.refusal))
  not_written e same refused = go old same refused
    where
      go : (h : Option Holding) → after ≡ h → IfSome h (λ at. is_want e.refusal ≡ false → replaces_at at book lossy new ≡ Err e.refusal) → IfSome h (λ at. is_want e.refusal ≡ false → IsWritten at after book lossy (Ok d) (Err e.refusal))
      go None same refused = tt
      go (Some at) same refused = λ wanted.
          (new, reads, subst (λ (free : Result (Unit {0}) ListedRefusal). IsSaved free at after book d (Err e.refusal)) (sym (refused wanted)) (refl, same))

  -- it may
  pub written_so : (mid : Option Holding) (r : Result Outcome Refused) → mid ≡ old → IfSome old (λ at. replaces_at at book lossy new ≡ Ok tt) → IfSome mid (λ at. GivesOne outcome_view r (IsSaved (Ok tt) at after book d))
      → IfSome old (λ at. GivesOne outcome_view r (IsWritten at after book lossy (Ok d)))
  written_so mid r same may saved = go old r may (subst (λ (h : Option Holding). IfSome h (λ at. GivesOne outcome_view r (IsSaved (Ok tt) at after book d))) same saved)
    where
      come : (at : Holding) (x : Result Report ListedRefusal) → replaces_at at book lossy new ≡ Ok tt → IsSaved (Ok tt) at after book d x → IsWritten at after book lossy (Ok d) x
      come at x may saved = (new, reads, subst (λ (free : Result (Unit {0}) ListedRefusal). IsSaved free at after book d x) (sym may) saved)

      go : (h : Option Holding) (s : Result Outcome Refused) → IfSome h (λ at. replaces_at at book lossy new ≡ Ok tt) → IfSome h (λ at. GivesOne outcome_view s (IsSaved (Ok tt) at after book d))
          → IfSome h (λ at. GivesOne outcome_view s (IsWritten at after book lossy (Ok d)))
      go None s may saved = tt
      go (Some at) (Ok o) may saved = come at (Ok (outcome_view o)) may saved
      go (Some at) (Err e) may saved = λ wanted. come at (Err e.refusal) may (saved wanted)

-- ---- what refuses, and of which a person is told

pub checks : (c : ListedCall) → loads_book c ≡ true → checks_losses c ≡ true
checks (call.Load c) is = is
checks (call.Rollout c) is = cc
checks call.Flagops is = cc
checks call.Bucket is = cc
checks call.ReadRequest is = cc
checks call.Note is = cc
checks call.Price is = cc
checks call.Resolve is = cc
checks call.Drive is = refl

pub loses : (lost : ℕ) (e : ListedRefusal) → e ≡ WouldLose lost → checks_losses (call_of e) ≡ true
loses lost e is = ap (λ (r : ListedRefusal). checks_losses (call_of r)) is

pub writes : (c : ListedCall) → checks_losses c ≡ true → writes_book c ≡ true
writes (call.Load file.Store) is = refl
writes (call.Load file.Load) is = is
writes (call.Load file.ReadTree) is = is
writes (call.Load file.ReadRule) is = is
writes (call.Load file.ReadFlags) is = is
writes (call.Load file.ReadBook) is = is
writes (call.Load file.ReadTally) is = is
writes (call.Load file.ReadPlanned) is = is
writes (call.Rollout c) is = cc
writes call.Flagops is = cc
writes call.Bucket is = cc
writes call.ReadRequest is = cc
writes call.Note is = cc
writes call.Price is = cc
writes call.Resolve is = cc
writes call.Drive is = refl

pub stores : (c : ListedCall) → stores_file c ≡ true → writes_book c ≡ true
stores (call.Load file.Store) is = refl
stores (call.Load file.Load) is = cc
stores (call.Load file.ReadTree) is = cc
stores (call.Load file.ReadRule) is = cc
stores (call.Load file.ReadFlags) is = cc
stores (call.Load file.ReadBook) is = cc
stores (call.Load file.ReadTally) is = cc
stores (call.Load file.ReadPlanned) is = cc
stores (call.Rollout c) is = cc
stores call.Flagops is = cc
stores call.Bucket is = cc
stores call.ReadRequest is = cc
stores call.Note is = cc
stores call.Price is = cc
stores call.Resolve is = cc
stores call.Drive is = cc

drives : (c : ListedCall) → writes_book c ≡ true → drive_calls c ≡ true
drives (call.Load file.Store) is = refl
drives (call.Load file.Load) is = refl
drives (call.Load file.ReadTree) is = refl
drives (call.Load file.ReadRule) is = cc
drives (call.Load file.ReadFlags) is = refl
drives (call.Load file.ReadBook) is = refl
drives (call.Load file.ReadTally) is = cc
drives (call.Load file.ReadPlanned) is = cc
drives (call.Rollout c) is = cc
drives call.Flagops is = cc
drives call.Bucket is = cc
drives call.ReadRequest is = cc
drives call.Note is = cc
drives call.Price is = cc
drives call.Resolve is = cc
drives call.Drive is = refl

pub stored_by : (r : Result Outcome Refused) → ComesFrom stores_file r → ComesFrom writes_book r
stored_by (Ok o) comes = tt
stored_by (Err e) comes = stores (call_of e.refusal) comes

pub driven_by : (r : Result Outcome Refused) → ComesFrom writes_book r → ComesFrom drive_calls r
driven_by (Ok o) comes = tt
driven_by (Err e) comes = drives (call_of e.refusal) comes

-- no file failed before the last step
pub failed_after : (start mid last fault : Bool) → mid ≡ (start || false) → last ≡ (mid || fault) → last ≡ (start || fault)
failed_after true mid last fault first second = second ∙ ap (λ (b : Bool). b || fault) first
failed_after false mid last fault first second = second ∙ ap (λ (b : Bool). b || fault) first

pub told_stored : (book : List ℕ) (r : Result Outcome Refused) → TellsOfOne ((file_of book, by stores_file) ∷ []) r → TellsOfOne (written_subjects book) r
told_stored book (Ok o) tells = tt
told_stored book (Err e) tells = λ wanted. inr (told_left ((file_of book, by stores_file) ∷ []) ((file_of book, is_of_losing) ∷ []) e.refusal e.remark (tells wanted))
