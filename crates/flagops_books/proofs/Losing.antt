-- A new book that is written where nothing of the old one is lost.
use Rattle.std.proofs.Common.{◌≡◌, ◌==◌, ◌||◌, ℕ, Bool, List, Option, Some, None, true, false, IfSome, ap, refl, subst, sym, ◌∙◌}
use Rattle.std.proofs.lemmas.Bool.{eqb-true}
use Rattle.std.specs.Prelude.{Result, Ok, Err, if◌then◌else◌}
use Rattle.book_core.specs.Book.{Contents}
use Rattle.flagops_files.specs.Losses.{losses_at}
use Rattle.flagops_books.specs.Report.{IsStored, replaces_at, unless_lost}
use Rattle.flagops_books.specs.Calls.{book_calls, checks_losses, saves_book}
use Rattle.flagops_books.specs.Refusal.{ComesFrom, GivesOne, Refused, call_of, is_want, loads_book}
use Rattle.flagops_books.specs.declared.refusal.BookCall.{BookCall}
use Rattle.flagops_books.specs.declared.refusal.BookCall.TheVariants as call
use Rattle.flagops_files.specs.declared.refusal.Call.TheVariants as file
use Rattle.flagops_books.specs.declared.refusal.BookRefusal.{BookRefusal}
use Rattle.flagops_books.specs.declared.refusal.BookRefusal.TheVariants.{Load, WouldLose}
use Rattle.flagops_shell.specs.Files.{Holding}
use Rattle.flagops_shell.specs.Outcomes.{◌>>=◌, refused_by}
use Rattle.flagops_shell.specs.Report.{outcome_view}
use Rattle.flagops_shell.specs.declared.outcome.Outcome.{Outcome}

-- ---- whether a book may be written

module _ (old : Option Holding) (book : List ℕ) (new : Contents) where
  abbrev Lost : Holding → Result ℕ BookRefusal
  Lost at = refused_by Load (losses_at at book new)

  pub free : (lossy : Bool) → lossy ≡ true → IfSome old (λ at. replaces_at at book lossy new ≡ Ok tt)
  unfolding replaces_at
  free lossy is = go old
    where
      go : (h : Option Holding) → IfSome h (λ at. replaces_at at book lossy new ≡ Ok tt)
      go None = tt
      go (Some at) = rw is refl

  held : (at : Holding) (lossy : Bool) → lossy ≡ false → replaces_at at book lossy new ≡ (Lost at >>= unless_lost)
  unfolding replaces_at
  held at lossy is = rw is refl

  otherwise : (b : Bool) (lost : ℕ) → b ≡ false → (let r : Result (Unit {0}) BookRefusal = if b then Ok tt else Err (WouldLose lost) in r) ≡ Err (WouldLose lost)
  otherwise true lost is = cc
  otherwise false lost is = refl

  apart : (b : Bool) (lost : ℕ) → (lost == 0) ≡ b → (lost ≡ 0 → ⊥) → b ≡ false
  apart true lost is some = absurd (some (eqb-true lost 0 is))
  apart false lost is some = refl

  module _ (lossy : Bool) (keeps : lossy ≡ false) where
    pub none_lost : (lost : ℕ) → IfSome old (λ at. Lost at ≡ Ok lost) → lost ≡ 0 → IfSome old (λ at. replaces_at at book lossy new ≡ Ok tt)
    none_lost lost is none = go old is
      where
        go : (h : Option Holding) → IfSome h (λ at. Lost at ≡ Ok lost) → IfSome h (λ at. replaces_at at book lossy new ≡ Ok tt)
        go None is = tt
        go (Some at) is = held at lossy keeps ∙ ap (λ (r : Result ℕ BookRefusal). r >>= unless_lost) is ∙ ap unless_lost none

    pub some_lost : (lost : ℕ) (e : Refused) → IfSome old (λ at. Lost at ≡ Ok lost) → (lost ≡ 0 → ⊥) → e.refusal ≡ WouldLose lost → IfSome old (λ at. is_want e.refusal ≡ false → replaces_at at book lossy new ≡ Err e.refusal)
    some_lost lost e is some refused = go old is
      where
        go : (h : Option Holding) → IfSome h (λ at. Lost at ≡ Ok lost) → IfSome h (λ at. is_want e.refusal ≡ false → replaces_at at book lossy new ≡ Err e.refusal)
        go None is = tt
        go (Some at) is = λ wanted.
            held at lossy keeps ∙ ap (λ (r : Result ℕ BookRefusal). r >>= unless_lost) is ∙ otherwise (lost == 0) lost (apart (lost == 0) lost refl some) ∙ ap Err (sym refused)

    pub unknown : (e : Refused) → IfSome old (λ at. is_want e.refusal ≡ false → Lost at ≡ Err e.refusal) → IfSome old (λ at. is_want e.refusal ≡ false → replaces_at at book lossy new ≡ Err e.refusal)
    unknown e is = go old is
      where
        go : (h : Option Holding) → IfSome h (λ at. is_want e.refusal ≡ false → Lost at ≡ Err e.refusal) → IfSome h (λ at. is_want e.refusal ≡ false → replaces_at at book lossy new ≡ Err e.refusal)
        go None is = tt
        go (Some at) is = λ wanted. held at lossy keeps ∙ ap (λ (r : Result ℕ BookRefusal). r >>= unless_lost) (is wanted)

-- ---- whether it was

module _ (old after : Option Holding) (out : List ℕ) (lossy : Bool) (new : Contents) (bytes text : List ℕ) (told : Bool) where
  -- it may not be
  pub not_stored : (e : Refused) → after ≡ old → IfSome old (λ at. is_want e.refusal ≡ false → replaces_at at out lossy new ≡ Err e.refusal)
      → IfSome old (λ at. is_want e.refusal ≡ false → IsStored (replaces_at at out lossy new) at after out bytes text told (Err e.refusal))
  not_stored e same refused = go old same refused
    where
      go : (h : Option Holding) → after ≡ h → IfSome h (λ at. is_want e.refusal ≡ false → replaces_at at out lossy new ≡ Err e.refusal)
          → IfSome h (λ at. is_want e.refusal ≡ false → IsStored (replaces_at at out lossy new) at after out bytes text told (Err e.refusal))
      go None same refused = tt
      go (Some at) same refused = λ wanted. subst (λ (free : Result (Unit {0}) BookRefusal). IsStored free at after out bytes text told (Err e.refusal)) (sym (refused wanted)) (refl, same)

  -- it may
  pub stored_so : (mid : Option Holding) (r : Result Outcome Refused) → mid ≡ old → IfSome old (λ at. replaces_at at out lossy new ≡ Ok tt) → IfSome mid (λ at. GivesOne outcome_view r (IsStored (Ok tt) at after out bytes text told))
      → IfSome old (λ at. GivesOne outcome_view r (IsStored (replaces_at at out lossy new) at after out bytes text told))
  stored_so mid r same may saved = go old may (subst (λ (h : Option Holding). IfSome h (λ at. GivesOne outcome_view r (IsStored (Ok tt) at after out bytes text told))) same saved)
    where
      go : (h : Option Holding) → IfSome h (λ at. replaces_at at out lossy new ≡ Ok tt) → IfSome h (λ at. GivesOne outcome_view r (IsStored (Ok tt) at after out bytes text told))
          → IfSome h (λ at. GivesOne outcome_view r (IsStored (replaces_at at out lossy new) at after out bytes text told))
      go None may saved = tt
      go (Some at) may saved = subst (λ (free : Result (Unit {0}) BookRefusal). GivesOne outcome_view r (IsStored free at after out bytes text told)) (sym may) saved

-- ---- what refuses

pub checks : (c : BookCall) → loads_book c ≡ true → checks_losses c ≡ true
checks (call.Load c) is = is
checks call.Book is = cc

pub loses : (lost : ℕ) (e : BookRefusal) → e ≡ WouldLose lost → checks_losses (call_of e) ≡ true
loses lost e is = ap (λ (r : BookRefusal). checks_losses (call_of r)) is

pub writes : (c : BookCall) → checks_losses c ≡ true → book_calls c ≡ true
writes (call.Load file.Store) is = refl
writes (call.Load file.Load) is = is
writes (call.Load file.ReadTree) is = is
writes (call.Load file.ReadRule) is = is
writes (call.Load file.ReadFlags) is = is
writes (call.Load file.ReadBook) is = is
writes (call.Load file.ReadTally) is = is
writes (call.Load file.ReadPlanned) is = is
writes call.Book is = refl

stores : (c : BookCall) → saves_book c ≡ true → book_calls c ≡ true
stores (call.Load file.Store) is = refl
stores (call.Load file.Load) is = cc
stores (call.Load file.ReadTree) is = cc
stores (call.Load file.ReadRule) is = cc
stores (call.Load file.ReadFlags) is = cc
stores (call.Load file.ReadBook) is = cc
stores (call.Load file.ReadTally) is = cc
stores (call.Load file.ReadPlanned) is = cc
stores call.Book is = refl

pub stored_by : (r : Result Outcome Refused) → ComesFrom saves_book r → ComesFrom book_calls r
stored_by (Ok o) comes = tt
stored_by (Err e) comes = stores (call_of e.refusal) comes

-- no file failed before the last step
pub failed_after : (start mid last fault : Bool) → mid ≡ (start || false) → last ≡ (mid || fault) → last ≡ (start || fault)
failed_after true mid last fault first second = second ∙ ap (λ (b : Bool). b || fault) first
failed_after false mid last fault first second = second ∙ ap (λ (b : Bool). b || fault) first
