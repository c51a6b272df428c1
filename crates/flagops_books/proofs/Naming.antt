-- Of which file a person is told where it is refused.
use Rattle.std.proofs.Common.{◌≡◌, ◌∙◌, ℕ, true, false, List, refl, ap, sym, IfErr}
use Rattle.std.specs.Prelude.{Result, Ok, Err}
use Rattle.flagops_books.specs.Calls.{unites_files}
use Rattle.flagops_books.specs.declared.uniting.Step.{Step}
use Rattle.flagops_books.specs.Refusal.{ComesFrom, call_of, is_file_fault, is_want, TellsOf, Refused}
use Rattle.flagops_files.specs.Told.{file}
use Rattle.flagops_books.specs.declared.refusal.BookRefusal.{BookRefusal}
use Rattle.flagops_books.specs.declared.refusal.BookRefusal.TheVariants.{WantOfMemory}

-- ---- want of memory

pub want_alone : {Y : Type 0} (e : BookRefusal) → e ≡ WantOfMemory → is_want e ≡ false → Y
want_alone e is wanted = let no : true ≡ false = ap is_want (sym is) ∙ wanted in cc

module _ (path : List ℕ) (r : Result Step Refused) (wants : IfErr r (λ e. e.refusal ≡ WantOfMemory)) where
  pub want_calls : ComesFrom unites_files r
  want_calls = go r wants
    where
      go : (r : Result Step Refused) → IfErr r (λ e. e.refusal ≡ WantOfMemory) → ComesFrom unites_files r
      go (Ok s) is = tt
      go (Err e) is = ap (λ (f : BookRefusal). unites_files (call_of f)) is

  pub want_read : is_file_fault r ≡ false
  want_read = go r wants
    where
      go : (r : Result Step Refused) → IfErr r (λ e. e.refusal ≡ WantOfMemory) → is_file_fault r ≡ false
      go (Ok s) is = refl
      go (Err e) is = rw is refl

  pub want_told : TellsOf (file path) r
  want_told = go r wants
    where
      go : (r : Result Step Refused) → IfErr r (λ e. e.refusal ≡ WantOfMemory) → TellsOf (file path) r
      go (Ok s) is = tt
      go (Err e) is = λ wanted. want_alone e.refusal is wanted
