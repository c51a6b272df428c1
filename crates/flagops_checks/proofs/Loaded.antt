-- A document that was loaded, and a refusal to load it, as the command has them.
use Rattle.std.proofs.Common.{◌≡◌, List, Option, IfSome, false, ℕ, refl, ◌∙◌, ◌||◌, ap, sym, Bool, true}
use Rattle.std.specs.Prelude.{Ok, Err}
use Rattle.flag_defs.specs.Document.{Definitions}
use Rattle.flagops_shell.proofs.Lifted.{given_one, refused_one}
use Rattle.flagops_shell.specs.Diagnostic.{Says}
use Rattle.flagops_shell.specs.Files.{Holding}
use Rattle.flagops_files.proofs.Told.{told_of}
use Rattle.flagops_files.specs.Documents as documents
use Rattle.flagops_files.specs.Refusal as files
use Rattle.flagops_files.specs.declared.refusal.Call.{Call}
use Rattle.flagops_files.specs.Told.{NamesSubject, Subject}
use Rattle.flagops_checks.specs.Documents.{IsDocumentAt}
use Rattle.flagops_checks.specs.Refusal.{Refused, call_of, is_unread, is_want, loads}
use Rattle.flagops_checks.specs.declared.refusal.CheckRefusal.TheVariants.{Load}

module _ (old : Option Holding) (path : List ℕ) where
  pub flags_there : (floats : Bool) (flags : Definitions) → IfSome old (λ at. documents.IsDocumentAs floats at path (Ok flags)) → IfSome old (λ at. IsDocumentAt floats at path (Ok flags))
  unfolding IsDocumentAt
  flags_there floats flags loaded = given_one files.is_want is_want Load (λ e. refl) (λ at. documents.IsDocumentAs floats at path) old flags loaded

  pub no_flags : (floats : Bool) (e : files.Refused) (t : Refused) → t.refusal ≡ Load e.refusal → IfSome old (λ at. files.is_want e.refusal ≡ false → documents.IsDocumentAs floats at path (Err e.refusal))
      → IfSome old (λ at. is_want t.refusal ≡ false → IsDocumentAt floats at path (Err t.refusal))
  unfolding IsDocumentAt
  no_flags floats e t is loaded = refused_one files.is_want is_want Load (λ e. refl) (λ at. documents.IsDocumentAs floats at path) old e t is loaded

-- a refusal is told as it was
pub told : (e : files.Refused) (t : Refused) (subject : Subject) → t.refusal ≡ Load e.refusal → t.remark ≡ e.remark → (files.is_want e.refusal ≡ false → Says (NamesSubject subject) e.remark) → is_want t.refusal ≡ false → Says (NamesSubject subject) t.remark
told e t subject is said named = told_of files.is_want is_want Load (λ e. refl) e t is said subject named

-- ---- what refused, and whether a file could not be read, is as it was

pub comes : (calls : Call → Bool) (e : files.Refused) (t : Refused) → t.refusal ≡ Load e.refusal → calls (files.call_of e.refusal) ≡ true → loads calls (call_of t.refusal) ≡ true
comes calls e t is came = ap (λ r. loads calls (call_of r)) is ∙ came

pub failed_load : (old new : Bool) (e : files.Refused) (t : Refused) → t.refusal ≡ Load e.refusal → new ≡ (old || files.is_unread e.refusal) → new ≡ (old || is_unread t.refusal)
failed_load old new e t is failed = failed ∙ ap (λ b. old || b) (sym (ap is_unread is))
