-- What was loaded, and a refusal to load it, as the command has them.
use Rattle.std.proofs.Common.{◌≡◌, ◌∙◌, ap, Bool, true, false, refl, ◌||◌, sym}
use Rattle.flagops_shell.proofs.Lifted.{not_want}
use Rattle.flagops_shell.specs.Diagnostic.{Says}
use Rattle.flagops_files.proofs.Told.{told_of}
use Rattle.flagops_files.specs.Refusal as files
use Rattle.flagops_files.specs.Told.{NamesSubject, Subject}
use Rattle.flagops_files.specs.declared.refusal.Call.{Call}
use Rattle.flagops_files.specs.declared.refusal.Call.TheVariants as call
use Rattle.flagops_books.specs.Refusal.{Refused, call_of, is_unread, is_want, loads, unwritable}
use Rattle.flagops_books.specs.declared.refusal.BookRefusal.TheVariants.{Load}

-- bytes are loaded where a book is
pub loads_both : (c : Call) → files.loads_file c ≡ true → files.loads_book c ≡ true
loads_both call.Load is = refl
loads_both call.ReadBook is = refl
loads_both call.ReadTree is = cc
loads_both call.ReadRule is = cc
loads_both call.ReadFlags is = cc
loads_both call.ReadTally is = cc
loads_both call.ReadPlanned is = cc
loads_both call.Store is = cc

-- a refusal is told as it was
module _ (e : files.Refused) (t : Refused) where
  pub told : (subject : Subject) → t.refusal ≡ Load e.refusal → t.remark ≡ e.remark → (files.is_want e.refusal ≡ false → Says (NamesSubject subject) e.remark) → is_want t.refusal ≡ false → Says (NamesSubject subject) t.remark
  told subject is said named = told_of files.is_want is_want Load (λ e. refl) e t is said subject named

  -- a file that is not written is refused as it was
  pub unwritten : t.refusal ≡ Load e.refusal → (files.is_want e.refusal ≡ false → e.refusal ≡ files.unwritable) → is_want t.refusal ≡ false → t.refusal ≡ unwritable
  unwritten is fault no_want = is ∙ ap Load (fault (not_want files.is_want is_want Load (λ e. refl) e t is no_want))

-- ---- what refused, and whether a file could not be read, is as it was

pub comes : (calls : Call → Bool) (e : files.Refused) (t : Refused) → t.refusal ≡ Load e.refusal → calls (files.call_of e.refusal) ≡ true → loads calls (call_of t.refusal) ≡ true
comes calls e t is came = ap (λ r. loads calls (call_of r)) is ∙ came

pub failed_load : (old new : Bool) (e : files.Refused) (t : Refused) → t.refusal ≡ Load e.refusal → new ≡ (old || files.is_unread e.refusal) → new ≡ (old || is_unread t.refusal)
failed_load old new e t is failed = failed ∙ ap (λ b. old || b) (sym (ap is_unread is))
