-- A file that could not be read or written is told by one of two lines.
use mathlib.Core.Logic.{inl, inr}
use mathlib.Core.Path.{refl}
use Rattle.std.specs.Prelude.{◌≡◌, true}
use Rattle.flagops_shell.specs.Apart.{apart}
use Rattle.flagops_shell.specs.Report.{IsFileLine}
use Rattle.flagops_shell.specs.declared.files.LoadFault.TheVariants as load
use Rattle.flagops_shell.specs.declared.files.StoreFault.TheVariants as store
use Rattle.flagops_files.specs.Refusal.{is_unread, line_of}
use Rattle.flagops_files.specs.declared.refusal.Refusal.{Refusal}
use Rattle.flagops_files.specs.declared.refusal.Refusal.TheVariants as refusal

pub file_line : (r : Refusal) → is_unread r ≡ true → IsFileLine (line_of r)
unfolding line_of
file_line (refusal.Load load.Unreadable) e = inl refl
file_line (refusal.Load load.WantOfMemory) e = apart e
file_line (refusal.Store store.Unwritable) e = inr refl
file_line (refusal.Store store.WantOfMemory) e = apart e
file_line (refusal.WantOfMemory c) e = apart e
file_line refusal.LongBook e = apart e
file_line (refusal.ReadTree f) e = apart e
file_line (refusal.ReadRule f) e = apart e
file_line (refusal.ReadFlags f) e = apart e
file_line (refusal.ReadBook f) e = apart e
file_line (refusal.ReadTally f) e = apart e
file_line (refusal.ReadPlanned f) e = apart e
