-- What a person is told of asks that were driven.
use Rattle.std.proofs.Common.{◌≡◌, ◌++◌, [], ℕ, Bool, true, false, List, Option, Some, None, codes, refl, subst, sym}
use Rattle.std.specs.Prelude.{IfOk, IfSome, Result, Ok, Err}
use Rattle.book_core.specs.Book.{Contents}
use Rattle.file_diagnostics.specs.Named.{Names, quoted}
use Rattle.file_diagnostics.specs.declared.lines.Opening.TheVariants.{Note}
use Rattle.flag_resolve.specs.Floats.{Marked}
use Rattle.flag_text.specs.Shape.{Shape}
use Rattle.flagops_drive.specs.Asks.{asks_of}
use Rattle.flagops_drive.specs.Tally.{TalliesAsks}
use Rattle.flagops_drive.specs.Unread.{has_unread_ask}
use Rattle.flagops_drive.specs.declared.tally.Tally.{Tally}
use Rattle.flagops_files.specs.Loading.{max_text}
use Rattle.flagops_shell.specs.Diagnostic.{Says}
use Rattle.flagops_shell.specs.Files.{Holding}
use Rattle.flagops_shell.specs.declared.outcome.Outcome.{Outcome}
use Rattle.flagops_shell.specs.declared.refused.Remark.{Remark}
use Rattle.flagops_shell.specs.declared.refused.Remark.TheVariants.{Short, Lines}
use Rattle.flagops_commands.specs.Drive.{before_at}
use Rattle.flagops_commands.specs.Loaded.{AreFlagsAt, tree_at}
use Rattle.flagops_commands.specs.Refusal.{Refused}
use Rattle.flagops_commands.specs.DriveSummary.{IsUnreadText, TellsDriven, TellsPrinted, TellsUnread, asks_listed, summary_text}

-- lines that begin with a note are about the name behind it
pub note_names : (name rest lines : List ℕ) → lines ≡ codes "note: " ++ (quoted name ++ rest) → Names name lines
unfolding Names
note_names name rest lines is = (Note, rest, is)

module _ (path : List ℕ) (asks : Shape) (tally : Tally) (lines : List ℕ) where
  -- the summary alone, and behind what is said of members that are not read
  pub alone : has_unread_ask asks ≡ false → lines ≡ summary_text path tally → TellsDriven path asks tally lines
  alone none is = ([], subst (λ (b : Bool). TellsUnread b path (asks_listed asks) []) (sym none) refl, is)

  pub behind : (unread : List ℕ) → has_unread_ask asks ≡ true → IsUnreadText path (asks_listed asks) unread → lines ≡ unread ++ summary_text path tally → TellsDriven path asks tally lines
  behind unread some told is = (unread, subst (λ (b : Bool). TellsUnread b path (asks_listed asks) unread) (sym some) told, is)

-- what holds of a value holds of one that was returned unchanged
pub if_same : {X E : Type 0} (r : Result X E) (x : X) (P : X → Type 0) → IfOk r (λ d. d ≡ x) → P x → IfOk r P
if_same (Ok d) x P is h = subst P (sym is) h
if_same (Err e) x P is h = tt

-- what is told of a tally of a text is told of what is printed
module _ (floats : Bool) (document asks book : List ℕ) (add json : Bool) (flags : Marked) (t : Shape) (before : Option Contents) (text : List ℕ) (tally : Tally) (remark : Remark) where
  says_so : (at : Holding) → AreFlagsAt floats at document (Ok flags) → tree_at at asks max_text ≡ Ok t → before_at at book add ≡ Ok before → TalliesAsks flags (asks_of t) before json text tally → (m : Remark)
      → Says (TellsDriven asks t tally) m → Says (TellsPrinted floats at document asks book add json text) m
  says_so at are tree had tallied Short says = tt
  says_so at are tree had tallied (Lines lines) says = (flags, are, t, tree, before, had, tally, tallied, says)

  pub told_numbers : (old : Option Holding) (r : Result Outcome Refused) → IfSome old (λ at. AreFlagsAt floats at document (Ok flags)) → IfSome old (λ at. tree_at at asks max_text ≡ Ok t)
      → IfSome old (λ at. before_at at book add ≡ Ok before) → TalliesAsks flags (asks_of t) before json text tally → Says (TellsDriven asks t tally) remark
      → IfOk r (λ o. (o.remark ≡ Some remark) × (o.text.items ≡ text)) → IfOk r (λ o. IfSome old (λ at. IfSome o.remark (Says (TellsPrinted floats at document asks book add json o.text.items))))
  told_numbers old (Err e) are tree had tallied says written = tt
  told_numbers None (Ok o) are tree had tallied says written = tt
  told_numbers (Some at) (Ok o) are tree had tallied says written =
      subst (λ (m : Option Remark). IfSome m (Says (TellsPrinted floats at document asks book add json o.text.items))) (sym written.0)
      (subst (λ (bs : List ℕ). Says (TellsPrinted floats at document asks book add json bs) remark) (sym written.1) (says_so at are tree had tallied remark says))
