-- Of which file a person is told.
use Rattle.std.proofs.Common.{◌≡◌, ◌∙◌, ◌++◌, ℕ, false, List, IfErr, Result, Ok, Err, ap, append_assoc, inl, refl, string_bytes, subst, sym}
use Rattle.std.specs.Prelude.{codes}
use Rattle.flagops_files.specs.Refusal as files
use Rattle.flagops_files.specs.Refusal.{Refused}
use Rattle.file_diagnostics.specs.Named.{Names, NamesWord}
use Rattle.flagops_shell.specs.Diagnostic.{Says}
use Rattle.flagops_shell.specs.declared.refused.Remark.{Remark}
use Rattle.flagops_shell.specs.declared.refused.Remark.TheVariants.{Short, Lines}
use Rattle.rollout.specs.declared.fault.RolloutFault.{RolloutFault}
use Rattle.flagops_filters.specs.Refusal.{is_unread, is_want}
use Rattle.flagops_filters.specs.Remarks.{NamesPath, NamesRefused, RemarksBy}
use Rattle.flagops_filters.specs.Report.{Told, is_file_fault}
use Rattle.flagops_filters.specs.Stopping.{IsStopped}
use Rattle.flagops_filters.specs.declared.refusal.FilterRefusal.{FilterRefusal}
use Rattle.flagops_filters.specs.declared.refusal.FilterRefusal.TheVariants.{Load, Flag}
use Rattle.flagops_filters.proofs.Loaded.{not_want}

-- what follows from what a remark says, it says too
pub says_so : (P Q : List ℕ → Type 0) (remark : Remark) → ((lines : List ℕ) → P lines → Q lines) → Says P remark → Says Q remark
says_so P Q Short f says = tt
says_so P Q (Lines lines) f says = f (string_bytes lines) says

-- ---- a file that was loaded

-- a file that is refused is named, as every other command names it
pub loaded_named : (path : List ℕ) (e : Refused) (t : Told) → t.refusal ≡ Load e.refusal → t.remark ≡ e.remark → (files.is_want e.refusal ≡ false → Says (Names path) e.remark) → is_want t.refusal ≡ false → Says (NamesPath path) t.remark
loaded_named path e t is same names no_want = subst (Says (NamesPath path)) (sym same) (says_so (Names path) (NamesPath path) e.remark (λ lines named. inl named) (names (not_want t e is no_want)))

pub document_named : (path : List ℕ) (e : Refused) (t : Told) → t.refusal ≡ Load e.refusal → t.remark ≡ e.remark → (files.is_want e.refusal ≡ false → Says (Names path) e.remark) → is_want t.refusal ≡ false
    → Says (NamesRefused path t.refusal) t.remark
document_named path e t is same names no_want = subst (λ (r : FilterRefusal). Says (NamesRefused path r) t.remark) (sym is) (loaded_named path e t is same names no_want)

-- ---- a flag, or the standard input

pub flag_named : (path : List ℕ) (t : Told) (e : RolloutFault) → t.refusal ≡ Flag e → Says (NamesPath path) t.remark → is_want t.refusal ≡ false → Says (NamesRefused path t.refusal) t.remark
flag_named path t e is says no_want = subst (λ (r : FilterRefusal). Says (NamesRefused path r) t.remark) (sym is) says

-- a stream that was not tallied to its end
pub stream_named : {X : Type 0} (path : List ℕ) (r : Result X Told) → IfErr r IsStopped → RemarksBy (NamesRefused path) r
stream_named path (Ok x) stops = tt
stream_named path (Err t) stops = λ no_want. subst (λ (r : FilterRefusal). Says (NamesRefused path r) t.remark) (sym stops.0.1) stops.1

pub stream_read : {X : Type 0} (r : Result X Told) → IfErr r IsStopped → is_file_fault r ≡ false
stream_read (Ok x) stops = refl
stream_read (Err t) stops = ap is_unread stops.0.1

-- lines behind those that name a word
pub named_before : (word lines more : List ℕ) → NamesWord word lines → NamesWord word (lines ++ more)
unfolding NamesWord
named_before word lines more (rest, is) =
    (rest ++ more, ap (λ (l : List ℕ). l ++ more) is ∙ (append_assoc (codes "error: ") (word ++ rest) more ∙ ap (λ (l : List ℕ). codes "error: " ++ l) (append_assoc word rest more)))
