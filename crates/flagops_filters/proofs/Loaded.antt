-- What comes of the files that were loaded.
use Rattle.std.proofs.Common.{◌≡◌, false, ℕ, Bool, List, Option, None, Some, Result, Ok, Err, ap, ◌∙◌, sym}
use Rattle.std.specs.Prelude.{IfSome}
use Rattle.flag_defs.specs.Document.{Definitions}
use Rattle.flag_defs.specs.Flags.{flags_view}
use Rattle.flagops_files.specs.Documents.{IsDocumentAs}
use Rattle.flagops_shell.specs.Files.{Holding}
use Rattle.flagops_files.specs.Refusal as files
use Rattle.flagops_shell.specs.declared.outcome.Outcome.{Outcome}
use Rattle.flagops_files.specs.Refusal.{Refused}
use Rattle.flagops_filters.specs.Refusal.{is_want}
use Rattle.flagops_filters.specs.Report.{GivesOne, Told}
use Rattle.flagops_filters.specs.Tally.{IsTallyIn, IsTallyReport}
use Rattle.flagops_filters.specs.Words.{Tallying}
use Rattle.flagops_filters.specs.declared.refusal.FilterRefusal.TheVariants.{Load}

-- no memory ran out, as every other command sees it
pub not_want : (t : Told) (e : Refused) → t.refusal ≡ Load e.refusal → is_want t.refusal ≡ false → files.is_want e.refusal ≡ false
not_want t e is no_want = ap is_want (sym is) ∙ no_want

module _ (a : Tallying) (is_cut : Bool) where
  unloaded_at : (at : Holding) (bytes : List ℕ) (e : Refused) (t : Told) → t.refusal ≡ Load e.refusal → files.GivesOne flags_view (Err e) (IsDocumentAs a.floats at a.document) → GivesOne (Err t) (IsTallyReport at a bytes is_cut)
  unfolding IsTallyReport
  unloaded_at at bytes e t is document = λ no_want. (Err e.refusal, document (not_want t e is no_want), ap Err is)

  pub unloaded : (holding : Option Holding) (given : Option (List ℕ)) (e : Refused) (t : Told) → t.refusal ≡ Load e.refusal → IfSome holding (λ at. files.GivesOne flags_view (Err e) (IsDocumentAs a.floats at a.document))
      → IfSome holding (λ at. IfSome given (λ bytes. GivesOne (Err t) (IsTallyReport at a bytes is_cut)))
  unloaded None given e t is document = tt
  unloaded (Some at) None e t is document = tt
  unloaded (Some at) (Some bytes) e t is document = unloaded_at at bytes e t is document

  loaded_at : (at : Holding) (bytes : List ℕ) (flags : Definitions) (r : Result Outcome Told) → IsDocumentAs a.floats at a.document (Ok flags) → GivesOne r (IsTallyIn (Ok flags) a bytes is_cut) → GivesOne r (IsTallyReport at a bytes is_cut)
  unfolding IsTallyReport
  loaded_at at bytes flags (Ok o) document gives = (Ok flags, document, gives)
  loaded_at at bytes flags (Err t) document gives = λ no_want. (Ok flags, document, gives no_want)

  pub loaded : (holding : Option Holding) (given : Option (List ℕ)) (flags : Definitions) (r : Result Outcome Told) → IfSome holding (λ at. IsDocumentAs a.floats at a.document (Ok flags)) → IfSome given (λ bytes. GivesOne r (IsTallyIn (Ok flags) a bytes is_cut))
      → IfSome holding (λ at. IfSome given (λ bytes. GivesOne r (IsTallyReport at a bytes is_cut)))
  loaded None given flags r document gives = tt
  loaded (Some at) None flags r document gives = tt
  loaded (Some at) (Some bytes) flags r document gives = loaded_at at bytes flags r document gives
