-- How many of the asks ended in what, and how many inputs they reached.
use Rattle.std.specs.Prelude.{◌≡◌, ℕ, Bool, List, codes, count_by, length, map, Option, Some, None, option_map, unwrap_or}
use Rattle.std.specs.Str.{bytes_eq}
use Rattle.book_core.specs.Book.{Contents, input_count}
use Rattle.flag_resolve.specs.Floats.{Marked}
use Rattle.flag_resolve.specs.Resolved.{Resolved}
use Rattle.flag_resolve.specs.Words.{code_word, reason_word}
use Rattle.flagops_drive.specs.Asks.{Ask}
use Rattle.flagops_drive.specs.Floats.{answered, answered_spelled}
use Rattle.flagops_drive.specs.Lines.{drive_text}
use Rattle.flagops_drive.specs.declared.command.DriveOutput.{DriveOutput}
use Rattle.flagops_drive.specs.declared.tally.Endings.{Endings}
use Rattle.flagops_drive.specs.declared.tally.Tally.{Tally}

-- what went wrong with an ask, and else the reason of its value, in OpenFeature's words
abbrev pub ending_word : Resolved → List ℕ
ending_word r = unwrap_or (option_map code_word r.code) (reason_word r.reason)

-- how many of these ended so
abbrev pub ended_in : List ℕ → List Resolved → ℕ
ended_in word answers = count_by (λ r. bytes_eq (ending_word r) word) answers

-- so many ended in each
pub record IsEndings (answers : List Resolved) (e : Endings) : Type 0 where
  pub targeting_match : e.targeting_match ≡ ended_in (codes "TARGETING_MATCH") answers
  pub defaults : e.defaults ≡ ended_in (codes "DEFAULT") answers
  pub fixed : e.fixed ≡ ended_in (codes "STATIC") answers
  pub disabled : e.disabled ≡ ended_in (codes "DISABLED") answers
  pub not_ready : e.not_ready ≡ ended_in (codes "PROVIDER_NOT_READY") answers
  pub invalid_context : e.invalid_context ≡ ended_in (codes "INVALID_CONTEXT") answers
  pub not_found : e.not_found ≡ ended_in (codes "FLAG_NOT_FOUND") answers
  pub parse_error : e.parse_error ≡ ended_in (codes "PARSE_ERROR") answers
  pub general : e.general ≡ ended_in (codes "GENERAL") answers
  pub type_mismatch : e.type_mismatch ≡ ended_in (codes "TYPE_MISMATCH") answers

-- how many inputs a book had before, if there was one
abbrev pub inputs_before : Option Contents → ℕ
inputs_before None = 0
inputs_before (Some book) = input_count book

-- The tally is of these resolutions, which are printed, their values by their spelling or not. It has the counts that are printed below them: the inputs of the book that is written, and those that the asks reached; and the inputs of the book that was there before.
unfoldable pub IsTallyOf : List Resolved → List Bool → Option Contents → Bool → List ℕ → Tally → Type 0
IsTallyOf answers spelled before json text tally =
    (calls full long : ℕ) × (text ≡ drive_text json spelled answers tally.inputs calls tally.reached full long) × (tally.asks ≡ length answers) × IsEndings answers tally.endings × (tally.had ≡ inputs_before before)

-- the same of what the flags resolve these asks to
abbrev pub TalliesAsks : Marked → Option (List Ask) → Option Contents → Bool → List ℕ → Tally → Type 0
TalliesAsks flags None before json text tally = ⊥
TalliesAsks flags (Some asks) before json text tally = IsTallyOf (map (answered flags) asks) (map (answered_spelled flags) asks) before json text tally

-- and of what is printed and told together
abbrev pub IsTallied : Marked → Option (List Ask) → Option Contents → Bool → DriveOutput → Type 0
IsTallied flags asks before json d = TalliesAsks flags asks before json d.text.items d.tally
