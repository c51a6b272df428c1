-- What the command `tally` comes to.
use Rattle.std.specs.Prelude.{◌≡◌, ◌≢◌, ◌<◌, ◌⊎◌, ℕ, ◌*◌, ◌==◌, nat_lt, Bool, true, List, length, unwrap_or, if◌then◌else◌, Result, Ok, Err, codes}
use Rattle.bucket_core.specs.Rule.{Entries, total_weight}
use Rattle.book_core.specs.Page.{PageName}
use Rattle.flag_defs.specs.Document.{Definitions}
use Rattle.flagops_files.specs.Documents.{IsDocumentAs}
use Rattle.flagops_shell.specs.Files.{Holding}
use Rattle.flagops_files.specs.declared.refusal.Refusal.{Refusal}
use Rattle.byte_streams.specs.Lines.{parts_of}
use Rattle.note_tallies.specs.Lines.{Tallied, finished, untallied}
use Rattle.note_streams.specs.Recorded.{most_bytes}
use Rattle.note_streams.specs.Rest.{is_empty, is_torn}
use Rattle.note_streams.specs.Tallied.{Tallies}
use Rattle.note_streams.specs.declared.stop.TallyStop.TheVariants.{Filter, Unreadable, TooLong}
use Rattle.rollout.specs.Lawful.{Place, and_then, max_planned, place_of}
use Rattle.rollout.specs.declared.fault.RolloutFault.{RolloutFault}
use Rattle.rollout.specs.declared.fault.RolloutFault.TheVariants.{NoWeight, TotalTooLarge}
use Rattle.note_tallies.specs.declared.filter_fault.FilterFault.{FilterFault}
use Rattle.note_tallies.specs.declared.filter_fault.FilterFault.TheVariants.{WantOfMemory}
use Rattle.note_tallies.specs.File.{tally_text}
use Rattle.flagops_filters.specs.Beside.{has_none, is_beside}
use Rattle.flagops_filters.specs.Report.{Came}
use Rattle.flagops_filters.specs.Words.{Tallying}
use Rattle.flagops_filters.specs.declared.refusal.FilterRefusal.TheVariants.{Load, Flag, Tally}

abbrev pub tally_call : List ℕ
tally_call = codes "tally"

-- what is tallied: the inputs of a page, in so many points
pub record Target : Type 0 where
  pub page : PageName
  pub total : ℕ

-- the entries and the page of a site, or its refusal, as of a request: the flag, the site, its buckets
abbrev pub site_of : Result Place RolloutFault → Result (Entries × PageName) RolloutFault
site_of (Ok place) = Ok (place.entries, place.page)
site_of (Err e) = Err e

-- as many points as the weights of a rule sum to, times the factor, which are some and not too many
abbrev pub points_of : ℕ → ℕ → Result ℕ RolloutFault
points_of total m = if total == 0 then Err NoWeight else (if nat_lt max_planned (total * m) then Err TotalTooLarge else Ok (total * m))

-- what is tallied at a site
abbrev pub target_at : ℕ → Entries × PageName → Result Target RolloutFault
target_at m (entries, page) = and_then (points_of (total_weight entries) m) (λ n. Ok (record { page = page; total = n }))

abbrev pub target_of : Definitions → List ℕ → ℕ → ℕ → Result Target RolloutFault
target_of flags key site m = and_then (site_of (place_of flags key site)) (target_at m)

-- the tally of all lines, with a line for a person where there were none, none was of the page, or one was torn; or the first refusal of one; or a read failed, or the stream is too long
abbrev pub IsTallyOver : Target → List ℕ → Bool → Came → Type 0
IsTallyOver target bytes is_cut r =
    ((last : Tallied) × Tallies (untallied target.page target.total) 0 (parts_of bytes) (Ok last) × (r ≡ Ok (record { text = tally_text (finished last); status = 0; is_told = is_beside (is_empty bytes) (has_none (finished last)) (is_torn bytes) })))
    ⊎ ((fault : FilterFault) × (fault ≢ WantOfMemory) × Tallies (untallied target.page target.total) 0 (parts_of bytes) (Err fault) × (r ≡ Err (Tally (Filter fault))))
    ⊎ ((is_cut ≡ true) × (r ≡ Err (Tally Unreadable)))
    ⊎ ((most_bytes < length bytes) × (r ≡ Err (Tally TooLong)))

abbrev pub IsTallyAt : Result Target RolloutFault → List ℕ → Bool → Came → Type 0
IsTallyAt (Err e) bytes is_cut r = r ≡ Err (Flag e)
IsTallyAt (Ok target) bytes is_cut r = IsTallyOver target bytes is_cut r

abbrev pub IsTallyIn : Result Definitions Refusal → Tallying → List ℕ → Bool → Came → Type 0
IsTallyIn (Err e) a bytes is_cut r = r ≡ Err (Load e)
IsTallyIn (Ok flags) a bytes is_cut r = IsTallyAt (target_of flags a.key a.site (unwrap_or a.refine 1)) bytes is_cut r

-- what the document at a path and the bytes of the standard input make
unfoldable pub IsTallyReport : Holding → Tallying → List ℕ → Bool → Came → Type 0
IsTallyReport at a bytes is_cut r = (document : Result Definitions Refusal) × IsDocumentAs a.floats at a.document document × IsTallyIn document a bytes is_cut r
