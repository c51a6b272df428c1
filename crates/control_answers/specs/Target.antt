-- What is tallied: the inputs of a site's page, in as many points as the weights of its rule sum to.
use Rattle.std.specs.Prelude.{ℕ, ◌==◌, nat_lt, List, if◌then◌else◌, Result, Ok, Err}
use Rattle.bucket_core.specs.Rule.{Entries, entries_view, total_weight}
use Rattle.book_core.specs.Page.{PageName}
use Rattle.flag_defs.specs.Document.{Definitions}
use Rattle.price_core.specs.Request.{asked_of}
use Rattle.rollout.specs.Lawful.{Place, and_then, by_price, max_planned, place_of}
use Rattle.rollout.specs.declared.fault.RolloutFault.{RolloutFault}
use Rattle.rollout.specs.declared.fault.RolloutFault.TheVariants.{NoWeight, TotalTooLarge}
use Rattle.control_answers.specs.declared.place.Place as program_place
use Rattle.control_answers.specs.declared.target.Target as program

-- the inputs of a page, in so many points
pub record Target : Type 0 where
  pub page : PageName
  pub total : ℕ

-- as many points as the weights sum to, which are some and not too many
abbrev pub points_of : ℕ → Result ℕ RolloutFault
points_of total = if total == 0 then Err NoWeight else (if nat_lt max_planned total then Err TotalTooLarge else Ok total)

abbrev pub target_at : Entries × PageName → Result Target RolloutFault
target_at (entries, page) = and_then (points_of (total_weight entries)) (λ n. Ok (record { page = page; total = n }))

-- the entries and the page of a site
abbrev pub site_of : Result Place RolloutFault → Result (Entries × PageName) RolloutFault
site_of (Ok place) = Ok (place.entries, place.page)
site_of (Err e) = Err e

-- of a site of a flag, or the first refusal: the flag, the site, its buckets, its weight, the total
abbrev pub target_in : Definitions → List ℕ → ℕ → Result Target RolloutFault
target_in flags key site = and_then (site_of (place_of flags key site)) target_at

-- of the site of a request, or the first refusal: the request itself, and then as of a site
abbrev pub target_of : Definitions → List ℕ → Result Target RolloutFault
target_of flags request = and_then (by_price (asked_of request)) (λ asked. target_in flags asked.flag asked.site)

-- ---- of the program

abbrev pub target_view : program.Target → Target
target_view t = record { page = t.page; total = t.total }

abbrev pub place_view : program_place.Place → Entries × PageName
place_view p = (entries_view p.entries.items, p.page)
