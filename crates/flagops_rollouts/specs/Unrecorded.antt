-- Whether the recorded inputs have none of the site that a request is about.
use Rattle.std.specs.Prelude.{ℕ, nat_eq, List, Bool, false, Option, Some, None, option_and_then}
use Rattle.std.specs.Map.{lookup}
use Rattle.std.specs.Result.{result_ok}
use Rattle.std.specs.Str.{bytes_eq}
use Rattle.book_core.specs.Book.{inputs_on}
use Rattle.book_core.specs.Listing.{has_none}
use Rattle.book_core.specs.Page.{PageName}
use Rattle.book_core.specs.Site.{page_at}
use Rattle.flag_defs.specs.Definition.{Definition}
use Rattle.flag_defs.specs.Document.{Definitions}
use Rattle.flag_defs.specs.Flag.{targeting_in}
use Rattle.price_core.specs.Request.{Asked, asked_of}
use Rattle.flagops_files.specs.Question.{Question}
use Rattle.flagops_files.specs.declared.evidence.Evidence.{Evidence}
use Rattle.flagops_files.specs.declared.evidence.Evidence.TheVariants.{Book, Tally}

-- the page of a site of a flag, where it has the site
abbrev pub page_in : List ℕ → ℕ → Option Definition → Option PageName
page_in key site None = None
page_in key site (Some flag) = option_and_then (λ targeting. result_ok (page_at key site targeting)) (targeting_in flag)

-- the page of a request
abbrev pub page_asked : Definitions → Option Asked → Option PageName
page_asked flags None = None
page_asked flags (Some asked) = page_in asked.flag asked.site (lookup (bytes_eq asked.flag) flags)

-- a book has no input on a page; a tally, which is of one page, has none
abbrev pub has_no_input : Evidence → PageName → Bool
has_no_input (Book book) page = has_none (inputs_on book page)
has_no_input (Tally tally) page = nat_eq tally.inputs 0

abbrev pub is_bare : Evidence → Option PageName → Bool
is_bare evidence None = false
is_bare evidence (Some page) = has_no_input evidence page

-- the request has a page, and what was recorded no input on it
abbrev pub is_unrecorded : Question → Bool
is_unrecorded q = is_bare q.evidence (page_asked q.flags (result_ok (asked_of q.request)))
