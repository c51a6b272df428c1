-- Whether an input that was recorded for a request is none of its flag.
use Rattle.std.specs.Prelude.{Bool, false, Option, Some, None}
use Rattle.std.specs.Result.{result_ok}
use Rattle.book_core.specs.Book.{inputs_on}
use Rattle.book_core.specs.Page.{PageName}
use Rattle.page_tally.specs.Foreign.{has_foreign}
use Rattle.price_core.specs.Request.{asked_of}
use Rattle.flagops_rollouts.specs.Unrecorded.{page_asked}
use Rattle.flagops_files.specs.Question.{Question}
use Rattle.flagops_files.specs.declared.evidence.Evidence.{Evidence}
use Rattle.flagops_files.specs.declared.evidence.Evidence.TheVariants.{Book, Tally}

-- a book has an input on a page that no evaluation of its flag reaches there; a tally has no inputs, only how many fall on each point
abbrev pub has_foreign_input : Evidence → PageName → Bool
has_foreign_input (Book book) page = has_foreign page (inputs_on book page)
has_foreign_input (Tally tally) page = false

abbrev pub is_mixed : Evidence → Option PageName → Bool
is_mixed evidence None = false
is_mixed evidence (Some page) = has_foreign_input evidence page

-- the request has a page, and what was recorded such an input on it
abbrev pub is_foreign : Question → Bool
is_foreign q = is_mixed q.evidence (page_asked q.flags (result_ok (asked_of q.request)))
