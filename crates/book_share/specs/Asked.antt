-- What asks are answered, and what they reach.
use Rattle.std.specs.Prelude.{ℕ, zero, suc, ◌-◌, List, [], ◌∷◌, ◌++◌, length, count_by, sum_by, Bool, ◌&&◌, nat_lt, if◌then◌else◌, Option, Some}
use Rattle.std.specs.Str.{bytes_eq}
use Rattle.flag_text.specs.View.{view}
use Rattle.flag_defs.specs.Document.{Definitions}
use Rattle.logic_ast.specs.Expression.{Expression}
use Rattle.logic_eval.specs.Run.{Reach}
use Rattle.flag_resolve.specs.Resolution.{resolution_of}
use Rattle.flag_resolve.specs.Resolved.{Resolved}
use Rattle.book_core.specs.Book.{most_bytes}
use Rattle.book_core.specs.Page.{PageName, page_eq}
use Rattle.site_pages.specs.Keyed.{page_of, targeting_of}
use Rattle.book_share.specs.declared.ask.Ask.{Ask}

-- what the flags resolve an ask to
unfoldable pub resolved : Definitions → Ask → Resolved
resolved flags a =
    resolution_of (Some flags) (record { want = a.want; default = view a.default.now })
    (record { context = view a.context.now; flag = a.key.now; moment = a.moment })

-- an input that is to be noted on a page
pub record Mention : Type 0 where
  pub page : PageName
  pub input : List ℕ

abbrev pub mention : PageName → List ℕ → Mention
mention page input = record { page = page; input = input }

-- whether a reached input is too long for a book
abbrev pub is_long : Reach → Bool
is_long r = nat_lt most_bytes (length r.input)

-- the reached inputs that are not too long, each with the page of its site
unfoldable pub mentions_in : List ℕ → Option Expression → List Reach → List Mention
mentions_in key targeting [] = []
mentions_in key targeting (r ∷ rs) =
    if is_long r then mentions_in key targeting rs else mention (page_of key targeting r.site) r.input ∷ mentions_in key targeting rs

-- those of an ask
unfoldable pub mentions_of : Definitions → Ask → List Mention
mentions_of flags a = mentions_in a.key.now (targeting_of flags a.key.now) (resolved flags a).reached

-- those of all asks, in the order of the asks
abbrev pub mentions : Definitions → List Ask → List Mention
mentions flags [] = []
mentions flags (a ∷ rest) = mentions_of flags a ++ mentions flags rest

-- how many inputs that are too long were reached
abbrev pub long_inputs : List Reach → ℕ
long_inputs reached = count_by is_long reached

-- the same of all asks
abbrev pub long_of : Definitions → List Ask → ℕ
long_of flags asks = sum_by (λ a. long_inputs (resolved flags a).reached) asks

-- the input is mentioned for the page
abbrev pub is_mention : PageName → List ℕ → Mention → Bool
is_mention page input m = page_eq page m.page && bytes_eq input m.input

-- the inputs that are mentioned for a page
abbrev pub mentioned_on : PageName → List Mention → List (List ℕ)
mentioned_on page [] = []
mentioned_on page (m ∷ ms) = if page_eq page m.page then m.input ∷ mentioned_on page ms else mentioned_on page ms

-- the asks that are left once the first ones were passed over, and then as many each time between two of them
abbrev pub every : ℕ → ℕ → List Ask → List Ask
every between first [] = []
every between zero (a ∷ rest) = a ∷ every between between rest
every between (suc first) (a ∷ rest) = every between first rest

-- the asks that a worker takes: the one of its own number, then each that comes as many after as there are workers
abbrev pub asks_of : ℕ → ℕ → List Ask → List Ask
asks_of workers worker asks = every (workers - 1) worker asks

-- the same of the flag of a key, whose targeting is among the flags
abbrev pub mentions_by : Definitions → List ℕ → List Reach → List Mention
mentions_by flags key reached = mentions_in key (targeting_of flags key) reached

-- the reached input, unless it is too long, with the page of its site of the flag of a key
abbrev pub mention_by : Definitions → List ℕ → Reach → List Mention
mention_by flags key r = if is_long r then [] else mention (page_of key (targeting_of flags key) r.site) r.input ∷ []
