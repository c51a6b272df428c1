-- The pages of sites that are made once for all notes, in private contracts alone.
use Rattle.std.specs.Prelude.{◌≡◌, ℕ, List, Some, slice_get, String, Vec, string_bytes}
use Rattle.std.specs.declared.alloc.Global.{Global}
use Rattle.flag_defs.specs.Document.{Definitions}
use Rattle.book_core.specs.Page.{PageName}
use Rattle.site_pages.specs.Keyed.{page_of, targeting_of}

-- these are pages of the flag of this key, each at the number of its site
abbrev pub AreSitePages : Definitions → List ℕ → List PageName → Type 0
AreSitePages flags key pages = (n : ℕ) (page : PageName) → slice_get pages n ≡ Some page → page ≡ page_of key (targeting_of flags key) n

-- a flag's key with the pages of its sites
abbrev pub Entry : Type 0
Entry = String Global × Vec PageName Global

-- the same of each flag
abbrev pub AreKnown : Definitions → List Entry → Type 0
AreKnown flags entries = (i : ℕ) (entry : Entry) → slice_get entries i ≡ Some entry → AreSitePages flags (string_bytes entry.0) entry.1.items
