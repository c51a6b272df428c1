-- Where a line is counted, in private contracts alone.
use Rattle.std.specs.Prelude.{◌≡◌, ◌<◌, ℕ, List, true, false}
use Rattle.book_core.specs.Page.{page_eq}
use Rattle.note_tallies.specs.Lines.{IsSaid, Said, Tallied, said_line, said_page, said_point}
use Rattle.note_tallies.specs.declared.place.Place.{Place}
use Rattle.note_tallies.specs.declared.place.Place.TheVariants.{Own, Other}

-- it says something of the page, at this point, which is one; or of another page
abbrev pub IsPlace : Tallied → List ℕ → Place → Type 0
IsPlace t line (Own at) = (said : Said) × IsSaid said × (line ≡ said_line said) × (page_eq (said_page said) t.page ≡ true) × (at ≡ said_point t.total said) × (at < t.total)
IsPlace t line Other = (said : Said) × IsSaid said × (line ≡ said_line said) × (page_eq (said_page said) t.page ≡ false)
