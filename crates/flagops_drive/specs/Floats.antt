-- What asks come to where flags may have floats: the values of these stand as texts, which are their spelling.
use Rattle.std.specs.Prelude.{List, [], ◌∷◌, Bool, false, Some}
use Rattle.book_share.specs.declared.ask.Ask as program
use Rattle.flag_resolve.specs.Floats.{Marked, floats_in, is_spelled, kind_asked, resolved_with_floats}
use Rattle.flag_resolve.specs.Resolved.{Resolved}
use Rattle.flagops_drive.specs.Asks.{Ask}

-- what the flags, of which some may have floats, resolve an ask to
abbrev pub answered : Marked → Ask → Resolved
answered flags a = resolved_with_floats (Some flags) a.want a.default a.context a.key a.moment

-- whether its value is printed as it stands, which is its spelling
abbrev pub answered_spelled : Marked → Ask → Bool
answered_spelled flags a = is_spelled (Some flags) a.key (answered flags a)

-- the ask for the kind that its flag is asked for in place of the wanted one
abbrev pub asked_as : Marked → Ask → Ask
asked_as flags a = record { key = a.key; want = kind_asked (floats_in (Some flags) a.key) a.want; default = a.default; context = a.context; moment = a.moment }

-- whether the value of a resolution of the first of these asks is printed so
abbrev pub is_first_spelled : Marked → List program.Ask → Resolved → Bool
is_first_spelled flags [] r = false
is_first_spelled flags (a ∷ asks) r = is_spelled (Some flags) a.key.now r

-- whether the values of these resolutions of asks are printed so, in their order
abbrev pub spelled_of : Marked → List program.Ask → List Resolved → List Bool
spelled_of flags [] rs = []
spelled_of flags (a ∷ asks) [] = []
spelled_of flags (a ∷ asks) (r ∷ rs) = is_spelled (Some flags) a.key.now r ∷ spelled_of flags asks rs
