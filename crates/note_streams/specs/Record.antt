-- What is recorded of contexts, one JSON object a line (JSON Lines, https://jsonlines.org): what the evaluation of a flag reaches in each.
use Rattle.std.specs.Prelude.{◌≡◌, ℕ, ◌+◌, List, [], ◌∷◌, ◌++◌, length, slice_get, flat_map, nat_lt, Bool, true, false, not, ◌||◌, ◌==◌, if◌then◌else◌, Option, Some, None, Result, Ok, Err}
use Rattle.std.specs.List.{list_all, list_any}
use Rattle.std.specs.Map.{lookup}
use Rattle.std.specs.Str.{bytes_eq}
use Rattle.limits.specs.Limits.{text_bytes}
use Rattle.flag_text.specs.Shape.{Shape, null, object}
use Rattle.flag_text.specs.declared.fault.TextFault.{TextFault}
use Rattle.flag_defs.specs.Definition.{Definition}
use Rattle.flag_defs.specs.Document.{Definitions}
use Rattle.flag_defs.specs.Flag.{is_broken, targeting_in}
use Rattle.logic_ast.specs.Expression.{Expression}
use Rattle.logic_eval.specs.Run.{Reach}
use Rattle.flag_resolve.specs.Resolution.{resolved_by}
use Rattle.flag_resolve.specs.Resolved.{Resolved}
use Rattle.flag_defs.specs.declared.kind.Kind.TheVariants as kind
use Rattle.book_core.specs.Page.{PageName}
use Rattle.note_lines.specs.Note.{most_noted, note_line}
use Rattle.site_pages.specs.Pages.{ArePages}
use Rattle.spelled_numbers.specs.Sent.{sent_tree_of}
use Rattle.note_streams.specs.Outcomes.{Outcomes, both, no_outcomes, one_of, outcome_of}

-- the flags, a key and a moment, and the pages of the sites of the key's flag
pub record Scene : Type 0 where
  pub flags : Definitions
  pub key : List ℕ
  pub moment : ℕ
  pub pages : List PageName

-- the pages are those of the sites of a targeting, none where there is none
abbrev pub PagesIn : List ℕ → List PageName → Option Expression → Type 0
PagesIn key pages None = pages ≡ []
PagesIn key pages (Some targeting) = ArePages key targeting pages

-- there is such a flag, and it is not broken
abbrev pub is_good : Option Definition → Bool
is_good None = false
is_good (Some flag) = not (is_broken flag)

abbrev pub HasPages : List ℕ → List PageName → Option Definition → Type 0
HasPages key pages None = ⊥
HasPages key pages (Some flag) = PagesIn key pages (targeting_in flag)

-- the scene of these flags, this key and this moment
pub record IsSceneOf (flags : Definitions) (key : List ℕ) (moment : ℕ) (s : Scene) : Type 0 where
  pub flags_same : s.flags ≡ flags
  pub key_same : s.key ≡ key
  pub moment_same : s.moment ≡ moment
  pub good : is_good (lookup (bytes_eq key) flags) ≡ true
  pub pages_of : HasPages key s.pages (lookup (bytes_eq key) flags)

-- what the flag resolves to in a context
abbrev pub resolved_in : Scene → Shape → Resolved
resolved_in s context = resolved_by (Some s.flags) kind.Text null context s.key s.moment

-- ---- what is recorded

-- note lines, how many lines they were recorded of, whether the last of those is no context, and what came of the contexts
pub record Recorded : Type 0 where
  pub text : List ℕ
  pub lines : ℕ
  pub refused : Bool
  pub outcomes : Outcomes

abbrev pub nothing : Recorded
nothing = record { text = []; lines = 0; refused = false; outcomes = no_outcomes }

-- a line that is no context
abbrev pub refused : Recorded
refused = record { text = []; lines = 1; refused = true; outcomes = no_outcomes }

-- what is recorded of some lines and then of others, which are not looked at where one of the first is no context
unfoldable pub joined : Recorded → Recorded → Recorded
joined one other = if one.refused then one else record { text = one.text ++ other.text; lines = one.lines + other.lines; refused = other.refused; outcomes = both one.outcomes other.outcomes }

-- the line of an input on a page
abbrev pub page_line : Option PageName → List ℕ → List ℕ
page_line None input = []
page_line (Some page) input = note_line (record { page = page; input = input })

-- an input that is too long to be noted
abbrev pub is_long : Reach → Bool
is_long r = nat_lt most_noted (length r.input)

-- the line of a reached site, unless its input is too long
abbrev pub note_of : Scene → Reach → List ℕ
note_of s r = if is_long r then [] else page_line (slice_get s.pages r.site) r.input

abbrev pub notes_of : Scene → Resolved → List ℕ
notes_of s r = flat_map (note_of s) r.reached

-- what came of a context: a line is noted of it, or why none is
abbrev pub outcomes_of : Scene → Shape → Resolved → Outcomes
outcomes_of s context r =
    let long = list_any is_long r.reached in
    one_of long (outcome_of (nat_lt 0 (length (notes_of s r))) long context r)

-- of one context
abbrev pub of_resolved : Scene → Shape → Resolved → Recorded
of_resolved s context r = record { text = notes_of s r; lines = 1; refused = false; outcomes = outcomes_of s context r }

-- an object is a context; a number of it whose value is whole is that whole number however it is spelled, and any other is in nobody's way until
-- it is read
abbrev pub object_in : Shape → Option Shape
object_in (object ms) = Some (object ms)
object_in t = None

abbrev pub context_in : Result Shape TextFault → Option Shape
context_in (Err fault) = None
context_in (Ok t) = object_in t

abbrev pub context_of : List ℕ → Option Shape
context_of line = context_in (sent_tree_of line (length line))

abbrev pub of_context : Scene → Option Shape → Recorded
of_context s None = refused
of_context s (Some context) = of_resolved s context (resolved_in s context)

-- a space, a tab or a carriage return
abbrev pub is_white : ℕ → Bool
is_white b = ((b == 32) || (b == 9)) || (b == 13)

abbrev pub is_blank : List ℕ → Bool
is_blank line = list_all is_white line

-- the most bytes that a line has
abbrev pub most_line : ℕ
most_line = text_bytes

-- of one line, which is no context where it is too long; a blank one is passed over
unfoldable pub of_line : Scene → List ℕ → Recorded
of_line s line = if nat_lt most_line (length line) then refused else (if is_blank line then record { text = []; lines = 1; refused = false; outcomes = no_outcomes } else of_context s (context_of line))

-- the fold over the lines
abbrev pub record_of : Scene → List (List ℕ) → Recorded
record_of s [] = nothing
record_of s (line ∷ lines) = joined (of_line s line) (record_of s lines)
