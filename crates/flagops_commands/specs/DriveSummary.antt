-- What a person is told of asks that were driven: how many ended in what, how many inputs they reached, and the book.
use Rattle.std.specs.Prelude.{◌≡◌, ◌++◌, ℕ, ◌+◌, ◌-◌, ◌/◌, ◌==◌, nat_le, Bool, true, false, List, [], ◌∷◌, codes, decimal, if◌then◌else◌, Option, Some, None, is_some, option_map, unwrap_or, Ok}
use Rattle.std.specs.Option.{option_or}
use Rattle.book_core.specs.Book.{Contents}
use Rattle.file_diagnostics.specs.Meant.{IsMeant}
use Rattle.file_diagnostics.specs.Named.{quoted}
use Rattle.flag_resolve.specs.Floats.{Marked}
use Rattle.flag_text.specs.Readers.{as_list}
use Rattle.flag_text.specs.Shape.{Shape, Items, no_items, item}
use Rattle.flagops_drive.specs.Asks.{asks_of}
use Rattle.flagops_drive.specs.Tally.{TalliesAsks}
use Rattle.flagops_drive.specs.Unread.{has_unread_ask}
use Rattle.flagops_drive.specs.declared.tally.Endings.{Endings}
use Rattle.flagops_drive.specs.declared.tally.Tally.{Tally}
use Rattle.flagops_files.specs.Loading.{max_text}
use Rattle.flagops_shell.specs.Files.{Holding}
use Rattle.flagops_commands.specs.Drive.{before_at}
use Rattle.flagops_commands.specs.Loaded.{AreFlagsAt, tree_at}
use Rattle.member_names.specs.Unread.{unread_of}
use Rattle.member_names.specs.declared.reader.Reader.TheVariants as reader

-- what makes a name that of one thing, or of another number of them
abbrev pub plural : ℕ → List ℕ
plural n = if n == 1 then [] else codes "s"

-- how many asks ended in what, by OpenFeature's words, in the order in which it is told
unfoldable pub endings_told : Endings → List (List ℕ × ℕ)
endings_told e =
    (codes "TARGETING_MATCH", e.targeting_match) ∷ (codes "DEFAULT", e.defaults) ∷ (codes "STATIC", e.fixed) ∷ (codes "DISABLED", e.disabled) ∷ (codes "PROVIDER_NOT_READY", e.not_ready)
    ∷ (codes "INVALID_CONTEXT", e.invalid_context) ∷ (codes "FLAG_NOT_FOUND", e.not_found) ∷ (codes "PARSE_ERROR", e.parse_error) ∷ (codes "GENERAL", e.general) ∷ (codes "TYPE_MISMATCH", e.type_mismatch) ∷ []

-- a word with its number, unless that is 0
abbrev pub ending_text : List ℕ × ℕ → List ℕ
ending_text e = if e.1 == 0 then [] else codes ", " ++ (e.0 ++ (codes " " ++ decimal e.1))

abbrev pub ending_texts : List (List ℕ × ℕ) → List ℕ
ending_texts [] = []
ending_texts (e ∷ es) = ending_text e ++ ending_texts es

-- how many asks there are, and how many of them ended in what
unfoldable pub asks_text : Tally → List ℕ
asks_text t = codes ": " ++ (decimal t.asks ++ (codes " ask" ++ (plural t.asks ++ ending_texts (endings_told t.endings))))

-- why asks reached nothing
unfoldable pub nothing_text : List ℕ
nothing_text = codes "  nothing was recorded: no ask reached a \"fractional\" with an input of at most 1,024 bytes\n  check the keys and the contexts\n"

-- so many asks matched a targeting for each input that they reached, where they are 20 or more
unfoldable pub sharing_text : ℕ → ℕ → List ℕ
sharing_text matched reached =
    if nat_le reached (matched / 20)
    then codes "  that is " ++ (decimal (matched / reached) ++ codes " asks for each input: the same users were asked again, or every context lacks what the bucketing expression reads\n")
    else []

-- how many inputs the asks reached, how many of these were new to the book, and how many it has
unfoldable pub book_text : Tally → List ℕ
book_text t =
    codes "\n  they reached "
    ++ (decimal t.reached ++ (codes " input" ++ (plural t.reached ++ (codes ", " ++ (decimal (t.inputs - t.had) ++ (codes " of them new; the book has " ++ (decimal t.inputs ++ codes "\n")))))))

-- what the asks of the file at a path came to
unfoldable pub summary_text : List ℕ → Tally → List ℕ
summary_text path t =
    codes "note: " ++ (quoted path ++ (asks_text t ++ (book_text t ++ (if t.reached == 0 then nothing_text else sharing_text t.endings.targeting_match t.reached))))

-- the same of asks that reached no input, and are refused for it
unfoldable pub unrecorded_text : List ℕ → Tally → List ℕ
unrecorded_text path t = codes "note: " ++ (quoted path ++ (asks_text t ++ (codes "\n" ++ nothing_text)))

-- the asks of a tree; what is no list has none
abbrev pub asks_listed : Shape → Items
asks_listed t = unwrap_or (as_list t) no_items

-- how many of these asks have a member that is not read
abbrev pub unread_count : Items → ℕ
unread_count no_items = 0
unread_count (item t ts) = if is_some (unread_of reader.Ask t) then 1 + unread_count ts else unread_count ts

-- the number of the first of them, where the first ask has the number n, and its first such member
abbrev pub first_unread : ℕ → Items → Option (ℕ × List ℕ)
first_unread n no_items = None
first_unread n (item t ts) = option_or (option_map (λ name. (n, name)) (unread_of reader.Ask t)) (first_unread (n + 1) ts)

unfoldable pub unread_count_text : ℕ → List ℕ
unread_count_text count = codes ": " ++ (decimal count ++ (codes " ask" ++ (plural count ++ codes " with a member that is not read\n")))

abbrev pub unread_member_text : ℕ × List ℕ → List ℕ
unread_member_text u = codes "  " ++ (quoted u.1 ++ (codes " in ask " ++ decimal u.0))

-- a line on such a member, which may end with one that is read and may be meant
abbrev pub IsUnreadMember : Option (ℕ × List ℕ) → List ℕ → Type 0
IsUnreadMember None line = line ≡ []
IsUnreadMember (Some u) line = (ending : List ℕ) × IsMeant reader.Ask ending × (line ≡ unread_member_text u ++ ending)

-- how many asks of the file at a path have a member that is not read, and the first of them with its number
unfoldable pub IsUnreadText : List ℕ → Items → List ℕ → Type 0
IsUnreadText path asks lines =
    (line : List ℕ) × IsUnreadMember (first_unread 1 asks) line × (lines ≡ (codes "note: " ++ quoted path) ++ (unread_count_text (unread_count asks) ++ line))

-- which is told before the summary, where some asks have such a member
abbrev pub TellsUnread : Bool → List ℕ → Items → List ℕ → Type 0
TellsUnread true path asks lines = IsUnreadText path asks lines
TellsUnread false path asks lines = lines ≡ []

-- lines are about the asks of a file that were driven, by their tally
abbrev pub TellsDriven : List ℕ → Shape → Tally → List ℕ → Type 0
TellsDriven path asks t lines = (unread : List ℕ) × TellsUnread (has_unread_ask asks) path (asks_listed asks) unread × (lines ≡ unread ++ summary_text path t)

-- The same of the asks of the file at a path, by a tally of what the flags of the document resolve them to, as it is printed, and of the book that was there before.
abbrev pub TellsPrinted : Bool → Holding → List ℕ → List ℕ → List ℕ → Bool → Bool → List ℕ → List ℕ → Type 0
TellsPrinted floats at document asks book add json text lines =
    (flags : Marked) × AreFlagsAt floats at document (Ok flags) × (t : Shape) × (tree_at at asks max_text ≡ Ok t) × (before : Option Contents) × (before_at at book add ≡ Ok before)
    × (tally : Tally) × TalliesAsks flags (asks_of t) before json text tally × TellsDriven asks t tally lines
