-- What an asks file asks: a list of `{"key":text,"want":kind,"default":value,"context":object,"moment":n}`, each member required.
use Rattle.std.specs.Prelude.{ℕ, ◌^◌, nat_lt, pos, List, [], ◌∷◌, length, codes, if◌then◌else◌, Option, Some, None, option_map, option_and_then, Result, Ok, Err}
use Rattle.std.specs.Str.{bytes_eq}
use Rattle.flag_text.specs.Readers.{as_list, as_text, member_of}
use Rattle.flag_text.specs.Shape.{Shape, whole, object, Items, no_items, item}
use Rattle.flag_text.specs.View.{view}
use Rattle.flag_defs.specs.Kind.{kind_named}
use Rattle.flag_defs.specs.declared.kind.Kind.{Kind}
use Rattle.flag_defs.specs.declared.kind.Kind.TheVariants as kind
use Rattle.book_share.specs.declared.ask.Ask as program
use Rattle.flagops_drive.specs.declared.fault.DriveRefusal.{DriveRefusal}
use Rattle.flagops_drive.specs.declared.fault.DriveRefusal.TheVariants.{BadAsks}

-- what is asked of a flag: its key, the kind of value that is wanted, the default, the evaluation context, and the moment
pub record Ask : Type 0 where
  pub key : List ℕ
  pub want : Kind
  pub default : Shape
  pub context : Shape
  pub moment : ℕ

-- an ask of the program, without where its parts lie in memory
abbrev pub ask_view : program.Ask → Ask
ask_view a = record { key = a.key.now; want = a.want; default = view a.default.now; context = view a.context.now; moment = a.moment }

-- ---- members

-- the member `key`: the key of a flag
abbrev pub key_in : Shape → Option (List ℕ)
key_in t = option_and_then as_text (member_of (codes "key") t)

-- the kind that a word asks for: flagd's `boolean`, `string` and `integer` beside the words of kinds
abbrev pub kind_spelled : List ℕ → Option Kind
kind_spelled word =
    if bytes_eq word (codes "boolean") then Some kind.Bool else
    (if bytes_eq word (codes "string") then Some kind.Text else
    (if bytes_eq word (codes "integer") then Some kind.Whole else kind_named word))

-- the member `want`: the word of a kind
abbrev pub want_in : Shape → Option Kind
want_in t = option_and_then kind_spelled (option_and_then as_text (member_of (codes "want") t))

-- the member `default`: any value
abbrev pub default_in : Shape → Option Shape
default_in t = member_of (codes "default") t

-- an object
abbrev pub if_object : Shape → Option Shape
if_object (object ms) = Some (object ms)
if_object t = None

-- the member `context`
abbrev pub context_in : Shape → Option Shape
context_in t = option_and_then if_object (member_of (codes "context") t)

-- seconds since 1970, up to 2^53-1
abbrev pub if_moment : Shape → Option ℕ
if_moment (whole (pos n)) = if nat_lt n (2 ^ 53) then Some n else None
if_moment t = None

-- the member `moment`
abbrev pub moment_in : Shape → Option ℕ
moment_in t = option_and_then if_moment (member_of (codes "moment") t)

-- ---- the whole

infixl 10 ◌>>=◌
abbrev ◌>>=◌ : {A B : Type 0} → Option A → (A → Option B) → Option B
o >>= f = option_and_then f o

-- the ask that an object is, if each of its members is of its form
unfoldable pub ask_in : Shape → Option Ask
ask_in t = do
  key ← key_in t
  want ← want_in t
  default ← default_in t
  context ← context_in t
  moment ← moment_in t
  Some (record { key = key; want = want; default = default; context = context; moment = moment })

-- the asks of the items of a list
abbrev pub asks_in : Items → Option (List Ask)
asks_in no_items = Some []
asks_in (item t ts) = option_and_then (λ a. option_map (λ more. a ∷ more) (asks_in ts)) (ask_in t)

-- fewer than 2^32, as any file of the program's limit has
abbrev pub if_few : List Ask → Option (List Ask)
if_few asks = if nat_lt (length asks) (2 ^ 32) then Some asks else None

-- the asks that the tree of a file is
unfoldable pub asks_of : Shape → Option (List Ask)
asks_of t = option_and_then if_few (option_and_then asks_in (as_list t))

-- the asks, or else BadAsks
abbrev pub if_asks : {X : Type 0} → Option X → Result X DriveRefusal
if_asks None = Err BadAsks
if_asks (Some x) = Ok x
