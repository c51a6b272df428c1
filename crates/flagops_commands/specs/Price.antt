-- What the command `price` answers.
use Rattle.std.specs.Prelude.{◌≡◌, ℕ, pos, List, [], ◌∷◌, ◌++◌, ◌==◌, ◌&&◌, Bool, true, nat_le, length, codes, decimal, if◌then◌else◌, Option, Some, None, option_map, option_and_then, Result, Ok, Err}
use Rattle.flag_text.specs.Printing.{text_of}
use Rattle.flag_text.specs.Readers.{as_text, as_list}
use Rattle.flag_text.specs.Reading.{tree_of}
use Rattle.flag_text.specs.Shape.{Shape, whole, text, object, Items, no_items, item, Members, no_members, member}
use Rattle.bucket_core.specs.Rule.{Entries, total_weight}
use Rattle.std.specs.Borrow.{Bor}
use Rattle.book_core.specs.Book.{Contents, Inputs, inputs_on, most_bytes, most_inputs, reply_to, with_input}
use Rattle.book_core.specs.Page.{PageName}
use Rattle.price_core.specs.Cost.{cost_of, first_forbidden_of}
use Rattle.price_core.specs.Pricing.{Pricing}
use Rattle.price_core.specs.Request.{Asked, asked_of}
use Rattle.flagops_shell.specs.Files.{Holding}
use Rattle.flagops_files.specs.Loading.{max_text}
use Rattle.flagops_shell.specs.Outcomes.{◌>>=◌, refused_by, beside, done}
use Rattle.flagops_shell.specs.Report.{Report}
use Rattle.flagops_shell.specs.declared.refused.Remark.{Remark}
use Rattle.flagops_rollouts.specs.Beside.{Tells}
use Rattle.flagops_rollouts.specs.Doubts.{is_unread, request_parts}
use Rattle.flagops_commands.specs.Totals.{totals_by_name}
use Rattle.flagops_commands.specs.Loaded.{bytes_at, rule_at}
use Rattle.flagops_commands.specs.declared.refusal.ListedRefusal.{ListedRefusal}
use Rattle.flagops_commands.specs.declared.refusal.ListedRefusal.TheVariants.{ReadRequest, Note, Price}
use Rattle.flagops_commands.specs.Refusal.{no_tree}
use Rattle.flagops_commands.specs.declared.refusal.PriceMismatch.TheVariants.{Weight, BadKeys}

-- ---- what is read

-- a request, and whether it has a member that is not read
abbrev pub with_doubt : List ℕ → Result Asked ListedRefusal → Result (Asked × Bool) ListedRefusal
with_doubt bytes asked = asked >>= λ a. Ok (a, is_unread bytes)

-- those of the file at a path
unfoldable pub request_at : Holding → List ℕ → Result (Asked × Bool) ListedRefusal
request_at at path = do
  bytes ← bytes_at at path
  with_doubt bytes (refused_by ReadRequest (asked_of bytes))

-- what is told of it: a part on members that are not read, and one on names that stand more than once, where there are any
unfoldable pub TellsRequestAt : Holding → List ℕ → Option Remark → Type 0
TellsRequestAt at path told = (bytes : List ℕ) × (bytes_at at path ≡ Ok bytes) × Tells (request_parts path bytes) told

-- the texts of a list of texts
abbrev pub texts_of : Items → Option Inputs
texts_of no_items = Some []
texts_of (item t ts) = option_and_then (λ s. option_map (λ ss. s ∷ ss) (texts_of ts)) (as_text t)

-- a list of texts
abbrev pub if_keys : Option Inputs → Result Inputs ListedRefusal
if_keys None = Err (Price BadKeys)
if_keys (Some keys) = Ok keys

-- the keys that a tree stands for
abbrev pub keys_in : Shape → Result Inputs ListedRefusal
keys_in t = if_keys (option_and_then texts_of (as_list t))

-- the keys that the bytes of a file stand for
abbrev pub keys_of : List ℕ → Result Inputs ListedRefusal
keys_of bytes = refused_by no_tree (tree_of bytes max_text) >>= keys_in

-- ---- what is noted

-- the page on which the keys are noted
abbrev pub key_page : PageName
key_page = record { flag = []; site = 0; by = None }

-- the book after the keys, or the first refusal of one
abbrev pub noted_from : Contents → Inputs → Result Contents ListedRefusal
noted_from book [] = Ok book
noted_from book (key ∷ keys) = refused_by Note (reply_to book key_page key) >>= λ _. noted_from (with_input book key_page key) keys

-- whether none of the texts is longer than an input may be
abbrev pub are_short : List (Bor (List ℕ)) → Bool
are_short [] = true
are_short (key ∷ keys) = nat_le (length key.now) most_bytes && are_short keys

-- whether a page takes all these texts, in whatever order they are noted
abbrev pub are_taken : List (Bor (List ℕ)) → Bool
are_taken keys = nat_le (length keys) most_inputs && are_short keys

-- the inputs that the book then has
abbrev pub exposed : Inputs → Result Inputs ListedRefusal
exposed keys = noted_from [] keys >>= λ book. Ok (inputs_on book key_page)

-- ---- what is written

-- a line of a name and its total
abbrev pub total_line : List ℕ × ℕ → List ℕ
total_line e = codes "total " ++ (text_of (text e.0) ++ (codes " " ++ (decimal e.1 ++ codes "\n")))

-- a line for each name
abbrev pub total_lines : List (List ℕ × ℕ) → List ℕ
total_lines [] = []
total_lines (e ∷ es) = total_line e ++ total_lines es

-- the least point of a forbidden change, if there is one
abbrev pub forbidden_line : Option ℕ → List ℕ
forbidden_line None = codes "forbidden none\n"
forbidden_line (Some p) = codes "forbidden " ++ (decimal p ++ codes "\n")

-- what the keys cost
abbrev pub cost_line : ℕ → List ℕ
cost_line cost = codes "cost " ++ (decimal cost ++ codes "\n")

-- totals, a forbidden point and a cost, in lines
abbrev pub price_lines : List (List ℕ × ℕ) → Option ℕ → ℕ → List ℕ
price_lines totals forbidden cost = total_lines totals ++ (forbidden_line forbidden ++ cost_line cost)

-- the new totals, the first forbidden point and the cost
unfoldable pub price_text : Entries → Entries → Pricing → Inputs → List ℕ
price_text old new pricing inputs = price_lines (totals_by_name new) (first_forbidden_of old new pricing) (cost_of old new inputs pricing)

-- each name with its total
abbrev pub total_members : List (List ℕ × ℕ) → Members
total_members [] = no_members
total_members (e ∷ es) = member e.0 (whole (pos e.1)) (total_members es)

-- a number, or null where there is none
abbrev pub number_or_null : Option ℕ → List ℕ
number_or_null None = codes "null"
number_or_null (Some n) = decimal n

-- {"cost":..,"forbidden":..,"totals":{..}} and a line feed
abbrev pub price_members : List (List ℕ × ℕ) → Option ℕ → ℕ → List ℕ
price_members totals forbidden cost =
    codes "{\"cost\":" ++ (decimal cost ++ (codes ",\"forbidden\":" ++ (number_or_null forbidden ++ (codes ",\"totals\":" ++ (text_of (object (total_members totals)) ++ codes "}\n")))))

-- the same totals, point and cost as one JSON text
unfoldable pub price_json : Entries → Entries → Pricing → Inputs → List ℕ
price_json old new pricing inputs = price_members (totals_by_name new) (first_forbidden_of old new pricing) (cost_of old new inputs pricing)

-- The rules have one total. The lines are printed, or with `--json` the JSON text.
abbrev pub weighed : Bool → Entries → Entries → Pricing → Inputs → Result Report ListedRefusal
weighed json old new pricing inputs =
    if total_weight old == total_weight new then done (if json then price_json old new pricing inputs else price_text old new pricing inputs) else Err (Price Weight)

-- the keys come to these inputs, which are then paid for
abbrev pub weighed_keys : Bool → Entries → Entries → Pricing → Inputs → Result Report ListedRefusal
weighed_keys json old new pricing keys = exposed keys >>= λ inputs. weighed json old new pricing inputs

-- the same of the bytes of a key file
unfoldable pub weighed_bytes : Bool → Entries → Entries → Pricing → List ℕ → Result Report ListedRefusal
weighed_bytes json old new pricing bytes = keys_of bytes >>= λ keys. weighed_keys json old new pricing keys

-- what the command reports, its files read in the order of the words, and whether a person is told of a doubt beside it
unfoldable pub price_report : Holding → List ℕ → List ℕ → List ℕ → List ℕ → Bool → Result Report ListedRefusal
price_report at old new request keys json = do
  o ← rule_at at old
  n ← rule_at at new
  a ← request_at at request
  bytes ← bytes_at at keys
  beside a.1 (weighed_bytes json o n a.0.prices bytes)
