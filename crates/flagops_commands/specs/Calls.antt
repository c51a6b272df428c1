-- The calls that each command makes, by the names that the lines of refusals have.
use Rattle.std.specs.Prelude.{Bool, true, false}
use Rattle.flagops_files.specs.Refusal as files
use Rattle.flagops_files.specs.declared.refusal.Call.{Call}
use Rattle.flagops_files.specs.declared.refusal.Call.TheVariants as file
use Rattle.flagops_commands.specs.Refusal.{loads, loads_book, loads_file, loads_rule, loads_tree}
use Rattle.flagops_commands.specs.declared.refusal.ListedCall.{ListedCall}
use Rattle.flagops_commands.specs.declared.refusal.ListedCall.TheVariants as call

-- the command `completions` makes no call but the program's own
abbrev pub completions_calls : ListedCall → Bool
completions_calls call.Flagops = true
completions_calls c = false

-- the calls that the command `bucket` makes
abbrev pub bucket_calls : ListedCall → Bool
bucket_calls call.Bucket = true
bucket_calls c = loads_rule c

-- the call that reading a request makes
abbrev pub reads_request : ListedCall → Bool
reads_request call.ReadRequest = true
reads_request c = false

-- the calls that loading a request makes
abbrev pub loads_request : ListedCall → Bool
loads_request call.ReadRequest = true
loads_request c = loads_file c

-- the calls that loading the keys of a file makes, beside those of `price` itself
abbrev pub loads_keys : ListedCall → Bool
loads_keys call.Price = true
loads_keys c = loads_tree c

-- the calls that noting keys makes
abbrev pub notes_keys : ListedCall → Bool
notes_keys call.Note = true
notes_keys call.Price = true
notes_keys c = false

-- the call of the command `price` itself
abbrev pub price_itself : ListedCall → Bool
price_itself call.Price = true
price_itself c = false

-- the calls that weighing the bytes of a key file makes
abbrev pub weighs_keys : ListedCall → Bool
weighs_keys call.Note = true
weighs_keys c = loads_keys c

-- the calls that the command `price` makes
abbrev pub price_calls : ListedCall → Bool
price_calls call.Price = true
price_calls call.ReadRequest = true
price_calls call.Note = true
price_calls c = loads_rule c

-- the calls that loading a document and trees makes
abbrev pub loads_flags_and_trees : Call → Bool
loads_flags_and_trees file.ReadTree = true
loads_flags_and_trees c = files.loads_flags c

-- the calls that the command `resolve` makes
abbrev pub resolve_calls : ListedCall → Bool
resolve_calls call.Resolve = true
resolve_calls c = loads loads_flags_and_trees c

-- the call of the command `drive` itself
abbrev pub drive_itself : ListedCall → Bool
drive_itself call.Drive = true
drive_itself c = false

-- the calls by which it is known that a new book loses nothing
abbrev pub checks_losses : ListedCall → Bool
checks_losses call.Drive = true
checks_losses c = loads_book c

-- the calls that writing a book makes, which may have to lose nothing
abbrev pub writes_book : ListedCall → Bool
writes_book (call.Load file.Store) = true
writes_book c = checks_losses c

-- the calls by which `drive` reads and writes files
abbrev pub drives_files : Call → Bool
drives_files file.Store = true
drives_files file.ReadTree = true
drives_files file.ReadBook = true
drives_files c = files.loads_flags c

-- the calls that the command `drive` makes
abbrev pub drive_calls : ListedCall → Bool
drive_calls call.Drive = true
drive_calls c = loads drives_files c
