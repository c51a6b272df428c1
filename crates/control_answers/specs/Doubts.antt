-- What is doubted of a request whose answer is right: that it asks what was meant, or that anybody is recorded.
use Rattle.std.specs.Prelude.{ℕ, ◌==◌, ◌||◌, Bool, false, List, is_some, if◌then◌else◌, Option, Some, None, Result, Ok, Err}
use Rattle.flag_text.specs.Reading.{tree_of}
use Rattle.flag_text.specs.Shape.{Shape}
use Rattle.flag_text.specs.declared.fault.TextFault.{TextFault}
use Rattle.price_core.specs.Request.{max_request}
use Rattle.member_names.specs.Repeated.{is_repeating}
use Rattle.note_tallies.specs.Tally.{PageTally}
use Rattle.member_names.specs.Unread.{unread_of}
use Rattle.member_names.specs.declared.reader.Reader.TheVariants as reader
use Rattle.control_answers.specs.declared.refusal.ControlRefusal.{ControlRefusal}
use Rattle.control_answers.specs.declared.refusal.ControlRefusal.TheVariants.{Unread, Unrecorded}

-- a tree has a member that the reader of requests passes over
abbrev pub has_unread : Result Shape TextFault → Bool
has_unread (Ok t) = is_some (unread_of reader.Request t)
has_unread (Err e) = false

-- so have the bytes of a request, or a name stands more than once in an object, of which the last member is read
abbrev pub is_unread : List ℕ → Bool
is_unread request = has_unread (tree_of request max_request) || is_repeating request

-- the first doubt: a member is passed over, or the tally has no inputs
abbrev pub doubt_of : List ℕ → PageTally → Option ControlRefusal
doubt_of request t = if is_unread request then Some Unread else (if t.inputs == 0 then Some Unrecorded else None)
