-- Members of asks that nobody reads.
use Rattle.std.specs.Prelude.{◌||◌, Bool, false, is_some}
use Rattle.flag_text.specs.Shape.{Shape, list, Items, no_items, item}
use Rattle.member_names.specs.Unread.{unread_of}
use Rattle.member_names.specs.declared.reader.Reader.TheVariants as reader

-- one of these asks has a member that the reader of asks passes over
abbrev pub have_unread : Items → Bool
have_unread no_items = false
have_unread (item t ts) = is_some (unread_of reader.Ask t) || have_unread ts

-- an ask of the file has one; what is no list has no asks
abbrev pub has_unread_ask : Shape → Bool
has_unread_ask (list ts) = have_unread ts
has_unread_ask t = false
