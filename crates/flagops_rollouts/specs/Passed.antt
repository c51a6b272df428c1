-- That a member which is told as not read is not read.
use Rattle.std.specs.Prelude.{◌≡◌, if◌then◌else◌}
use Rattle.flag_text.specs.Shape.{Shape, object, Members, no_members, member}
use Rattle.price_core.specs.Request.{request_of}
use Rattle.member_names.specs.Unread.{reads}
use Rattle.member_names.specs.declared.reader.Reader.{Reader}
use Rattle.member_names.specs.declared.reader.Reader.TheVariants as reader

-- the members that the reader takes
abbrev pub members_read : Reader → Members → Members
members_read r no_members = no_members
members_read r (member name t ms) = if reads r name then member name t (members_read r ms) else members_read r ms

-- an object without the members that the reader does not take
abbrev pub part_read : Reader → Shape → Shape
part_read r (object ms) = object (members_read r ms)
part_read r t = t

-- a request asks the same without the members that are not read
abbrev pub UnreadIsPassedOver : Type 0
UnreadIsPassedOver = (t : Shape) → request_of (part_read reader.Request t) ≡ request_of t
