-- What is read of a tree whose numbers are whole has whole numbers.
use Rattle.std.proofs.Common.{◌≡◌, ℕ, List, Some, true, sym, subst}
use Rattle.flag_text.proofs.Bools.{Holds, Holds-and_then}
use Rattle.flag_text.proofs.Halving.{is_whole-find_member}
use Rattle.flag_text.specs.Readers.{member_of}
use Rattle.flag_text.specs.Shape.{Shape, null, boolean, whole, other, text, list, object, is_whole}
use Rattle.std.specs.Prelude.{codes}
use Rattle.flagops_drive.specs.Asks.{context_in, if_object}

member-whole : (name : List ℕ) (t : Shape) → is_whole t ≡ true → Holds is_whole (member_of name t)
member-whole name null h = tt
member-whole name (boolean b) h = tt
member-whole name (whole n) h = tt
member-whole name other h = tt
member-whole name (text s) h = tt
member-whole name (list ts) h = tt
member-whole name (object ms) h = is_whole-find_member name ms h

object-whole : (t : Shape) → is_whole t ≡ true → Holds is_whole (if_object t)
object-whole null h = tt
object-whole (boolean b) h = tt
object-whole (whole n) h = tt
object-whole other h = tt
object-whole (text s) h = tt
object-whole (list ts) h = tt
object-whole (object ms) h = h

-- the value of a member
pub whole_member : (name : List ℕ) (t v : Shape) → Some v ≡ member_of name t → is_whole t ≡ true → is_whole v ≡ true
whole_member name t v e h = subst (Holds is_whole) (sym e) (member-whole name t h)

-- the context
pub whole_context : (t v : Shape) → Some v ≡ context_in t → is_whole t ≡ true → is_whole v ≡ true
whole_context t v e h =
    subst (Holds is_whole) (sym e) (Holds-and_then is_whole is_whole if_object object-whole (member_of (codes "context") t) (member-whole (codes "context") t h))
