-- The members of an object that is being read.
use Rattle.std.specs.Prelude.{List, String}
use Rattle.std.specs.declared.alloc.Global.{Global}
use Rattle.flag_text.specs.declared.members.SortedMembers.{SortedMembers}
use Rattle.flag_text.specs.declared.members.SortedMembers.TheVariants.{Few, Many}
use Rattle.flag_text.specs.declared.tree.Tree.{Tree}

-- as they stand in a list
abbrev pub entries_of : SortedMembers → List (String Global × Tree)
entries_of (Few v) = v.items
entries_of (Many m) = m.entries
