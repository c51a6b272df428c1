-- What is told of flags.
use Rattle.std.specs.Prelude.{ℕ, Bool, true, false, List, ◌++◌, codes, decimal}
use Rattle.flag_defs.specs.Flags.{flags_view}
use Rattle.flag_defs.specs.Floats.{floats_view}
use Rattle.flag_defs.specs.Spelled.{printed_with_floats}
use Rattle.control_flags.specs.Doubts.{doubts_text}
use Rattle.control_flags.specs.Joined.{names_text, quoted}
use Rattle.control_flags.specs.Kinds.{kinds_text}
use Rattle.control_flags.specs.Sites.{sites_text}
use Rattle.control_flags.specs.declared.answer.FlagsAsked.{FlagsAsked}

abbrev pub bool_text : Bool → List ℕ
bool_text true = codes "true"
bool_text false = codes "false"

-- the number of the snapshot, whether a plan can be applied, words on the broken flags, and the names of the documents
unfoldable pub head_text : FlagsAsked → List ℕ
head_text a =
    codes "{\"snapshot\":" ++ (decimal a.number ++ (codes ",\"may_apply\":" ++ (bool_text a.may_apply ++ (codes ",\"remarks\":" ++ (quoted a.remarks.now ++ (codes ",\"sources\":[" ++ (names_text false a.sources.now ++ codes "]")))))))

-- and then the rows of all sites, the doubts, and the kinds
unfoldable pub rows_text : FlagsAsked → List ℕ
rows_text a =
    head_text a ++ (codes ",\"sites\":[" ++ (sites_text a.recorded.now.entries (flags_view a.flags.now) ++ (codes "],\"doubts\":[" ++ (doubts_text (flags_view a.flags.now)
    ++ (codes "],\"kinds\":[" ++ (kinds_text (flags_view a.flags.now) (floats_view a.flags.now) ++ codes "],\"merged\":"))))))

-- and the flags as a document, with each number as it is spelled
abbrev pub flags_text : FlagsAsked → List ℕ
flags_text a = rows_text a ++ (printed_with_floats (flags_view a.flags.now) (floats_view a.flags.now) ++ codes "}\n")
