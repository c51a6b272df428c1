-- What making flags of a list and changing a site give.
use Rattle.std.specs.Prelude.{ℕ, List, [], Option, Some, None, Result, Ok, Err}
use Rattle.std.specs.BTreeMap.{insert_entry}
use Rattle.std.specs.Cmp.Lexicographic.{slice_cmp}
use Rattle.std.specs.List.{fold}
use Rattle.std.specs.Ordering.{nat_cmp}
use Rattle.bucket_core.specs.Rule.{Entries}
use Rattle.logic_ast.specs.Expression.{Expression}
use Rattle.logic_ast.specs.Sites.{replaced}
use Rattle.logic_ast.specs.declared.fault.LogicFault.{LogicFault}
use Rattle.logic_ast.specs.declared.fault.LogicFault.TheVariants.{NoSite}
use Rattle.flag_defs.specs.Definition.{Rules, Definition, broken, good}
use Rattle.flag_defs.specs.Document.{Definitions}

-- the map with one more: of a key that is there already the new definition counts
abbrev pub with_entry : Definitions → List ℕ × Definition → Definitions
with_entry fs f = insert_entry (slice_cmp nat_cmp) fs f.0 f.1

-- the map of a list, in the order of its keys
abbrev pub by_key : Definitions → Definitions
by_key fs = fold with_entry [] fs

abbrev pub retargeted : Rules → Result Expression LogicFault → Result Definition LogicFault
retargeted r (Err e) = Err e
retargeted r (Ok e) = Ok (good (record r { targeting = Some e }))

-- the rules with these entries at site n of their targeting
abbrev pub rules_with_site : ℕ → Entries → Rules → Option Expression → Result Definition LogicFault
rules_with_site n q r None = Err NoSite
rules_with_site n q r (Some e) = retargeted r (replaced n q e)

-- a flag with these entries at site n: a broken one has no site, and neither has one without targeting
abbrev pub with_site : ℕ → Entries → Definition → Result Definition LogicFault
with_site n q broken = Err NoSite
with_site n q (good r) = rules_with_site n q r r.targeting
