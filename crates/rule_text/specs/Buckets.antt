-- The literal buckets of a tree, or what they are refused for (but for `buckets_in`, in private contracts alone).
use Rattle.std.specs.Prelude.{◌≡◌, ℕ, Bool, false, cond, List, [], ◌∷◌, ◌++◌, Vec, Option, Some, None, option_map, option_and_then, Result, Ok, Err}
use Rattle.std.specs.Borrow.{Bor}
use Rattle.std.specs.declared.alloc.Global.{Global}
use Rattle.flag_text.specs.Readers.{as_list}
use Rattle.flag_text.specs.Reading.{json_levels}
use Rattle.flag_text.specs.Shape.{Shape, list, Items, levels, has_other}
use Rattle.flag_text.specs.declared.fault.TextFault.{TextFault}
use Rattle.bucket_core.specs.Reading.{buckets_of}
use Rattle.bucket_core.specs.Rule.{Entries}
use Rattle.bucket_core.specs.declared.fault.RuleFault.TheVariants.{BadRule}
use Rattle.rule_text.specs.Lent.{lent_view}
use Rattle.rule_text.specs.Parts.{extent_at}
use Rattle.rule_text.specs.Reading.{is_want}
use Rattle.rule_text.specs.declared.fault.RuleTextFault.{RuleTextFault}
use Rattle.rule_text.specs.declared.fault.RuleTextFault.TheVariants.{Text, Rule}
use Rattle.rule_text.specs.declared.part.Extent.{Extent}

-- the buckets, or that there are none
abbrev pub or_bad_rule : Option Entries → Result Entries RuleTextFault
or_bad_rule None = Err (Rule BadRule)
or_bad_rule (Some es) = Ok es

-- the literal buckets that a tree is a list of, or the fault of the text
abbrev pub buckets_in : Result Shape TextFault → Result Entries RuleTextFault
buckets_in (Ok t) = or_bad_rule (option_and_then buckets_of (as_list t))
buckets_in (Err e) = Err (Text e)

-- What was returned is what the definition gives, unless memory ran out.
abbrev pub GivesEntries : Result (Vec (Bor (List ℕ) × ℕ) Global) RuleTextFault → Result Entries RuleTextFault → Type 0
GivesEntries (Ok v) wanted = wanted ≡ Ok (lent_view v.items)
GivesEntries (Err e) wanted = is_want e ≡ false → wanted ≡ Err e

-- the buckets of a tree at the top of a text, and its extent
abbrev pub found_in : Shape → Option Entries × Extent
found_in t = (option_and_then buckets_of (as_list t), extent_at json_levels (levels t) (has_other t))

-- the same of a list of items
abbrev pub found_of : Items → Option Entries × Extent
found_of ts = found_in (list ts)

-- the buckets that were found, where each item was one
abbrev pub so_far : Bool → Entries → Option Entries
so_far is_rule es = cond is_rule (Some es) None

-- with one more item, a bucket or none
abbrev pub with_bucket : Option Entries → Option (List ℕ × ℕ) → Option Entries
with_bucket found bucket = option_and_then (λ es. option_map (λ b. es ++ b ∷ []) bucket) found
