-- The edit that comes to mind first: each name has its points in one block.
use Rattle.std.specs.Prelude.{◌≡◌, ℕ, List, [], ◌∷◌, ◌++◌, map, if◌then◌else◌}
use Rattle.std.specs.List.{list_any}
use Rattle.std.specs.Map.{keys_of}
use Rattle.std.specs.Str.{bytes_eq}
use Rattle.exposures.specs.Exposure.{Inputs}
use Rattle.exposures.specs.Counts.{counts_of}
use Rattle.bucket_core.specs.Rule.{Entries, total_of, total_weight}
use Rattle.rule_switches.specs.Switches.{switched}

-- the names that stand nowhere before, each once
abbrev pub firsts : List (List ℕ) → List (List ℕ) → List (List ℕ)
firsts seen [] = []
firsts seen (n ∷ ns) = if list_any (bytes_eq n) seen then firsts seen ns else n ∷ firsts (seen ++ n ∷ []) ns

-- names with as many points each as they have in a rule
abbrev pub with_totals : Entries → List (List ℕ) → Entries
with_totals r names = map (λ n. (n, total_of r n)) names

-- the totals of the new rule, by the order of the names in the old one; those that it has not follow in the new rule's order
abbrev pub contiguous : Entries → Entries → Entries
contiguous before after = with_totals after (firsts [] (keys_of before ++ keys_of after))

-- how many inputs that edit would switch, of any that fall so on the points of the old rule
abbrev pub IsObvious : Entries → Entries → List ℕ → ℕ → Type 0
IsObvious before after counts n = (inputs : Inputs) → counts ≡ counts_of inputs (total_weight before) → n ≡ switched before (contiguous before after) inputs
