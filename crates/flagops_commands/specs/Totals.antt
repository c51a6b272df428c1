-- The totals of a rule's names.
use Rattle.std.specs.Prelude.{ℕ, List, [], ◌∷◌, map}
use Rattle.std.specs.BTreeSet.{insert_key}
use Rattle.std.specs.Cmp.Lexicographic.{slice_cmp}
use Rattle.std.specs.Ordering.{nat_cmp}
use Rattle.bucket_core.specs.Rule.{Entries, total_of}

-- the names of a rule, each once, in the order of their bytes
abbrev pub names_in_order : Entries → List (List ℕ)
names_in_order [] = []
names_in_order (e ∷ es) = insert_key (slice_cmp nat_cmp) (names_in_order es) e.0

-- each name with the number of its points
abbrev pub totals_by_name : Entries → List (List ℕ × ℕ)
totals_by_name r = map (λ name. (name, total_of r name)) (names_in_order r)
