-- The rows that are written read as what they are written for.
use Rattle.std.proofs.Common.{◌≡◌, ℕ, ℤ, ◌<◌, ◌≤◌, ◌^◌, List, [], ◌∷◌, Some, String, Global, refl, arith}
use Rattle.std.specs.List.{All, AllByRecursion}
use Rattle.std.proofs.lemmas.List.Elements.{recursion_from_All}
use Rattle.std.proofs.lemmas.Bool.{lt-ltb}
use Rattle.flag_text.specs.Readers.{as_text}
use Rattle.flag_text.specs.Shape.{Shape, text, levels, items_levels}
use Rattle.bucket_core.specs.Rule.{Entries}
use Rattle.transport_core.specs.Certificate.{alpha_view}
use Rattle.transport_core.specs.Groups.{GroupKey}
use Rattle.transport_core.specs.WrittenCertificate.{items_by, alpha_written, beta_written}
use Rattle.plan_text.specs.PlanFile.{entry_written, each, alpha_of, beta_of, entry_of}

pub alpha_again : (rows : List (GroupKey × ℤ)) → AllByRecursion (λ a. a.0.1 < 2 ^ 32) rows → each alpha_of (items_by alpha_written rows) ≡ Some rows
alpha_again [] h = refl
alpha_again (a ∷ rows) h = rw (lt-ltb a.0.1 (2 ^ 32) h.0, alpha_again rows h.1) refl

pub beta_again : (rows : List (List ℕ × ℤ)) → each beta_of (items_by beta_written rows) ≡ Some rows
beta_again [] = refl
beta_again (b ∷ rows) = rw (beta_again rows) refl

pub entries_again : (rows : Entries) → AllByRecursion (λ e. e.1 < 2 ^ 31) rows → each entry_of (items_by entry_written rows) ≡ Some rows
entries_again [] h = refl
entries_again (e ∷ rows) h = rw (lt-ltb e.1 (2 ^ 31) h.0, entries_again rows h.1) refl

pub names_again : (names : List (List ℕ)) → each as_text (items_by text names) ≡ Some names
names_again [] = refl
names_again (name ∷ names) = rw (names_again names) refl

-- rows nest as deep as each of them
pub rows_levels : {X : Type 0} (n : ℕ) (f : X → Shape) (xs : List X) → ((x : X) → levels (f x) ≤ n) → items_levels (items_by f xs) ≤ n
rows_levels n f [] h = omega arith
rows_levels n f (x ∷ xs) h = let first = h x in let rest = rows_levels n f xs h in omega (arith, first, rest)

counts_by : (rows : List (String Global × ℕ × ℤ)) → AllByRecursion (λ r. r.1 < 2 ^ 32) rows → AllByRecursion (λ a. a.0.1 < 2 ^ 32) (alpha_view rows)
counts_by [] h = tt
counts_by (r ∷ rows) h = (h.0, counts_by rows h.1)

-- counts of 32 bits, as the definitions see them
pub counts_small : (rows : List (String Global × ℕ × ℤ)) → All (λ r. r.1 < 2 ^ 32) rows → AllByRecursion (λ a. a.0.1 < 2 ^ 32) (alpha_view rows)
counts_small rows h = counts_by rows (recursion_from_All (λ (r : String Global × ℕ × ℤ). r.1 < 2 ^ 32) rows h)
