-- Which files of a folder are logs, by their names.
use Rattle.std.specs.Prelude.{ℕ, Bool, false, not, ◌&&◌, ◌||◌, if◌then◌else◌, List, [], ◌∷◌, codes, nat_eq}
use Rattle.std.specs.List.{ends_with, starts_with}

-- `.log` stands in the name
abbrev pub has_log : List ℕ → Bool
has_log [] = false
has_log (b ∷ bs) = starts_with nat_eq (b ∷ bs) (codes ".log") || has_log bs

-- worker-*.log*
abbrev pub is_log : List ℕ → Bool
is_log name = starts_with nat_eq name (codes "worker-") && has_log name

abbrev pub is_compressed : List ℕ → Bool
is_compressed name = ends_with nat_eq name (codes ".gz") || (ends_with nat_eq name (codes ".xz") || (ends_with nat_eq name (codes ".zst") || ends_with nat_eq name (codes ".bz2")))

-- a log that is compressed, or one that is not
abbrev pub is_chosen : Bool → List ℕ → Bool
is_chosen compressed name = if compressed then is_log name && is_compressed name else (is_log name && not (is_compressed name))
