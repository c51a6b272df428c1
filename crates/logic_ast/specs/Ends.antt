-- The cumulative weights of the sites of an expression, by which the bucket of a point is found by halving.
use Rattle.std.specs.Prelude.{◌≡◌, ℕ, ◌^◌, nat_lt, List, [], map, if◌then◌else◌, slice_index_or, Option, Some, None, Vec}
use Rattle.std.specs.declared.alloc.Global.{Global}
use Rattle.bucket_core.specs.Rule.{Entries, total_weight, ends_from}
use Rattle.logic_ast.specs.Expression.{Expression, Buckets}
use Rattle.logic_ast.specs.Sites.{Site, preorder, entries_of}

-- those of entries that sum to less than 2^31; of others none
abbrev pub ends_of_entries : Option Entries → List ℕ
ends_of_entries None = []
ends_of_entries (Some r) = if nat_lt (total_weight r) (2 ^ 31) then ends_from 0 r else []

-- those of buckets that are all literal; of others none
abbrev pub ends_of : Buckets → List ℕ
ends_of bs = ends_of_entries (entries_of bs)

abbrev pub site_ends : Site → List ℕ
site_ends s = ends_of s.buckets

-- those of all sites, in preorder
abbrev pub all_ends : Expression → List (List ℕ)
all_ends e = map site_ends (preorder e)

-- what stands under the number of the site is its own
abbrev pub HasEnds : List (List ℕ) → Site → Type 0
HasEnds table s = slice_index_or table s.number [] ≡ site_ends s

-- those that the program keeps
abbrev pub ends_view : List (Vec ℕ Global) → List (List ℕ)
ends_view vs = map (λ v. v.items) vs
