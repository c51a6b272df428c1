-- Which of the names with limits a name is.
use Rattle.std.proofs.Common.{◌≡◌, ℕ, ◌+◌, Bool, not, List, [], ◌∷◌, map, nat_lt, Some, None, if◌then◌else◌, refl, ap, ap₂, sym, string_bytes}
use Rattle.std.specs.List.{position, position_or_len}
use Rattle.std.specs.Str.{bytes_eq}
use Rattle.std.proofs.lemmas.List.{length-map}
use Rattle.price_core.specs.Limits.{limit_view, limits_view}
use Rattle.price_core.specs.declared.totals.Limit.{Limit}

seen : {A B : Type 0} (p : A → Bool) (view : B → A) (bs : List B) → position_or_len (λ b. p (view b)) bs ≡ position_or_len p (map view bs)
seen p view [] = refl
seen p view (b ∷ bs) = ap (λ (n : ℕ). if not (p (view b)) then 1 + n else 0) (seen p view bs)

pub place_in_limits : (name : List ℕ) (limits : List Limit) → position (λ l. bytes_eq (string_bytes l.name) name) limits ≡ position (λ l. bytes_eq l.0 name) (limits_view limits)
place_in_limits name limits =
    ap₂ (λ (i n : ℕ). if nat_lt i n then Some i else None) (seen (λ l. bytes_eq l.0 name) limit_view limits) (sym (length-map limits limit_view))
