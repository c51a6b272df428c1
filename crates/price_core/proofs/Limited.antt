-- The limits on names: each name once, in order, with lawful limits.
use Rattle.std.proofs.Common.{◌≡◌, ℕ, suc, ◌+◌, ◌<◌, ◌≤◌, ◌^◌, List, [], ◌∷◌, map, drop, length, get_or, String, string_bytes, Global, Option, Some, None, IfSome, unwrap_or, sym, ap, ◌∙◌, add-one, arith}
use Rattle.std.proofs.Math.Seq.{drop-cons}
use Rattle.std.specs.BTreeMap.{insert_entry}
use Rattle.std.specs.Cmp.Lexicographic.{slice_cmp}
use Rattle.std.specs.List.{All}
use Rattle.std.specs.List.Sorted.{IsStrictlySortedBy}
use Rattle.std.specs.Map.{keys_of, lookup}
use Rattle.std.specs.Ordering.{nat_cmp, on}
use Rattle.std.specs.Str.{bytes_eq}
use Rattle.std.specs.declared.cmp.Ordering.{Ordering}
use Rattle.std.proofs.lemmas.List.Elements.{All-nil}
use Rattle.std.proofs.lemmas.Map.Entries.{All-lookup}
use denote.Ref.{Bor}
use Rattle.price_core.specs.Limits.{Limits, AreLimits, limits_of}
use Rattle.price_core.specs.Request.{limits_on}
use Rattle.price_core.proofs.Inserts.{insert-seen, rise_seen, all_insert}

-- the entries of a map by borrowed names
abbrev pub named : Bor (List ℕ) × (ℕ × ℕ) → List ℕ × (ℕ × ℕ)
named e = (e.0.now, e.1)

abbrev pub named_limits : List (Bor (List ℕ) × (ℕ × ℕ)) → Limits
named_limits es = map named es

abbrev pub name_cmp : Bor (List ℕ) → Bor (List ℕ) → Ordering
name_cmp = on (λ (x : Bor (List ℕ)). x.now) (slice_cmp nat_cmp)

value_of : (P : ℕ × ℕ → Type 0) (o : Option (ℕ × ℕ)) → P (0, 0) → IfSome o P → P (unwrap_or o (0, 0))
value_of P None none h = none
value_of P (Some x) none h = h

all_limits_on : (P : ℕ × ℕ → Type 0) (asked : Limits) (names : List (List ℕ)) → P (0, 0) → All (λ l. P l.1) asked → All (λ l. P l.1) (limits_on asked names)
all_limits_on P asked [] none all = All-nil (λ (l : List ℕ × (ℕ × ℕ)). P l.1)
all_limits_on P asked (n ∷ ns) none all =
    all_insert (slice_cmp nat_cmp) P (limits_on asked ns) n (limits_of asked n) (value_of P (lookup (bytes_eq n) asked) none (All-lookup P (bytes_eq n) asked all)) (all_limits_on P asked ns none all)

pub limits_lawful : (asked : Limits) (names : List (List ℕ)) → AreLimits asked → IsStrictlySortedBy (slice_cmp nat_cmp) (keys_of (limits_on asked names)) → AreLimits (limits_on asked names)
limits_lawful asked names lawful rise = record {
  rise = rise;
  ordered = all_limits_on (λ r. r.0 ≤ r.1) asked names (omega arith) lawful.ordered;
  small = all_limits_on (λ r. r.1 < 2 ^ 31) asked names (omega arith) lawful.small;
}

-- one more name, the one in front of those whose limits are put in order
pub limits_more : (asked : Limits) (names : List (String Global)) (left i : ℕ) (x : String Global) (es more : List (Bor (List ℕ) × (ℕ × ℕ))) (k : Bor (List ℕ)) (v : ℕ × ℕ)
    → left ≡ i + 1 → i < length names → x ≡ get_or names i x → k.now ≡ string_bytes x → v ≡ limits_of asked k.now → more ≡ insert_entry name_cmp es k v
    → named_limits es ≡ limits_on asked (map string_bytes (drop left names)) → named_limits more ≡ limits_on asked (map string_bytes (drop i names))
limits_more asked names left i x es more k v next inside is key value put made =
    let front : drop i names ≡ x ∷ drop (i + 1) names = rw add-one (drop-cons names i x inside ∙ ap (λ y. y ∷ drop (suc i) names) (sym is)) in
    let after : named_limits es ≡ limits_on asked (map string_bytes (drop (i + 1) names)) = made ∙ ap (λ n. limits_on asked (map string_bytes (drop n names))) next in
    ap named_limits put ∙ (insert-seen (λ (x : Bor (List ℕ)). x.now) (slice_cmp nat_cmp) es k v ∙ ((λ j. insert_entry (slice_cmp nat_cmp) (after j) (key j) ((value ∙ ap (limits_of asked) key) j)) ∙ ap (λ ns. limits_on asked (map string_bytes ns)) (sym front)))

pub named_rise : (es : List (Bor (List ℕ) × (ℕ × ℕ))) → IsStrictlySortedBy name_cmp (keys_of es) → IsStrictlySortedBy (slice_cmp nat_cmp) (keys_of (named_limits es))
named_rise es h = rise_seen (λ (x : Bor (List ℕ)). x.now) (slice_cmp nat_cmp) es h
