-- Entries by the places of their names.
use Rattle.std.proofs.Common.{◌≡◌, ℕ, zero, suc, ◌+◌, ◌<◌, ◌*◌, List, [], ◌∷◌, ◌++◌, length, get_or, map, sum_by, String, string_bytes, Global, refl, ap, ◌∙◌, arith}
use Rattle.std.proofs.Math.ListN.{get_or-append}
use Rattle.std.proofs.Math.Seq.{get_or-append_seam}
use Rattle.std.proofs.lemmas.List.{length-append, length-map, map-append}
use Rattle.std.proofs.lemmas.List.Elements.{All-append, All-head, All-map, All-tail}
use Rattle.std.specs.List.{All}
use Rattle.std.proofs.lemmas.List.Sums.{sum_by-cons}
use Rattle.bucket_core.specs.Rule.{AreNamed, Entries, Numbered, all_named, ends_from, named, names_view, entries_view, entry_view, refinement, total_weight}
use Rattle.bucket_core.proofs.Items.{Held}
use Rattle.bucket_core.proofs.Points.{total_weight-cons}

-- weights are the same with the names as without
pub weight_named : (names : List (List ℕ)) (es : Numbered) → total_weight (all_named names es) ≡ sum_by (λ (e : ℕ × ℕ). e.1) es
weight_named names [] = refl
weight_named names (e ∷ es) =
    omega (arith, total_weight-cons (named names e) (all_named names es), sum_by-cons (λ (e : ℕ × ℕ). e.1) e es, weight_named names es)

pub weight_view : (es : List Held) → total_weight (entries_view es) ≡ sum_by (λ (e : Held). e.1) es
weight_view [] = refl
weight_view (e ∷ es) =
    omega (arith, total_weight-cons (entry_view e) (entries_view es), sum_by-cons (λ (e : Held). e.1) e es, weight_view es)

-- so is another weight of each
pub refinement_named : (names : List (List ℕ)) (m : ℕ) (es : Numbered) → all_named names (map (λ (e : ℕ × ℕ). (e.0, e.1 * m)) es) ≡ refinement m (all_named names es)
refinement_named names m [] = refl
refinement_named names m (e ∷ es) = ap (λ rs. ((named names e).0, e.1 * m) ∷ rs) (refinement_named names m es)

-- the sums from an entry on
pub ends_from-cons : (before : ℕ) (e : List ℕ × ℕ) (es : Entries) → ends_from before (e ∷ es) ≡ (before + e.1) ∷ ends_from (before + e.1) es
unfolding ends_from
ends_from-cons before e es = refl

pub ends_from-nil : (before : ℕ) → ends_from before [] ≡ []
unfolding ends_from
ends_from-nil before = refl

-- a name behind the others changes none of those before it
pub named-more : (names : List (List ℕ)) (name : List ℕ) (es : Numbered) → AreNamed names es → all_named (names ++ name ∷ []) es ≡ all_named names es
named-more names name [] all = refl
named-more names name (e ∷ es) all =
    let here = All-head (λ (e : ℕ × ℕ). e.0 < length names) e es all in
    let rest = named-more names name es (All-tail (λ (e : ℕ × ℕ). e.0 < length names) e es all) in
    let first : get_or (names ++ name ∷ []) e.0 [] ≡ get_or names e.0 [] = get_or-append names (name ∷ []) [] e.0 here in
    ap (λ n. (n, e.1) ∷ all_named (names ++ name ∷ []) es) first ∙ ap (λ rs. (named names e) ∷ rs) rest

AreNamed-more : (names : List (List ℕ)) (name : List ℕ) (es : Numbered) → AreNamed names es → AreNamed (names ++ name ∷ []) es
AreNamed-more names name es all k d h = omega (arith, all k d h, length-append names (name ∷ []))

last_inside : (names : List (List ℕ)) (name : List ℕ) (weight k : ℕ) (d : ℕ × ℕ) → k < 1 → (get_or ((length names, weight) ∷ []) k d).0 < length (names ++ name ∷ [])
last_inside names name weight zero d h = omega (arith, length-append names (name ∷ []))
last_inside names name weight (suc k) d h = absurd (omega arith)

-- an entry behind the others, whose name stands behind the other names
pub named-push : (names : List (List ℕ)) (name : List ℕ) (weight : ℕ) (es : Numbered) → AreNamed names es
    → AreNamed (names ++ name ∷ []) (es ++ (length names, weight) ∷ []) × (all_named (names ++ name ∷ []) (es ++ (length names, weight) ∷ []) ≡ all_named names es ++ (name, weight) ∷ [])
named-push names name weight es all =
    let more = names ++ name ∷ [] in
    let last : ℕ × ℕ = (length names, weight) in
    let inside : All (λ (e : ℕ × ℕ). e.0 < length more) (last ∷ []) = λ k d h. last_inside names name weight k d h in
    let here : get_or more (length names) [] ≡ name = get_or-append_seam names name [] [] in
    let are = All-append (λ (e : ℕ × ℕ). e.0 < length more) es (last ∷ []) (AreNamed-more names name es all) inside in
    let same : all_named more (es ++ last ∷ []) ≡ all_named names es ++ (name, weight) ∷ [] =
    map-append (named more) es (last ∷ []) ∙ (ap (λ xs. xs ++ named more last ∷ []) (named-more names name es all) ∙ ap (λ n. all_named names es ++ (n, weight) ∷ []) here) in
    (are, same)

-- one entry that has a name
pub one_named : (names : List (List ℕ)) (place weight : ℕ) → place < length names → AreNamed names ((place, weight) ∷ [])
one_named names place weight h zero d k = h
one_named names place weight h (suc n) d k = absurd (omega arith)

-- another weight of each changes no name
pub AreNamed-weights : (names : List (List ℕ)) (m : ℕ) (es : Numbered) → AreNamed names es → AreNamed names (map (λ (e : ℕ × ℕ). (e.0, e.1 * m)) es)
AreNamed-weights names m es all = All-map (λ (e : ℕ × ℕ). e.0 < length names) (λ (e : ℕ × ℕ). (e.0, e.1 * m)) es all

-- there are as many names of the program as bytes of them
pub all_within : (names : List (String Global)) (items : List ℕ) → All (λ i. i < length names) items → All (λ i. i < length (names_view names)) items
all_within names items all k d h = omega (arith, all k d h, length-map names string_bytes)
