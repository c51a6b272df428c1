-- The names of the objects that are open, innermost last.
use Rattle.std.proofs.Common.{◌≡◌, ◌-◌, ◌++◌, arith, length-drop, ℕ, [], ◌∷◌, List, Bor, length, map, drop, take, Result, Ok, Err, refl, ap, ◌∙◌, append_assoc}
use Rattle.std.specs.Prelude.{MatchResult}
use Rattle.std.specs.Result.{result_or}
use Rattle.std.proofs.lemmas.List.{map-append, take_all}

-- a refused key stays refused under the fault that it is given
pub no_key : {X E F : Type 0} (r : Result X E) (f e : F) (P : X → Type 0) {Q : Type 0} → Err e ≡ result_or r (Err f) → MatchResult r P (λ _. Q) → Q
no_key (Ok k) f e P is found = cc
no_key (Err x) f e P is found = found

abbrev pub Names : Type 0
Names = List (Bor (List ℕ))

-- one more name behind those that were added
pub one_name : (now before outer added : Names) (name : Bor (List ℕ)) → before ≡ outer ++ added → now ≡ before ++ name ∷ [] → now ≡ outer ++ (added ++ name ∷ [])
one_name now before outer added name were is = is ∙ ap (λ ns. ns ++ name ∷ []) were ∙ append_assoc outer added (name ∷ [])

pub seen_more : (added : Names) (name : Bor (List ℕ)) (seen : List (List ℕ)) → map (λ m. m.now) added ≡ seen → map (λ m. m.now) (added ++ name ∷ []) ≡ seen ++ name.now ∷ []
seen_more added name seen e = map-append (λ m. m.now) added (name ∷ []) ∙ ap (λ ks. ks ++ name.now ∷ []) e

pub drop_outer : (outer added : Names) → drop (length outer) (outer ++ added) ≡ added
drop_outer [] added = refl
drop_outer (n ∷ ns) added = drop_outer ns added

pub take_outer : (outer added : Names) → take (length outer) (outer ++ added) ≡ outer
take_outer [] added = refl
take_outer (n ∷ ns) added = ap (λ xs. n ∷ xs) (take_outer ns added)

-- the names behind the outer ones are those that were added
pub added_names : (all now outer added : Names) (seen : List (List ℕ)) (n : ℕ) → n ≡ length outer → all ≡ now → now ≡ outer ++ added → map (λ m. m.now) added ≡ seen
    → map (λ m. m.now) (take (length all - n) (drop n all)) ≡ seen
added_names all now outer added seen n many same split e =
    ap (map (λ m. m.now)) (take_all (length all - n) (drop n all) (omega (arith, length-drop n all)))
    ∙ ap (λ ns. map (λ m. m.now) (drop n ns)) (same ∙ split) ∙ ap (λ k. map (λ m. m.now) (drop k (outer ++ added))) many ∙ ap (map (λ m. m.now)) (drop_outer outer added) ∙ e
