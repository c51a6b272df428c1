-- Names that stand once.
use Rattle.std.proofs.Common.{◌≡◌, ◌≢◌, ℕ, ◌+◌, ◌<◌, ◌≤◌, suc, Bool, true, false, List, [], ◌∷◌, ◌++◌, length, drop, take, get_or, map, None, Result, Ok, Err, String, string_bytes, refl, sym, ap, ◌∙◌, arith}
use Rattle.std.specs.declared.alloc.Global.{Global}
use Rattle.std.specs.List.{list_any}
use Rattle.std.specs.Str.{bytes_eq}
use Rattle.std.proofs.Math.Seq.{drop-cons}
use Rattle.std.proofs.lemmas.Bool.{lt-ltb}
use Rattle.std.proofs.lemmas.List.{map-append, take-append-drop, take_more, length-map, length-take-le}
use Rattle.std.proofs.lemmas.Slice.Eq.{bytes_eq-Decides}
use Rattle.flag_text.proofs.Bools.{or_left, or_right}
use Rattle.source_merge.specs.Sources.{Source, SourceList, added, is_source, most_sources}
use Rattle.source_merge.specs.declared.fault.SourceFault.{SourceFault}
use Rattle.source_merge.specs.declared.fault.SourceFault.TheVariants.{WantOfMemory}
use Rattle.snap_core.specs.Opening.{has_double, sources_named}

-- the items from place i on
pub from_place : {X : Type 0} (xs : List X) (i : ℕ) (x : X) → x ≡ get_or xs i x → i < length xs → drop i xs ≡ x ∷ drop (i + 1) xs
from_place {X} xs i x is inside =
    let next : suc i ≡ i + 1 = omega arith in
    drop-cons xs i x inside ∙ (ap (λ y. y ∷ drop (suc i) xs) (sym is) ∙ ap (λ n. x ∷ drop n xs) next)

-- the names before one are other names
differs : (n x : List ℕ) → bytes_eq x n ≡ false → bytes_eq n x ≡ false
differs n x h = by (bytes_eq n x) refl
  where
    by : (b : Bool) → bytes_eq n x ≡ b → bytes_eq n x ≡ false
    by true e =
        let same : bytes_eq x n ≡ true = (bytes_eq-Decides x n).1 (sym ((bytes_eq-Decides n x).0 e)) in
        absurd (cc)
    by false e = e

none_is : (x n : List ℕ) (xs ys : List (List ℕ)) → list_any (bytes_eq x) (xs ++ n ∷ ys) ≡ false → bytes_eq x n ≡ false
none_is x n [] ys h = or_left (bytes_eq x n) (list_any (bytes_eq x) ys) h
none_is x n (z ∷ xs) ys h = none_is x n xs ys (or_right (bytes_eq x z) (list_any (bytes_eq x) (xs ++ n ∷ ys)) h)

pub apart_before : (xs ys : List (List ℕ)) (n : List ℕ) → has_double (xs ++ n ∷ ys) ≡ false → is_source n (sources_named xs) ≡ false
apart_before [] ys n h = refl
apart_before (x ∷ xs) ys n h =
    let here : bytes_eq n x ≡ false = differs n x (none_is x n xs ys (or_left (list_any (bytes_eq x) (xs ++ n ∷ ys)) (has_double (xs ++ n ∷ ys)) h)) in
    let later : is_source n (sources_named xs) ≡ false = apart_before xs ys n (or_right (list_any (bytes_eq x) (xs ++ n ∷ ys)) (has_double (xs ++ n ∷ ys)) h) in
    rw here later

-- so the next one is added
module _ (names : List (String Global)) (distinct : has_double (map string_bytes names) ≡ false) (few : length names ≤ most_sources) (i : ℕ) (x : String Global) (is : x ≡ get_or names i x) (inside : i < length names) where
  before : List (List ℕ)
  before = map string_bytes (take i names)

  split : map string_bytes names ≡ map string_bytes (take i names) ++ string_bytes x ∷ map string_bytes (drop (i + 1) names)
  split =
      ap (map string_bytes) (sym (take-append-drop i names) ∙ ap (λ xs. take i names ++ xs) (from_place names i x is inside))
      ∙ map-append string_bytes (take i names) (x ∷ drop (i + 1) names)

  pub new_name : is_source (string_bytes x) (sources_named (map string_bytes (take i names))) ≡ false
  new_name = apart_before (map string_bytes (take i names)) (map string_bytes (drop (i + 1) names)) (string_bytes x) (ap has_double (sym split) ∙ distinct)

  pub one_more : sources_named (map string_bytes (take (i + 1) names)) ≡ sources_named (map string_bytes (take i names)) ++ (string_bytes x, None) ∷ []
  one_more =
      ap (λ (xs : List (String Global)). sources_named (map string_bytes xs)) (take_more names i x inside ∙ ap (λ y. take i names ++ y ∷ []) (sym is))
      ∙ (ap sources_named (map-append string_bytes (take i names) (x ∷ [])) ∙ map-append (λ (name : List ℕ). let s : Source = (name, None) in s) (map string_bytes (take i names)) (string_bytes x ∷ []))

  pub few_before : length (sources_named (map string_bytes (take i names))) < most_sources
  few_before =
      let named = length-map (map string_bytes (take i names)) (λ (name : List ℕ). let s : Source = (name, None) in s) in
      let texts = length-map (take i names) string_bytes in
      let front : length (take i names) ≡ i = length-take-le i names (omega (arith, inside)) in
      omega (arith, named, texts, front, inside, few)

-- what adding a new name to few sources answers
adds : (ss : SourceList) (n : List ℕ) → is_source n ss ≡ false → length ss < most_sources → added ss n ≡ Ok (ss ++ (n, None) ∷ [])
adds ss n fresh few = rw (fresh, lt-ltb (length ss) most_sources few) refl

pub added_one : (ss new : SourceList) (n : List ℕ) → is_source n ss ≡ false → length ss < most_sources → added ss n ≡ Ok new → new ≡ ss ++ (n, None) ∷ []
added_one ss new n fresh few is =
    let wanted : (let r : Result SourceList SourceFault = Ok new in r) ≡ Ok (ss ++ (n, None) ∷ []) = sym is ∙ adds ss n fresh few in
    cc

pub not_refused : (ss : SourceList) (n : List ℕ) (fault : SourceFault) → is_source n ss ≡ false → length ss < most_sources → fault ≢ WantOfMemory → (fault ≢ WantOfMemory → added ss n ≡ Err fault) → ⊥
not_refused ss n fault fresh few real is =
    let wrong : (let r : Result SourceList SourceFault = Err fault in r) ≡ Ok (ss ++ (n, None) ∷ []) = sym (is real) ∙ adds ss n fresh few in
    absurd (cc)
