-- Numbers of names: one name more, and prices looked up by numbers.
use Rattle.std.proofs.Common.{◌≡◌, ℕ, zero, suc, ◌+◌, ◌<◌, ◌≤◌, ◌==◌, Bool, not, true, false, ◌&&◌, cond, List, [], ◌∷◌, ◌++◌, length, get_or, ◌⊎◌, inl, inr, Option, Some, None, is_some, unwrap_or, map, option_map, option_and_then, drop, add-one, refl, sym, ap, ◌∙◌, arith, String, Global, string_bytes}
use denote.Ref.{Bor}
use Rattle.std.proofs.Math.Seq.{drop-cons}
use Rattle.std.specs.HashMap as hash
use Rattle.std.specs.HashMap.{HashMap, get_by}
use Rattle.std.specs.List.{slice_get, slice_index, list_any}
use Rattle.std.specs.Map.{keys_of, lookup}
use Rattle.std.specs.Str.{bytes_eq}
use Rattle.std.proofs.lemmas.Bool.{and_left, and_right, cases_Bool, cases_lt, cond-true, cond-false, eq-eqb, ne_eqb, false_from_ne_true}
use Rattle.std.proofs.lemmas.Bool.Decides.{same_from_decides, Decides-eqb, Decides-like}
use Rattle.std.proofs.lemmas.List.{length-map, length_push}
use Rattle.std.proofs.lemmas.List.Elements.{All-head, All-tail}
use Rattle.std.proofs.lemmas.Map.Text.{hash_map_updates_str}
use Rattle.std.proofs.lemmas.Option.{same_Some, none-some, slice_get-get_or, slice_get-map, slice_get_read, get_or_from_slice_get}
use Rattle.std.proofs.lemmas.Slice.Eq.{bytes_eq-Decides}
use Rattle.murmur_core.specs.Murmur.{hash as hash_of}
use Rattle.bucket_core.specs.Point.{scale, point_of}
use Rattle.bucket_core.specs.Rule.{AreNamed, Entries, Numbered, all_named, at, choice, entry_name, named, names_view, total_weight}
use Rattle.price_core.specs.Cost.{name_of_input}
use Rattle.price_core.specs.Numbering.{Numbers, numbers_view, number_of, IsNumbering, Keeps, AreFirstNumbers, AreNamesNumbers, AreNumbersOf, is_between, AreBetween, pair_of_numbers, price_between, is_barred_between, IsSwitching}
use Rattle.price_core.specs.Pricing.{Pair, Pricing, is_same_pair, price_of, is_forbidden, change_view, entries_view}
use Rattle.price_core.specs.declared.change.Change.{Change}
use Rattle.price_core.proofs.Pricings.{barred-lookup}

pub number-borrowed : (q : List ℕ) (es : List (Bor (List ℕ) × ℕ)) → lookup (λ (k : Bor (List ℕ)). bytes_eq q k.now) es ≡ number_of (numbers_view es) q
number-borrowed q [] = refl
number-borrowed q (e ∷ es) = ap (λ o. cond (bytes_eq q e.0.now) (Some e.1) o) (number-borrowed q es)

-- ---- equal numbers are of equal names

tells_apart : (ns : Numbers) (x y : List ℕ) (a b : ℕ) → IsNumbering ns → number_of ns x ≡ Some a → number_of ns y ≡ Some b → (a ≡ b → x ≡ y) × (x ≡ y → a ≡ b)
tells_apart ns x y a b n hx hy = (
  λ e. n.apart x y b (hx ∙ ap Some e) hy,
  λ e. same_Some a b (sym hx ∙ (ap (number_of ns) e ∙ hy)),
)

pub same_number : (ns : Numbers) (x y : List ℕ) (a b : ℕ) → IsNumbering ns → number_of ns x ≡ Some a → number_of ns y ≡ Some b → (a == b) ≡ bytes_eq x y
same_number ns x y a b n hx hy = let t = tells_apart ns x y a b n hx hy in same_from_decides (a == b) (bytes_eq x y) (Decides-like (a == b) t.0 t.1 (Decides-eqb a b)) (bytes_eq-Decides x y)

turned_number : (ns : Numbers) (x y : List ℕ) (a b : ℕ) → IsNumbering ns → number_of ns x ≡ Some a → number_of ns y ≡ Some b → (b == a) ≡ bytes_eq x y
turned_number ns x y a b n hx hy =
    let t = tells_apart ns x y a b n hx hy in
    same_from_decides (b == a) (bytes_eq x y) (Decides-like (b == a) (λ e. t.0 (sym e)) (λ e. sym (t.1 e)) (Decides-eqb b a)) (bytes_eq-Decides x y)

-- a name with a number is none of those without
without : (ns : Numbers) (x y : List ℕ) (a : ℕ) → number_of ns x ≡ Some a → number_of ns y ≡ None → bytes_eq x y ≡ false
without ns x y a hx hy = false_from_ne_true (bytes_eq x y) (λ t. none-some a (sym hy ∙ (ap (number_of ns) (sym ((bytes_eq-Decides x y).0 t)) ∙ hx)))

-- ---- one name more

-- the name has the number k, and all others have what they had
abbrev pub Adds : Numbers → List ℕ → ℕ → Numbers → Type 0
Adds before name k after = (q : List ℕ) → number_of after q ≡ cond (bytes_eq name q) (Some k) (number_of before q)

pub adds_inserted : {S : Type 0} (m n : HashMap (Bor (List ℕ)) ℕ S) (before : Numbers) (name : List ℕ) (k : ℕ) → numbers_view m.entries ≡ before → hash.UpdatesBy (λ x y. bytes_eq x.now y.now) (λ x. bytes_eq name x.now) m n (Some k) → Adds before name k (numbers_view n.entries)
adds_inserted m n before name k view updates = λ q.
    sym (number-borrowed q n.entries) ∙ (hash_map_updates_str name m n (Some k) updates q ∙ ap (λ o. cond (bytes_eq name q) (Some k) o) (number-borrowed q m.entries ∙ ap (λ ns. number_of ns q) view))

-- where the number comes from
from : (before after : Numbers) (name : List ℕ) (k : ℕ) → Adds before name k after → (q : List ℕ) (n : ℕ) → number_of after q ≡ Some n → ((name ≡ q) × (k ≡ n)) ⊎ (number_of before q ≡ Some n)
from before after name k adds q n h = by (cases_Bool (bytes_eq name q))
  where
    by : (bytes_eq name q ≡ true) ⊎ (bytes_eq name q ≡ false) → ((name ≡ q) × (k ≡ n)) ⊎ (number_of before q ≡ Some n)
    by (inl t) = inl ((bytes_eq-Decides name q).0 t, same_Some k n (sym (cond-true (bytes_eq name q) (Some k) (number_of before q) t) ∙ (sym (adds q) ∙ h)))
    by (inr f) = inr (sym (cond-false (bytes_eq name q) (Some k) (number_of before q) f) ∙ (sym (adds q) ∙ h))

pub numbering_more : (before after : Numbers) (name : List ℕ) (new : ℕ) → IsNumbering before → new ≡ length before → Adds before name new after → length after ≡ length before + 1 → IsNumbering after
numbering_more before after name new n is adds more = record {
  apart = λ x y k hx hy. both x y k (from before after name new adds x k hx) (from before after name new adds y k hy);
  below = λ x k h. small x k (from before after name new adds x k h);
}
  where
    both : (x y : List ℕ) (k : ℕ) → ((name ≡ x) × (new ≡ k)) ⊎ (number_of before x ≡ Some k) → ((name ≡ y) × (new ≡ k)) ⊎ (number_of before y ≡ Some k) → x ≡ y
    both x y k (inl p) (inl q) = sym p.0 ∙ q.0
    both x y k (inl p) (inr h) = absurd (omega (arith, is, p.1, n.below y k h))
    both x y k (inr h) (inl q) = absurd (omega (arith, is, q.1, n.below x k h))
    both x y k (inr h) (inr g) = n.apart x y k h g

    small : (x : List ℕ) (k : ℕ) → ((name ≡ x) × (new ≡ k)) ⊎ (number_of before x ≡ Some k) → k < length after
    small x k (inl p) = omega (arith, is, p.1, more)
    small x k (inr h) = omega (arith, n.below x k h, more)

pub keeps_more : (before after : Numbers) (name : List ℕ) (k : ℕ) → number_of before name ≡ None → Adds before name k after → Keeps before after
keeps_more before after name k absent adds = λ q n h.
    let apart : bytes_eq name q ≡ false = false_from_ne_true (bytes_eq name q) (λ t. none-some n (sym absent ∙ (ap (number_of before) ((bytes_eq-Decides name q).0 t) ∙ h))) in
    adds q ∙ (cond-false (bytes_eq name q) (Some k) (number_of before q) apart ∙ h)

pub added : (before after : Numbers) (name : List ℕ) (k : ℕ) → Adds before name k after → number_of after name ≡ Some k
added before after name k adds = adds name ∙ cond-true (bytes_eq name name) (Some k) (number_of before name) ((bytes_eq-Decides name name).1 refl)

-- ---- the numbers of entries

slice_get-left : {X : Type 0} (xs ys : List X) (i : ℕ) → i < length xs → slice_get (xs ++ ys) i ≡ slice_get xs i
slice_get-left [] ys i h = absurd (omega arith)
slice_get-left (x ∷ xs) ys zero h = refl
slice_get-left (x ∷ xs) ys (suc i) h = slice_get-left xs ys i (omega arith)

slice_get-last : {X : Type 0} (xs : List X) (y : X) → slice_get (xs ++ y ∷ []) (length xs) ≡ Some y
slice_get-last [] y = refl
slice_get-last (x ∷ xs) y = slice_get-last xs y

pub firsts_more : (before after : Numbers) (names : List (List ℕ)) (numbers : List ℕ) (name : List ℕ) (n : ℕ) → Keeps before after → AreFirstNumbers before names numbers → slice_get names (length numbers) ≡ Some name → number_of after name ≡ Some n → AreFirstNumbers after names (numbers ++ n ∷ [])
firsts_more before after names numbers name n keeps firsts here is = λ i other inside there. by i other there (omega (arith, inside, length_push numbers n)) (cases_lt i (length numbers))
  where
    by : (i : ℕ) (other : List ℕ) → slice_get names i ≡ Some other → i < length numbers + 1 → (i < length numbers) ⊎ (length numbers ≤ i) → number_of after other ≡ slice_get (numbers ++ n ∷ []) i
    by i other there inside (inl h) =
        let read = slice_get-get_or numbers i 0 h in
        keeps other (get_or numbers i 0) (firsts i other h there ∙ read) ∙ (sym read ∙ sym (slice_get-left numbers (n ∷ []) i h))
    by i other there inside (inr h) =
        let last : i ≡ length numbers = omega arith in
        let same : name ≡ other = same_Some name other (sym here ∙ (ap (slice_get names) (sym last) ∙ there)) in
        ap (number_of after) (sym same) ∙ (is ∙ (sym (slice_get-last numbers n) ∙ ap (slice_get (numbers ++ n ∷ [])) (sym last)))

-- a name of the program, read where it stands
pub name_at : (names : List (String Global)) (i : ℕ) (name : String Global) → i < length names → name ≡ get_or names i name → slice_get (names_view names) i ≡ Some (string_bytes name)
name_at names i name h is = slice_get-map string_bytes names i ∙ ap (option_map string_bytes) (slice_get_read names (length names) i name refl h is)

-- the number at the place of an entry's name is that of the name
module _ (ns : Numbers) (names : List (List ℕ)) (numbers : List ℕ) (are : AreNamesNumbers ns names numbers) where
  at_place : (e : ℕ × ℕ) (name : List ℕ) → e.0 < length names → Some (get_or names e.0 []) ≡ Some name → number_of ns name ≡ Some (get_or numbers e.0 0)
  at_place e name inside is =
      let within : e.0 < length numbers = omega (arith, inside, are.as_many) in
      are.firsts e.0 name within (slice_get-get_or names e.0 [] inside ∙ is) ∙ slice_get-get_or numbers e.0 0 within

  each_place : (es : Numbered) (i : ℕ) (name : List ℕ) → AreNamed names es → i < length es → entry_name (all_named names es) i ≡ Some name
      → number_of ns name ≡ slice_get (map (λ (e : ℕ × ℕ). slice_index numbers e.0) es) i
  each_place [] i name all inside is = absurd (omega arith)
  each_place (e ∷ es) zero name all inside is = at_place e name (All-head (λ (e : ℕ × ℕ). e.0 < length names) e es all) is
  each_place (e ∷ es) (suc i) name all inside is = each_place es i name (All-tail (λ (e : ℕ × ℕ). e.0 < length names) e es all) (omega arith) is

  pub numbers_spread : (es : Numbered) → AreNamed names es → AreNumbersOf ns (all_named names es) (map (λ (e : ℕ × ℕ). slice_index numbers e.0) es)
  numbers_spread es all = record {
    as_many = length-map es (λ (e : ℕ × ℕ). slice_index numbers e.0) ∙ sym (length-map es (named names));
    each = λ i name inside is. each_place es i name all (omega (arith, inside, length-map es (λ (e : ℕ × ℕ). slice_index numbers e.0))) is;
  }

pub numbers_kept : (before after : Numbers) (r : Entries) (numbers : List ℕ) → Keeps before after → AreNumbersOf before r numbers → AreNumbersOf after r numbers
numbers_kept before after r numbers keeps are = record {
  as_many = are.as_many;
  each = λ i name inside here. let read = slice_get-get_or numbers i 0 inside in keeps name (get_or numbers i 0) (are.each i name inside here ∙ read) ∙ sym read;
}

-- ---- what is said of changes, by numbers

-- both names have their numbers
both : (o q : Option ℕ) (a b : ℕ) → option_and_then {U = ℕ × ℕ} (λ x. option_map (λ y. (x, y)) q) o ≡ Some (a, b) → (o ≡ Some a) × (q ≡ Some b)
both None q a b h = absurd (none-some (a, b) h)
both (Some x) None a b h = absurd (none-some (a, b) h)
both (Some x) (Some y) a b h = let same = same_Some (x, y) (a, b) h in ((λ i. Some (same i).0), (λ i. Some (same i).1))

neither : (o q : Option ℕ) → option_and_then {U = ℕ × ℕ} (λ x. option_map (λ y. (x, y)) q) o ≡ None → (o ≡ None) ⊎ (q ≡ None)
neither None q h = inl refl
neither (Some x) None h = inr refl
neither (Some x) (Some y) h = absurd (none-some (x, y) (sym h))

pub found_more : {X S : Type 0} (ns : Numbers) (rest : List (Pair × X)) (m m' : HashMap (ℕ × ℕ) X S) (p : Pair) (said : X) (pair : ℕ × ℕ) → IsNumbering ns → pair_of_numbers ns p ≡ Some pair
    → ((q : ℕ × ℕ) → get_by (is_between q.0 q.1) m' ≡ cond (is_between pair.0 pair.1 q) (Some said) (get_by (is_between q.0 q.1) m)) → AreBetween ns rest m → AreBetween ns ((p, said) ∷ rest) m'
found_more ns rest m m' p said pair n has updates are = λ x y a b hx hy.
    let numbers = both (number_of ns p.0) (number_of ns p.1) pair.0 pair.1 has in
    let same : is_between pair.0 pair.1 (a, b) ≡ is_same_pair (x, y) p = λ i. turned_number ns x p.0 a pair.0 n hx numbers.0 i && turned_number ns y p.1 b pair.1 n hy numbers.1 i in
    updates (a, b) ∙ ((λ i. cond (same i) (Some said) (get_by (is_between a b) m)) ∙ ap (λ o. cond (is_same_pair (x, y) p) (Some said) o) (are x y a b hx hy))

pub found_none : {X S : Type 0} (ns : Numbers) (rest : List (Pair × X)) (m : HashMap (ℕ × ℕ) X S) (p : Pair) (said : X) → pair_of_numbers ns p ≡ None → AreBetween ns rest m → AreBetween ns ((p, said) ∷ rest) m
found_none ns rest m p said none are = λ x y a b hx hy. are x y a b hx hy ∙ sym (cond-false (is_same_pair (x, y) p) (Some said) (lookup (is_same_pair (x, y)) rest) (other x y a b hx hy (neither (number_of ns p.0) (number_of ns p.1) none)))
  where
    other : (x y : List ℕ) (a b : ℕ) → number_of ns x ≡ Some a → number_of ns y ≡ Some b → (number_of ns p.0 ≡ None) ⊎ (number_of ns p.1 ≡ None) → is_same_pair (x, y) p ≡ false
    other x y a b hx hy (inl h) = and_left (bytes_eq x p.0) (bytes_eq y p.1) (without ns x p.0 a hx h)
    other x y a b hx hy (inr h) = and_right (bytes_eq x p.0) (bytes_eq y p.1) (without ns y p.1 b hy h)

-- the last entries, with the one before them
pub one_before : {X : Type 0} (es : List (Change × X)) (left i : ℕ) (e : Change × X) → left ≡ i + 1 → i < length es → e ≡ get_or es i e → entries_view (drop i es) ≡ (change_view e.0, e.1) ∷ entries_view (drop left es)
one_before es left i e next inside is =
    let front : drop i es ≡ e ∷ drop (i + 1) es = rw add-one (drop-cons es i e inside ∙ ap (λ x. x ∷ drop (suc i) es) (sym is)) in
    ap entries_view front ∙ ap (λ n. (change_view e.0, e.1) ∷ entries_view (drop n es)) (sym next)

-- ---- what an entry's number stands for

number_at : (ns : Numbers) (r : Entries) (numbers : List ℕ) (i : ℕ) (name : List ℕ) → AreNumbersOf ns r numbers → entry_name r i ≡ Some name → i < length r → number_of ns name ≡ Some (get_or numbers i 0)
number_at ns r numbers i name are here inside =
    let within : i < length numbers = omega (arith, inside, are.as_many) in
    are.each i name within here ∙ slice_get-get_or numbers i 0 within

pub named_within : (r : Entries) (i : ℕ) (name : List ℕ) → entry_name r i ≡ Some name → i < length r
named_within [] i name h = absurd (none-some name h)
named_within (e ∷ es) zero name h = omega arith
named_within (e ∷ es) (suc i) name h = omega (arith, named_within es i name h)

pub switching_of : {S : Type 0} (ns : Numbers) (old new : Entries) (pricing : Pricing) (froms tos : List ℕ) (m : HashMap (ℕ × ℕ) ℕ S) (barred : HashMap (ℕ × ℕ) (Unit {0}) S) (bars : List (Pair × Unit {0})) → IsNumbering ns → AreNumbersOf ns old froms
    → AreNumbersOf ns new tos → AreBetween ns pricing.named m → AreBetween ns bars barred → keys_of bars ≡ pricing.barred → IsSwitching old new pricing froms tos m barred
switching_of ns old new pricing froms tos m barred bars n are_old are_new priced bars_at are_barred = record {
  old_many = are_old.as_many;
  new_many = are_new.as_many;
  priced = λ i j x y hi hj.
      let a = get_or froms i 0 in
      let b = get_or tos j 0 in
      let hx = number_at ns old froms i x are_old hi (named_within old i x hi) in
      let hy = number_at ns new tos j y are_new hj (named_within new j y hj) in
      (λ k. cond (same_number ns x y a b n hx hy k) 0 (unwrap_or (priced x y a b hx hy k) pricing.usual));
  forbids = λ i j x y hi hj.
      let a = get_or froms i 0 in
      let b = get_or tos j 0 in
      let hx = number_at ns old froms i x are_old hi (named_within old i x hi) in
      let hy = number_at ns new tos j y are_new hj (named_within new j y hj) in
      let listed = ap is_some (bars_at x y a b hx hy) ∙ (barred-lookup (x, y) bars ∙ ap (list_any (is_same_pair (x, y))) are_barred) in
      (λ k. not (same_number ns x y a b n hx hy k) && listed k);
}

-- ---- the price that is found

pub same_price : {S : Type 0} (usual : ℕ) (m : HashMap (ℕ × ℕ) ℕ S) (a b : ℕ) → a ≡ b → 0 ≡ price_between usual m a b
same_price usual m a b h = sym (cond-true (a == b) 0 (unwrap_or (get_by (is_between a b) m) usual) (eq-eqb a b h))

pub other_price : {S : Type 0} (usual : ℕ) (m : HashMap (ℕ × ℕ) ℕ S) (a b : ℕ) → (a ≡ b → ⊥) → unwrap_or (get_by (is_between a b) m) usual ≡ price_between usual m a b
other_price usual m a b h = sym (cond-false (a == b) 0 (unwrap_or (get_by (is_between a b) m) usual) (ne_eqb a b h))

-- no change between equal numbers is forbidden
pub same_bar : {S : Type 0} (m : HashMap (ℕ × ℕ) (Unit {0}) S) (a b : ℕ) → not (a == b) ≡ false → not (a == b) ≡ is_barred_between m a b
same_bar m a b h = h ∙ sym (ap (λ t. t && is_some (get_by (is_between a b) m)) h)

pub other_bar : {S : Type 0} (m : HashMap (ℕ × ℕ) (Unit {0}) S) (a b : ℕ) → not (a == b) ≡ true → is_some (get_by (is_between a b) m) ≡ is_barred_between m a b
other_bar m a b h = sym (ap (λ t. t && is_some (get_by (is_between a b) m)) h)

pub read_at : (numbers : List ℕ) (i n : ℕ) → i < length numbers → n ≡ get_or numbers i n → n ≡ get_or numbers i 0
read_at numbers i n h is = sym (get_or_from_slice_get numbers i n 0 (slice_get_read numbers (length numbers) i n refl h is))

-- an old rule, a new one, and prices
abbrev pub Rules : Type 0
Rules = Entries × Entries × Pricing

pub price_found : {S : Type 0} (old new : Entries) (pricing : Pricing) (froms tos : List ℕ) (m : HashMap (ℕ × ℕ) ℕ S) (barred : HashMap (ℕ × ℕ) (Unit {0}) S) (whole : Rules) (i j a b price : ℕ) → IsSwitching old new pricing froms tos m barred → (old, new, pricing) ≡ whole
    → a ≡ get_or froms i 0 → b ≡ get_or tos j 0 → price ≡ price_between pricing.usual m a b → (x y : List ℕ) → entry_name whole.0 i ≡ Some x → entry_name whole.1 j ≡ Some y → price ≡ price_of whole.2 x y
price_found old new pricing froms tos m barred whole i j a b price switching is at_i at_j price_is = λ x y hx hy.
    let here = ap (λ (w : Rules). entry_name w.0 i) is ∙ hx in
    let there = ap (λ (w : Rules). entry_name w.1 j) is ∙ hy in
    price_is ∙ ((λ k. price_between pricing.usual m (at_i k) (at_j k)) ∙ (switching.priced i j x y here there ∙ ap (λ (w : Rules). price_of w.2 x y) is))

pub bar_found : {S : Type 0} (old new : Entries) (pricing : Pricing) (froms tos : List ℕ) (m : HashMap (ℕ × ℕ) ℕ S) (barred : HashMap (ℕ × ℕ) (Unit {0}) S) (whole : Rules) (i j a b : ℕ) (found : Bool) → IsSwitching old new pricing froms tos m barred
    → (old, new, pricing) ≡ whole → a ≡ get_or froms i 0 → b ≡ get_or tos j 0 → found ≡ is_barred_between barred a b → (x y : List ℕ) → entry_name whole.0 i ≡ Some x → entry_name whole.1 j ≡ Some y → found ≡ is_forbidden whole.2 x y
bar_found old new pricing froms tos m barred whole i j a b found switching is at_i at_j found_is = λ x y hx hy.
    let here = ap (λ (w : Rules). entry_name w.0 i) is ∙ hx in
    let there = ap (λ (w : Rules). entry_name w.1 j) is ∙ hy in
    found_is ∙ ((λ k. is_barred_between barred (at_i k) (at_j k)) ∙ (switching.forbids i j x y here there ∙ ap (λ (w : Rules). is_forbidden w.2 x y) is))

-- ---- the entry that an input falls into

pub chosen : (r : Entries) (i : ℕ) (input : List ℕ) → i < length r → choice r input ≡ entry_name r i → entry_name r i ≡ Some (name_of_input r input)
chosen r i input h is = by (slice_get-get_or r i ([], 0) h)
  where
    by : slice_get r i ≡ Some (get_or r i ([], 0)) → entry_name r i ≡ Some (name_of_input r input)
    by read =
        let here : entry_name r i ≡ Some (get_or r i ([], 0)).0 = ap (option_map (λ (e : List ℕ × ℕ). e.0)) read in
        here ∙ ap (λ (o : Option (List ℕ)). Some (unwrap_or o [])) (sym (is ∙ here))

pub choice_at : (r : Entries) (input : List ℕ) (total h p : ℕ) → total ≡ total_weight r → h ≡ hash_of input 0 → p ≡ scale total h → choice r input ≡ at r p
unfolding point_of
choice_at r input total h p of_total of_hash is = ap (at r) (sym (is ∙ (λ i. scale (of_total i) (of_hash i))))
