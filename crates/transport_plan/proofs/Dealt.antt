-- Numbers that are dealt out to points, whose names stand in their places then.
use Rattle.std.proofs.Common.{◌≡◌, ◌==◌, ℕ, zero, suc, ◌+◌, ◌-◌, ◌*◌, ◌<◌, ◌≤◌, List, [], ◌∷◌, ◌++◌, length, take, drop, get_or, set, sum, sum_by, count_by, cond, refl, sym, ap, ◌∙◌, subst, arith, append_assoc, length-append}
use Rattle.std.proofs.lemmas.Bool.{eq-eqb}
use Rattle.std.proofs.lemmas.List.{append-nil, drop-drop, drop-set-lt, get_or-drop, length-set, length-take, take_all, take_more_set}
use Rattle.std.proofs.lemmas.List.Elements.{All-nil, All-append, All-replicate}
use Rattle.std.proofs.lemmas.List.Folds.{sum_by-replicate}
use Rattle.std.proofs.lemmas.List.Sums.{sum_by-cons, sum_by-append, sum_by-take-le, count_by_more_yes}
use Rattle.std.specs.List.{All, zip}
use Rattle.transport_plan.specs.Dealing.{row, IsTally, IsDealt, DealsTo}
use Rattle.transport_plan.proofs.Numbers.{row_less, tally_less, of_all, of_group}

-- ---- points of one group

-- none
pub deals_none : (width g i : ℕ) (numbers points : List ℕ) → DealsTo width g i i numbers numbers points points
deals_none width g i numbers points = record {
  dealt = [];
  front = sym (append-nil (take i points));
  back = refl;
  long = refl;
  many = omega arith;
  named = All-nil (λ w. w < width);
  shape = refl;
  spent = omega arith;
  tallies = λ groups tally counts is shape group. omega arith;
}

-- some, and then others
pub deals_both : (width g i j k : ℕ) (first second third before between after : List ℕ) → DealsTo width g i j first second before between → DealsTo width g j k second third between after → DealsTo width g i k first third before after
deals_both width g i j k first second third before between after a b =
    let m = length b.dealt in
    let behind : (xs : List ℕ) → drop k xs ≡ drop m (drop j xs) = λ xs. ap (λ n. drop n xs) (sym b.many) ∙ sym (drop-drop m j xs) in
    record {
      dealt = a.dealt ++ b.dealt;
      front = b.front ∙ (ap (λ xs. xs ++ b.dealt) a.front ∙ append_assoc (take i before) a.dealt b.dealt);
      back = b.back ∙ (behind between ∙ (ap (drop m) a.back ∙ sym (behind before)));
      long = b.long ∙ a.long;
      many = omega (arith, length-append a.dealt b.dealt, a.many, b.many);
      named = All-append (λ w. w < width) a.dealt b.dealt a.named b.named;
      shape = b.shape ∙ a.shape;
      spent = omega (arith, a.spent, b.spent, length-append a.dealt b.dealt);
      tallies = λ groups tally counts is shape group.
          omega (arith, a.tallies groups tally counts is shape group, b.tallies groups tally counts is (a.shape ∙ shape) group, sum_by-append (counts g) a.dealt b.dealt);
    }

-- one
pub deals_name : (width g w i : ℕ) (numbers points : List ℕ) → w < width → i < length points → 0 < get_or numbers (g * width + w) 0
    → DealsTo width g i (i + 1) numbers (set numbers (g * width + w) (get_or numbers (g * width + w) 0 - 1)) points (set points i w)
deals_name width g w i numbers points within inside some = record {
  dealt = w ∷ [];
  front = take_more_set points i w inside;
  back = drop-set-lt (i + 1) points i w (omega arith);
  long = length-set points i w;
  many = omega arith;
  named = All-replicate (λ v. v < width) 1 w within;
  shape = length-set numbers (g * width + w) (get_or numbers (g * width + w) 0 - 1);
  spent = omega (arith, row_less width numbers g w 1 within (omega (arith, some)));
  tallies = λ groups tally counts is shape group. omega (arith, tally_less groups width tally counts numbers g w 1 is shape group within (omega (arith, some)), sum_by-replicate (counts g) 1 w);
}

-- ---- points beside the names that they are given

none_zipped : (f : ℕ × ℕ → ℕ) (points : List ℕ) → sum_by f (zip points []) ≡ 0
none_zipped f [] = refl
none_zipped f (p ∷ points) = refl

sum_zip_more : (counts : ℕ → ℕ → ℕ) (points items xs : List ℕ) (g : ℕ) → length items + length xs ≤ length points → ((q : ℕ) → q < length xs → get_or points (length items + q) 0 ≡ g)
    → sum_by (λ (e : ℕ × ℕ). counts e.0 e.1) (zip points (items ++ xs)) ≡ sum_by (λ (e : ℕ × ℕ). counts e.0 e.1) (zip points items) + sum_by (counts g) xs
sum_zip_more counts points [] [] g room same = omega arith
sum_zip_more counts [] [] (x ∷ xs) g room same = absurd (omega arith)
sum_zip_more counts (p ∷ points) [] (x ∷ xs) g room same =
    let rest = sum_zip_more counts points [] xs g (omega arith) (λ q below. let e : suc (0 + q) ≡ 0 + suc q = omega arith in ap (λ k. get_or (p ∷ points) k 0) e ∙ same (suc q) (omega (arith, below))) in
    let here : counts p x ≡ counts g x = ap (λ h. counts h x) (same 0 (omega arith)) in
    omega (arith, sum_by-cons (λ (e : ℕ × ℕ). counts e.0 e.1) (p, x) (zip points xs), sum_by-cons (counts g) x xs, rest, here, none_zipped (λ (e : ℕ × ℕ). counts e.0 e.1) points)
sum_zip_more counts [] (i ∷ items) xs g room same = absurd (omega arith)
sum_zip_more counts (p ∷ points) (i ∷ items) xs g room same =
    let rest = sum_zip_more counts points items xs g (omega arith) (λ q below. let e : suc (length items + q) ≡ length (i ∷ items) + q = omega arith in ap (λ k. get_or (p ∷ points) k 0) e ∙ same q below) in
    omega (arith, sum_by-cons (λ (e : ℕ × ℕ). counts e.0 e.1) (p, i) (zip points (items ++ xs)), sum_by-cons (λ (e : ℕ × ℕ). counts e.0 e.1) (p, i) (zip points items), rest)

sum_zip_points : (f : ℕ → ℕ) (points items : List ℕ) → length items ≤ length points → sum_by (λ e. f e.0) (zip points items) ≡ sum_by f (take (length items) points)
sum_zip_points f [] [] few = refl
sum_zip_points f [] (i ∷ items) few = absurd (omega arith)
sum_zip_points f (p ∷ points) [] few = refl
sum_zip_points f (p ∷ points) (i ∷ items) few = omega (arith, sum_by-cons (λ (e : ℕ × ℕ). f e.0) (p, i) (zip points items), sum_by-cons f p (take (length items) points), sum_zip_points f points items (omega arith))

sum_of_ones : (xs : List ℕ) → sum_by (λ (x : ℕ). 1) xs ≡ length xs
sum_of_ones [] = refl
sum_of_ones (x ∷ xs) = omega (arith, sum_by-cons (λ (y : ℕ). 1) x xs, sum_of_ones xs)

-- so many points in a row are of the group
count_more : (points : List ℕ) (g i n : ℕ) → i + n ≤ length points → ((q : ℕ) → q < n → get_or points (i + q) 0 ≡ g) → count_by (λ p. p == g) (take (i + n) points) ≡ count_by (λ p. p == g) (take i points) + n
count_more points g i zero room same = let e : i + 0 ≡ i = omega arith in ap (λ k. count_by (λ p. p == g) (take k points)) e ∙ omega arith
count_more points g i (suc n) room same =
    let before = count_more points g i n (omega (arith, room)) (λ q below. same q (omega (arith, below))) in
    let yes = count_by_more_yes (λ p. p == g) points (i + n) 0 (omega (arith, room)) (eq-eqb (get_or points (i + n) 0) g (same n (omega arith))) in
    let e : i + suc n ≡ i + n + 1 = omega arith in
    omega (arith, ap (λ k. count_by (λ p. p == g) (take k points)) e, yes, before)

-- ---- the loop

-- what holds when the points before this one were dealt, whose names stand in their places
pub record Deals (groups width : ℕ) (numbers points left : List ℕ) (i : ℕ) (now : List ℕ) : Type 0 where
  pub within : i ≤ length points
  pub long : length now ≡ length points
  pub ahead : drop i now ≡ drop i points
  pub shape : length left ≡ groups * width
  pub named : All (λ w. w < width) (take i now)
  pub tallies : (tally : List ℕ → ℕ) (counts : ℕ → ℕ → ℕ) → IsTally groups width tally counts → tally numbers ≡ tally left + sum_by (λ e. counts e.0 e.1) (zip points (take i now))

pub none_dealt : (groups width : ℕ) (numbers points : List ℕ) → length numbers ≡ groups * width → Deals groups width numbers points numbers 0 points
none_dealt groups width numbers points shape = record {
  within = omega arith;
  long = refl;
  ahead = refl;
  shape = shape;
  named = All-nil (λ w. w < width);
  tallies = λ tally counts is. omega (arith, none_zipped (λ e. counts e.0 e.1) points);
}

module _ (groups width : ℕ) (numbers points left : List ℕ) (i : ℕ) (now : List ℕ) (before : Deals groups width numbers points left i now) where
  done : length (take i now) ≡ i
  done = omega (arith, length-take i now, before.long, before.within)

  -- the points ahead are as they were
  pub point_ahead : (q : ℕ) → get_or (drop i now) q 0 ≡ get_or points (i + q) 0
  point_ahead q = ap (λ xs. get_or xs q 0) before.ahead ∙ get_or-drop i points q 0

  pub next_is : get_or now i 0 ≡ get_or points i 0
  next_is =
      let e : i + 0 ≡ i = omega arith in
      sym (ap (λ k. get_or now k 0) e) ∙ (sym (get_or-drop i now 0 0) ∙ (point_ahead 0 ∙ ap (λ k. get_or points k 0) e))

  pub next_below : All (λ g. g < groups) points → i < length now → get_or now i 0 < groups
  next_below all inside = omega (arith, next_is, all i 0 (omega (arith, before.long, inside)))

  module _ (g n : ℕ) (group : g < groups) (room : i + n ≤ length points) (same : (q : ℕ) → q < n → get_or (drop i now) q 0 ≡ g) where
    are : (q : ℕ) → q < n → get_or points (i + q) 0 ≡ g
    are q below = sym (point_ahead q) ∙ same q below

    -- the group of the next points has as many left
    pub group_has : sum (row width numbers g) ≡ count_by (λ p. p == g) points → n ≤ sum (row width left g)
    group_has all =
        let so_far = before.tallies (λ xs. sum (row width xs g)) (λ h w. cond (h == g) 1 0) (of_group groups width g) in
        let counted = sum_zip_points (λ h. cond (h == g) 1 0) points (take i now) (omega (arith, done, before.within)) in
        let front : sum_by (λ p. cond (p == g) 1 0) (take (length (take i now)) points) ≡ sum_by (λ p. cond (p == g) 1 0) (take i points) = ap (λ k. sum_by (λ p. cond (p == g) 1 0) (take k points)) done in
        let more = count_more points g i n room are in
        let most = sum_by-take-le (λ p. cond (p == g) 1 0) points (i + n) in
        omega (arith, so_far, counted, front, more, most, all)

    pub deals_more : (left' now' : List ℕ) → DealsTo width g i (i + n) left left' now now' → Deals groups width numbers points left' (i + n) now'
    deals_more left' now' to =
        let many : length to.dealt ≡ n = omega (arith, to.many) in
        let behind : (xs : List ℕ) → drop (i + n) xs ≡ drop n (drop i xs) = λ xs. sym (drop-drop n i xs) in
        record {
          within = room;
          long = to.long ∙ before.long;
          ahead = to.back ∙ (behind now ∙ (ap (drop n) before.ahead ∙ sym (behind points)));
          shape = to.shape ∙ before.shape;
          named = subst (λ xs. All (λ w. w < width) xs) (sym to.front) (All-append (λ w. w < width) (take i now) to.dealt before.named to.named);
          tallies = λ tally counts is.
              let so_far = before.tallies tally counts is in
              let here = to.tallies groups tally counts is before.shape group in
              let zipped = sum_zip_more counts points (take i now) to.dealt g (omega (arith, done, room, many)) (λ q below. ap (λ k. get_or points (k + q) 0) done ∙ are q (omega (arith, below, many))) in
              let grown : sum_by (λ (e : ℕ × ℕ). counts e.0 e.1) (zip points (take (i + n) now')) ≡ sum_by (λ (e : ℕ × ℕ). counts e.0 e.1) (zip points (take i now ++ to.dealt)) = ap (λ xs. sum_by (λ (e : ℕ × ℕ). counts e.0 e.1) (zip points xs)) to.front in
              omega (arith, so_far, here, zipped, grown);
        }

-- all are dealt
pub all_dealt : (groups width : ℕ) (numbers points left : List ℕ) (i : ℕ) (now : List ℕ) → Deals groups width numbers points left i now → length points ≤ i → sum numbers ≡ length points → IsDealt groups width numbers points now
all_dealt groups width numbers points left i now deals all whole =
    let names : take i now ≡ now = take_all i now (omega (arith, deals.long, all)) in
    λ tally counts is.
    let counted = deals.tallies sum (λ g w. 1) (of_all groups width) in
    let ones = sum_zip_points (λ h. 1) points (take i now) (omega (arith, ap length names, deals.long)) in
    let many = sum_of_ones (take (length (take i now)) points) in
    let front : length (take (length (take i now)) points) ≡ length points = omega (arith, length-take (length (take i now)) points, ap length names, deals.long) in
    let nothing : sum left ≡ 0 = omega (arith, counted, ones, many, front, whole) in
    let dealt : sum_by (λ (e : ℕ × ℕ). counts e.0 e.1) (zip points (take i now)) ≡ sum_by (λ (e : ℕ × ℕ). counts e.0 e.1) (zip points now) = ap (λ xs. sum_by (λ (e : ℕ × ℕ). counts e.0 e.1) (zip points xs)) names in
    omega (arith, deals.tallies tally counts is, is.none left nothing, dealt)
