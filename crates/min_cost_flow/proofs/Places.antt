-- A part of a list that is written anew.
use Rattle.std.proofs.Common.{◌≡◌, ℕ, ◌+◌, ◌-◌, ◌<◌, ◌≤◌, List, ◌++◌, length, length-take, take, drop, get_or, ap, ◌∙◌, arith}
use Rattle.std.proofs.lemmas.List.{get_or-take, get_or-drop, get_or_append_left, get_or-append_right}
use borrow.Rule.Slice.PartMut.{put_mid, post_of}

module _ {X : Type 0} (a k : ℕ) (xs ys : List X) (d : X) (fits : a + k ≤ length xs) (many : length ys ≡ k) where
  front : length (take a xs) ≡ a
  front = omega (arith, length-take a xs, fits)

  -- before the part
  pub put_before : (i : ℕ) → i < a → get_or (put_mid a k xs ys) i d ≡ get_or xs i d
  put_before i before = get_or_append_left (take a xs) (ys ++ post_of a k xs) d i (omega (arith, before, front)) ∙ get_or-take a xs i d before

  -- in the part
  pub put_inside : (i : ℕ) → i < k → get_or (put_mid a k xs ys) (a + i) d ≡ get_or ys i d
  put_inside i inside =
      get_or-append_right (take a xs) (ys ++ post_of a k xs) a (a + i) d front (omega arith)
      ∙ (ap (λ j. get_or (ys ++ post_of a k xs) j d) (same i) ∙ get_or_append_left ys (post_of a k xs) d i (omega (arith, inside, many)))
    where
      same : (i : ℕ) → (a + i) - a ≡ i
      same i = omega arith

  -- after the part
  pub put_after : (i : ℕ) → a + k ≤ i → get_or (put_mid a k xs ys) i d ≡ get_or xs i d
  put_after i after =
      get_or-append_right (take a xs) (ys ++ post_of a k xs) a i d front (omega (arith, after))
      ∙ (get_or-append_right ys (post_of a k xs) k (i - a) d many (omega (arith, after)) ∙ (get_or-drop k (drop a xs) ((i - a) - k) d ∙ (get_or-drop a xs (k + ((i - a) - k)) d ∙ ap (λ j. get_or xs j d) (same i after))))
    where
      same : (i : ℕ) → a + k ≤ i → a + (k + ((i - a) - k)) ≡ i
      same i after = omega (arith, after)
