-- A value whose numbers are whole is one of those that may have others.
use Rattle.std.proofs.Common.{◌≡◌, true, refl}
use Rattle.flag_text.specs.Shape.{Shape, null, boolean, whole, other, text, list, object, Items, no_items, item, Members, no_members, member, comes_first, is_whole, items_are_whole, members_are_whole, is_tidy, items_are_tidy, members_are_tidy}
use Rattle.flag_text.proofs.Bools.{both, left, right}

mutual
  pub tidy_whole : (t : Shape) → is_whole t ≡ true → is_tidy t ≡ true
  tidy_whole null h = refl
  tidy_whole (boolean b) h = refl
  tidy_whole (whole n) h = h
  tidy_whole other h = refl
  tidy_whole (text s) h = refl
  tidy_whole (list ts) h = items_tidy_whole ts h
  tidy_whole (object ms) h = members_tidy_whole ms h

  items_tidy_whole : (ts : Items) → items_are_whole ts ≡ true → items_are_tidy ts ≡ true
  items_tidy_whole no_items h = refl
  items_tidy_whole (item t ts) h = both (is_tidy t) _ (tidy_whole t (left (is_whole t) _ h)) (items_tidy_whole ts (right (is_whole t) _ h))

  members_tidy_whole : (ms : Members) → members_are_whole ms ≡ true → members_are_tidy ms ≡ true
  members_tidy_whole no_members h = refl
  members_tidy_whole (member k t ms) h =
      both (comes_first k ms) _ (left (comes_first k ms) _ h)
      (both (is_tidy t) _ (tidy_whole t (left (is_whole t) _ (right (comes_first k ms) _ h))) (members_tidy_whole ms (right (is_whole t) _ (right (comes_first k ms) _ h))))
