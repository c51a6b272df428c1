-- Entries put in the order of their pairs, from the last to the first.
use Rattle.std.proofs.Common.{◌≡◌, List, [], ◌∷◌, ◌++◌, Bool, true, false, ◌||◌, Some, None, is_some, refl, sym, ap, ◌∙◌, append_assoc, append-nil}
use Rattle.std.proofs.lemmas.List.{map-append}
use Rattle.std.specs.BTreeMap.{insert_entry, is_at}
use Rattle.std.specs.List.{list_any}
use Rattle.std.specs.List.Sorted.{IsStrictlySortedBy}
use Rattle.std.specs.Map.{keys_of, lookup}
use Rattle.std.specs.Ordering.{on}
use Rattle.std.specs.declared.cmp.Ordering.{Ordering}
use Rattle.price_core.specs.Pricing.{Pair, is_same_pair, pair_cmp, change_view, entry_view, entries_view}
use Rattle.price_core.specs.Request.{stands_twice, in_order, once_each}
use Rattle.price_core.specs.declared.change.Change.{Change}
use Rattle.price_core.proofs.Changes.{pair_exact, lookup-cmp}
use Rattle.price_core.proofs.Inserts.{insert-seen, lookup-seen, rise_seen, found-insert}

-- some of the entries are put in order, the others are still to come
pub record IsSorting {X : Type 0} (whole rest ordered : List (Change × X)) : Type 0 where
  pub done : List (Change × X)
  pub parts : whole ≡ rest ++ done
  pub order : entries_view ordered ≡ in_order (entries_view done)
  pub once : stands_twice (keys_of (entries_view done)) ≡ false

abbrev pub change_cmp : Change → Change → Ordering
change_cmp = on change_view pair_cmp

pub rise_view : {X : Type 0} (es : List (Change × X)) → IsStrictlySortedBy change_cmp (keys_of es) → IsStrictlySortedBy pair_cmp (keys_of (entries_view es))
rise_view es h = rise_seen change_view pair_cmp es h

found-in_order : {X : Type 0} (p : Pair) (es : List (Pair × X)) → is_some (lookup (is_same_pair p) (in_order es)) ≡ list_any (is_same_pair p) (keys_of es)
found-in_order p [] = refl
found-in_order p (e ∷ es) = found-insert pair_cmp pair_exact (is_same_pair p) (in_order es) e.0 e.1 ∙ ap (λ x. is_same_pair p e.0 || x) (found-in_order p es)

twice-append : {X : Type 0} (es fs : List (Pair × X)) → stands_twice (keys_of fs) ≡ true → stands_twice (keys_of (es ++ fs)) ≡ true
twice-append [] fs h = h
twice-append (e ∷ es) fs h = ap (λ x. list_any (is_same_pair e.0) (keys_of (es ++ fs)) || x) (twice-append es fs h) ∙ or_true (list_any (is_same_pair e.0) (keys_of (es ++ fs)))
  where
    or_true : (b : Bool) → (b || true) ≡ true
    or_true true = refl
    or_true false = refl

-- ---- one more entry

-- whether the pair stands among those that are put in order
seen : {X : Type 0} (whole rest ordered : List (Change × X)) (k : Change) → (s : IsSorting whole rest ordered) → is_some (lookup (is_at (change_cmp k)) ordered) ≡ list_any (is_same_pair (change_view k)) (keys_of (entries_view s.done))
seen whole rest ordered k s = ap is_some (lookup-seen change_view pair_cmp k ordered ∙ (lookup-cmp (change_view k) (entries_view ordered) ∙ ap (lookup (is_same_pair (change_view k))) s.order)) ∙ found-in_order (change_view k) (entries_view s.done)

pub sorting_none : {X : Type 0} (whole : List (Change × X)) → IsSorting whole whole []
sorting_none whole = record { done = []; parts = sym (append-nil whole); order = refl; once = refl }

pub sorting_more : {X : Type 0} (whole rest left ordered more : List (Change × X)) (k : Change) (x : X) → IsSorting whole rest ordered → rest ≡ left ++ (k, x) ∷ [] → more ≡ insert_entry change_cmp ordered k x → lookup (is_at (change_cmp k)) ordered ≡ None → IsSorting whole left more
sorting_more whole rest left ordered more k x s last is new = record {
  done = (k, x) ∷ s.done;
  parts = s.parts ∙ (ap (λ es. es ++ s.done) last ∙ append_assoc left ((k, x) ∷ []) s.done);
  order = ap entries_view is ∙ (insert-seen change_view pair_cmp ordered k x ∙ ap (λ es. insert_entry pair_cmp es (change_view k) x) s.order);
  once = rw (sym (seen whole rest ordered k s) ∙ ap is_some new) s.once;
}

pub sorting_twice : {X : Type 0} (whole rest left ordered : List (Change × X)) (k : Change) (x : X) → IsSorting whole rest ordered → rest ≡ left ++ (k, x) ∷ [] → is_some (lookup (is_at (change_cmp k)) ordered) ≡ true → once_each (entries_view whole) ≡ None
sorting_twice whole rest left ordered k x s last old =
    let here : stands_twice (keys_of (entries_view ((k, x) ∷ s.done))) ≡ true = ap (λ b. b || stands_twice (keys_of (entries_view s.done))) (sym (seen whole rest ordered k s) ∙ old) in
    let parts : whole ≡ left ++ (k, x) ∷ s.done = s.parts ∙ (ap (λ es. es ++ s.done) last ∙ append_assoc left ((k, x) ∷ []) s.done) in
    let all : stands_twice (keys_of (entries_view whole)) ≡ true = ap (λ es. stands_twice (keys_of (entries_view es))) parts ∙ (ap (λ es. stands_twice (keys_of es)) (map-append entry_view left ((k, x) ∷ s.done)) ∙ twice-append (entries_view left) (entries_view ((k, x) ∷ s.done)) here) in
    rw all refl

pub sorting_all : {X : Type 0} (whole ordered : List (Change × X)) → IsSorting whole [] ordered → once_each (entries_view whole) ≡ Some (entries_view ordered)
sorting_all whole ordered s = ap (λ es. once_each (entries_view es)) s.parts ∙ rw s.once (ap Some (sym s.order))
