-- The cumulative weights of sites, bucket by bucket and site by site.
use Rattle.std.proofs.Common.{◌≡◌, ℕ, suc, ◌+◌, ◌^◌, ◌<◌, ◌≤◌, List, [], ◌∷◌, ◌++◌, append_assoc, append-nil, length, get_or, drop, drop-cons, add-one, map, Bool, true, false, ltb-true, ltb-false, lt-ltb, le-ltb, Option, Some, None, option_map, option_and_then, Vec, Global, refl, sym, ap, ◌∙◌, subst, arith}
use Rattle.std.specs.Prelude.{nat_lt, Result, Ok, Err, OnOk, if◌then◌else◌}
use Rattle.std.specs.List.{All}
use Rattle.std.proofs.lemmas.List.{drop_all, map-append, length_push}
use Rattle.std.proofs.lemmas.List.Elements.{All-nil, All-cons}
use Rattle.bucket_core.specs.Rule.{Entries, total_weight, ends_from}
use Rattle.bucket_core.proofs.Points.{total_weight-cons}
use Rattle.logic_ast.specs.Ends.{ends_of_entries, ends_of, site_ends, all_ends, HasEnds, ends_view}
use Rattle.logic_ast.specs.Expression.{Expression, fractional, By, Buckets, no_buckets, bucket, literal_bucket, computed_bucket}
use Rattle.logic_ast.specs.Formed.{is_formed, is_well_formed}
use Rattle.logic_ast.specs.Sites.{Site, preorder, preorder_in_by, preorder_in_buckets, entries_of}
use Rattle.logic_ast.specs.Summing.{next_end, ends_after, after_ends}
use Rattle.logic_ast.specs.View.{bucket_view, buckets_view}
use Rattle.logic_ast.specs.declared.node.Bucket.{Bucket as BucketOf}
use Rattle.logic_ast.specs.declared.node.Node.{Node}
use Rattle.logic_ast.proofs.Numbered.{are_numbered, number-first, numbered-preorder, numbered-rest}
use Rattle.logic_ast.proofs.Written.{left}

-- ---- one after another, they are those of the entries

-- those of entries after a sum, where that with theirs is less than 2^31
light : ℕ → Option Entries → Option (List ℕ)
light end None = None
light end (Some r) = if nat_lt (end + total_weight r) (2 ^ 31) then Some (ends_from end r) else None

-- one more before them, where there are any
one_before : (b : Bool) (x : ℕ) (xs : List ℕ) → option_map (λ ends. x ∷ ends) (if b then Some xs else None) ≡ (if b then Some (x ∷ xs) else None)
one_before true x xs = refl
one_before false x xs = refl

light-cons : (end : ℕ) (e : List ℕ × ℕ) (o : Option Entries) → option_map (λ ends. (end + e.1) ∷ ends) (light (end + e.1) o) ≡ light end (option_map (λ es. e ∷ es) o)
unfolding light ends_from
light-cons end e None = refl
light-cons end e (Some r) =
    let same : end + e.1 + total_weight r ≡ end + total_weight (e ∷ r) = omega (arith, total_weight-cons e r) in
    one_before (nat_lt (end + e.1 + total_weight r) (2 ^ 31)) (end + e.1) (ends_from (end + e.1) r)
    ∙ ap (λ n. if nat_lt n (2 ^ 31) then Some ((end + e.1) ∷ ends_from (end + e.1) r) else None) same

light-over : (end : ℕ) (e : List ℕ × ℕ) (o : Option Entries) → 2 ^ 31 ≤ end + e.1 → None ≡ light end (option_map (λ es. e ∷ es) o)
unfolding light
light-over end e None h = refl
light-over end e (Some r) h =
    let over : nat_lt (end + total_weight (e ∷ r)) (2 ^ 31) ≡ false = le-ltb _ _ (omega (arith, total_weight-cons e r, h)) in
    rw over refl

as_light : (end : ℕ) (bs : Buckets) → end < 2 ^ 31 → ends_after end bs ≡ light end (entries_of bs)
unfolding light ends_from
as_light end no_buckets h =
    let same : end + 0 ≡ end = omega arith in
    let below : nat_lt end (2 ^ 31) ≡ true = lt-ltb _ _ h in
    rw (same, below) refl
as_light end (bucket (literal_bucket name weight) bs) h = by (nat_lt (end + weight) (2 ^ 31)) refl (as_light (end + weight) bs)
  where
    by : (b : Bool) → nat_lt (end + weight) (2 ^ 31) ≡ b → (end + weight < 2 ^ 31 → ends_after (end + weight) bs ≡ light (end + weight) (entries_of bs))
        → option_and_then (λ next. option_map (λ ends. next ∷ ends) (ends_after next bs)) (if b then Some (end + weight) else None) ≡ light end (option_map (λ es. (name, weight) ∷ es) (entries_of bs))
    by true t rest = ap (option_map (λ ends. (end + weight) ∷ ends)) (rest (ltb-true _ _ t)) ∙ light-cons end (name, weight) (entries_of bs)
    by false t rest = light-over end (name, weight) (entries_of bs) (ltb-false _ _ t)
as_light end (bucket (computed_bucket name weight) bs) h = refl

-- no sum is none before them
from_nothing : (b : Bool) (xs : List ℕ) → (if b then xs else []) ≡ after_ends [] (if b then Some xs else None)
from_nothing true xs = refl
from_nothing false xs = refl

from_light : (o : Option Entries) → ends_of_entries o ≡ after_ends [] (light 0 o)
unfolding light
from_light None = refl
from_light (Some r) =
    let same : total_weight r ≡ 0 + total_weight r = omega arith in
    from_nothing (nat_lt (total_weight r) (2 ^ 31)) (ends_from 0 r) ∙ ap (λ n. after_ends [] (if nat_lt n (2 ^ 31) then Some (ends_from 0 r) else None)) same

pub ends_start : (bs : Buckets) → ends_of bs ≡ after_ends [] (ends_after 0 bs)
ends_start bs = from_light (entries_of bs) ∙ ap (after_ends []) (sym (as_light 0 bs (omega arith)))

-- ---- the loop over buckets

-- those that come after one more
more : (before : List ℕ) (next : ℕ) (o : Option (List ℕ)) → after_ends before (option_map (λ ends. next ∷ ends) o) ≡ after_ends (before ++ next ∷ []) o
more before next None = refl
more before next (Some ends) = sym (append_assoc before (next ∷ []) ends)

module _ (xs : List (BucketOf Node)) (i : ℕ) (x : BucketOf Node) (within : i < length xs) (is : x ≡ get_or xs i x) where
  cut : buckets_view (drop i xs) ≡ bucket (bucket_view x) (buckets_view (drop (i + 1) xs))
  cut = rw add-one (ap buckets_view (drop-cons xs i x within ∙ ap (λ y. y ∷ drop (suc i) xs) (sym is)))

  pub ends_next : (before : List ℕ) (end next : ℕ) → Some next ≡ next_end end (bucket_view x)
      → after_ends before (ends_after end (buckets_view (drop i xs))) ≡ after_ends (before ++ next ∷ []) (ends_after next (buckets_view (drop (i + 1) xs)))
  ends_next before end next h = rw (cut, ← h) (more before next (ends_after next (buckets_view (drop (i + 1) xs))))

  pub ends_none : (before : List ℕ) (end : ℕ) → None ≡ next_end end (bucket_view x) → after_ends before (ends_after end (buckets_view (drop i xs))) ≡ []
  ends_none before end h = rw (cut, ← h) refl

pub ends_all : (xs : List (BucketOf Node)) (i : ℕ) (before : List ℕ) (end : ℕ) → length xs ≤ i → after_ends before (ends_after end (buckets_view (drop i xs))) ≡ before
ends_all xs i before end h = rw (drop_all i xs h) (append-nil before)

-- ---- the sum after one more bucket

pub end_below : (end weight : ℕ) → end + weight < 2 ^ 31 → Some (end + weight) ≡ (if nat_lt (end + weight) (2 ^ 31) then Some (end + weight) else None)
end_below end weight h = let t : nat_lt (end + weight) (2 ^ 31) ≡ true = lt-ltb _ _ h in rw t refl

pub end_above : (end weight : ℕ) → 2 ^ 31 ≤ end + weight → None ≡ (if nat_lt (end + weight) (2 ^ 31) then Some (end + weight) else None)
end_above end weight h = let t : nat_lt (end + weight) (2 ^ 31) ≡ false = le-ltb _ _ h in rw t refl

-- ---- the sites of a node

pub visited : (old first second third : List (Vec ℕ Global)) (x : Vec ℕ Global) (e : Expression) (n : ℕ) (b : By) (bs : Buckets) → first ≡ old ++ x ∷ [] → x.items ≡ ends_of bs
    → ends_view second ≡ ends_view first ++ map site_ends (preorder_in_by b) → ends_view third ≡ ends_view second ++ map site_ends (preorder_in_buckets bs)
    → e ≡ fractional n b bs → ends_view third ≡ ends_view old ++ map site_ends (preorder e)
visited old first second third x e n b bs pushed own inside after is =
    let front = ends_view old in
    let middle = map site_ends (preorder_in_by b) in
    let back = map site_ends (preorder_in_buckets bs) in
    after ∙ ap (λ l. l ++ back) (inside ∙ ap (λ l. l ++ middle) (ap ends_view pushed ∙ map-append (λ (v : Vec ℕ Global). v.items) old (x ∷ []) ∙ ap (λ v. front ++ v ∷ []) own))
    ∙ append_assoc (front ++ ends_of bs ∷ []) middle back ∙ append_assoc front (ends_of bs ∷ []) (middle ++ back)
    ∙ sym (ap (λ l. front ++ ends_of bs ∷ l) (map-append site_ends (preorder_in_by b) (preorder_in_buckets bs))) ∙ sym (ap (λ y. front ++ map site_ends (preorder y)) is)

-- ---- by the numbers of the sites

stands : (front : List (List ℕ)) (x : List ℕ) (rest : List (List ℕ)) → get_or (front ++ x ∷ rest) (length front) [] ≡ x
stands [] x rest = refl
stands (y ∷ ys) x rest = stands ys x rest

numbered_ends : (k : ℕ) (front : List (List ℕ)) (ss : List Site) → k ≡ length front → are_numbered k ss ≡ true → All (HasEnds (front ++ map site_ends ss)) ss
numbered_ends k front [] long h = All-nil (HasEnds (front ++ []))
numbered_ends k front (s ∷ ss) long h =
    let table = front ++ site_ends s ∷ map site_ends ss in
    let place : s.number ≡ length front = number-first k s ss h ∙ long in
    let own : HasEnds table s = ap (λ n. get_or table n []) place ∙ stands front (site_ends s) (map site_ends ss) in
    let longer : suc k ≡ length (front ++ site_ends s ∷ []) = omega (arith, long, length_push front (site_ends s)) in
    let rest = numbered_ends (suc k) (front ++ site_ends s ∷ []) ss longer (numbered-rest k s ss h) in
    All-cons (HasEnds table) s ss own (subst (λ t. All (HasEnds t) ss) (append_assoc front (site_ends s ∷ []) (map site_ends ss)) rest)

pub has_ends : (e : Expression) (table : List (List ℕ)) → table ≡ all_ends e → is_well_formed e ≡ true → All (HasEnds table) (preorder e)
has_ends e table is formed = subst (λ t. All (HasEnds t) (preorder e)) (sym is) (numbered_ends 0 [] (preorder e) refl (numbered-preorder 0 e (left (is_formed 0 e) _ formed)))

-- ---- results

pub on_ok : {X E : Type 0} (r : Result X E) (P Q : Type 0) → (P → Q) → OnOk r P → OnOk r Q
on_ok (Ok x) P Q f p = f p
on_ok (Err e) P Q f p = p
