-- The rule that is put at a site is the rule of that site.
use Rattle.std.proofs.Common.{◌≡◌, ℕ, suc, Bool, true, false, cond, ◌==◌, [], ◌∷◌, Option, Some, None, option_map, Result, Ok, refl, sym, ap, ◌∙◌, subst}
use Rattle.std.specs.Option.{IfSome}
use Rattle.bucket_core.specs.Rule.{Entries}
use Rattle.logic_ast.specs.Expression.{Expression, literal, list, operation, fractional, Expressions, no_expressions, expression, By, no_by, by, Buckets, no_buckets, bucket, Bucket, literal_bucket, computed_bucket}
use Rattle.logic_ast.specs.Formed.{is_formed}
use Rattle.logic_ast.specs.Found.{or_else, found, found_in, found_in_by, found_in_buckets, found_in_bucket}
use Rattle.logic_ast.specs.Sites.{Site, site_at, entries_of, literal_buckets, by_lowered, with_entries, all_with_entries, by_with_entries, buckets_with_entries, bucket_with_entries, if_site, if_entries, parts_at}
use Rattle.logic_ast.specs.declared.fault.LogicFault.{LogicFault}
use Rattle.logic_ast.proofs.Places.{found-at}

-- where a site is found, it has these buckets
abbrev HasBuckets : Entries → Option Site → Type 0
HasBuckets r o = IfSome o (λ s. s.buckets ≡ literal_buckets r)

either : (r : Entries) (x y : Option Site) → HasBuckets r x → HasBuckets r y → HasBuckets r (or_else x y)
either r None y h g = g
either r (Some s) y h g = h

pick : (b : Bool) (n m : ℕ) (r : Entries) (c d : By) (bs : Buckets) → (m == n) ≡ b → HasBuckets r (or_else (found_in_by n d) (found_in_buckets n bs))
    → HasBuckets r (found n (cond b (fractional m c (literal_buckets r)) (fractional m d bs)))
pick true n m r c d bs e h = rw e refl
pick false n m r c d bs e h = rw e h

mutual
  found-with : (n : ℕ) (r : Entries) (e : Expression) → HasBuckets r (found n (with_entries n r e))
  found-with n r (literal t) = tt
  found-with n r (list es) = found_in-with n r es
  found-with n r (operation o es) = found_in-with n r es
  found-with n r (fractional m b bs) =
      pick (m == n) n m r b (by_with_entries n r b) (buckets_with_entries n r bs) refl
      (either r (found_in_by n (by_with_entries n r b)) (found_in_buckets n (buckets_with_entries n r bs)) (found_in_by-with n r b) (found_in_buckets-with n r bs))

  found_in-with : (n : ℕ) (r : Entries) (es : Expressions) → HasBuckets r (found_in n (all_with_entries n r es))
  found_in-with n r no_expressions = tt
  found_in-with n r (expression e es) = either r (found n (with_entries n r e)) (found_in n (all_with_entries n r es)) (found-with n r e) (found_in-with n r es)

  found_in_by-with : (n : ℕ) (r : Entries) (b : By) → HasBuckets r (found_in_by n (by_with_entries n r b))
  found_in_by-with n r no_by = tt
  found_in_by-with n r (by e) = found-with n r e

  found_in_buckets-with : (n : ℕ) (r : Entries) (bs : Buckets) → HasBuckets r (found_in_buckets n (buckets_with_entries n r bs))
  found_in_buckets-with n r no_buckets = tt
  found_in_buckets-with n r (bucket b bs) =
      either r (found_in_bucket n (bucket_with_entries n r b)) (found_in_buckets n (buckets_with_entries n r bs)) (found_in_bucket-with n r b) (found_in_buckets-with n r bs)

  found_in_bucket-with : (n : ℕ) (r : Entries) (b : Bucket) → HasBuckets r (found_in_bucket n (bucket_with_entries n r b))
  found_in_bucket-with n r (literal_bucket name weight) = tt
  found_in_bucket-with n r (computed_bucket name weight) = either r (found n (with_entries n r name)) (found n (with_entries n r weight)) (found-with n r name) (found-with n r weight)

entries-again : (r : Entries) → entries_of (literal_buckets r) ≡ Some r
entries-again [] = refl
entries-again (e ∷ es) = ap (option_map (λ rest. (e.0, e.1) ∷ rest)) (entries-again es)

-- the entries of a site that was given some
pub parts_again : (n : ℕ) (r : Entries) (e : Expression) (parts : By × Entries) → is_formed 0 (with_entries n r e) ≡ true → parts_at n (with_entries n r e) ≡ Ok parts → parts.1 ≡ r
parts_again n r e parts formed is = go (site_at n (with_entries n r e)) (subst (HasBuckets r) (found-at n (with_entries n r e) formed) (found-with n r e)) is
  where
    of_entries : (o : Option Entries) (b : By) → o ≡ Some r → (let x : Result (By × Entries) LogicFault = if_entries o (λ q. (b, q)) in x) ≡ Ok parts → parts.1 ≡ r
    of_entries None b all h = cc
    of_entries (Some q) b all h =
        let one : (b, q) ≡ parts = cc in
        let two : q ≡ r = cc in
        ap (λ (p : By × Entries). p.1) (sym one) ∙ two

    go : (o : Option Site) → HasBuckets r o → (let x : Result (By × Entries) LogicFault = if_site o (λ s. if_entries (entries_of s.buckets) (λ q. (by_lowered (suc n) s.bucketing, q))) in x) ≡ Ok parts → parts.1 ≡ r
    go None has h = absurd (cc)
    go (Some s) has h = of_entries (entries_of s.buckets) (by_lowered (suc n) s.bucketing) (ap entries_of has ∙ entries-again r) h
