-- An expression whose site has other entries refers to no evaluator where it did not before.
use Rattle.std.proofs.Common.{◌≡◌, ℕ, List, [], ◌∷◌, codes, Bool, true, false, not, ◌||◌, cond, ◌==◌, Option, None, Some, Ok, refl}
use Rattle.bucket_core.specs.Rule.{Entries}
use Rattle.flag_text.specs.Shape.{Items}
use Rattle.flag_text.proofs.Bools.{both, left, right, or_left, or_right}
use Rattle.logic_ast.specs.Expression.{Expression, literal, list, operation, fractional, Expressions, no_expressions, expression, By, no_by, by, Buckets, no_buckets, bucket, literal_bucket, computed_bucket}
use Rattle.logic_ast.specs.Formed.{is_well_formed}
use Rattle.logic_ast.specs.Operator.{operator_name}
use Rattle.logic_ast.specs.Sites.{with_entries, all_with_entries, by_with_entries, buckets_with_entries, literal_buckets, Site, site_at, entries_of, if_site, if_entries, replaced}
use Rattle.logic_ast.specs.Writing.{applied, written, all_written, by_written, buckets_written, bucket_written}
use Rattle.flag_defs.specs.Definition.{Rules, are_variants}
use Rattle.flag_references.specs.Inlining.{has_reference, items_have_reference}
use Rattle.flag_defs.specs.Rules.{has_members, is_targeting, is_default, are_rules}

pub neither : (a b : Bool) → a ≡ false → b ≡ false → (a || b) ≡ false
neither a b p q = rw (p, q) refl

pub not_false : (a : Bool) → a ≡ false → not a ≡ true
not_false a h = rw h refl

pub false_of_not : (a : Bool) → not a ≡ true → a ≡ false
false_of_not true h = cc
false_of_not false h = refl

-- an operation refers to none where its arguments do not: they are written as a list
pub inside : (name : List ℕ) (args : Items) → has_reference (applied name args) ≡ false → items_have_reference args ≡ false
inside name args h = or_left (items_have_reference args) false h

pub outside : (name : List ℕ) (args : Items) → items_have_reference args ≡ false → has_reference (applied name args) ≡ false
outside name args h = neither (items_have_reference args) false h refl

pub literal_unreferred : (r : Entries) → items_have_reference (buckets_written (literal_buckets r)) ≡ false
literal_unreferred [] = refl
literal_unreferred (e ∷ es) = literal_unreferred es

behind : (b : By) (bs : Items) → items_have_reference (by_written b bs) ≡ false → items_have_reference bs ≡ false
behind no_by bs h = h
behind (by e) bs h = or_right (has_reference (written e)) _ h

in_front : (b : By) (bs cs : Items) → items_have_reference (by_written b bs) ≡ false → items_have_reference cs ≡ false → items_have_reference (by_written b cs) ≡ false
in_front no_by bs cs h g = g
in_front (by e) bs cs h g = neither (has_reference (written e)) _ (or_left (has_reference (written e)) _ h) g

either : (c : Bool) (a b : Expression) → has_reference (written a) ≡ false → has_reference (written b) ≡ false → has_reference (written (cond c a b)) ≡ false
either true a b p q = p
either false a b p q = q

mutual
  pub unreferred : (n : ℕ) (r : Entries) (e : Expression) → has_reference (written e) ≡ false → has_reference (written (with_entries n r e)) ≡ false
  unreferred n r (literal t) h = h
  unreferred n r (list es) h = all_unreferred n r es h
  unreferred n r (operation o es) h = outside (operator_name o) (all_written (all_with_entries n r es)) (all_unreferred n r es (inside (operator_name o) (all_written es) h))
  unreferred n r (fractional m b bs) h =
      let args = inside (codes "fractional") (by_written b (buckets_written bs)) h in
      either (m == n) (fractional m b (literal_buckets r)) (fractional m (by_with_entries n r b) (buckets_with_entries n r bs))
      (outside (codes "fractional") (by_written b (buckets_written (literal_buckets r))) (in_front b (buckets_written bs) (buckets_written (literal_buckets r)) args (literal_unreferred r)))
      (outside (codes "fractional") (by_written (by_with_entries n r b) (buckets_written (buckets_with_entries n r bs))) (by_unreferred n r b (buckets_written bs) (buckets_written (buckets_with_entries n r bs)) args (buckets_unreferred n r bs (behind b (buckets_written bs) args))))

  all_unreferred : (n : ℕ) (r : Entries) (es : Expressions) → items_have_reference (all_written es) ≡ false → items_have_reference (all_written (all_with_entries n r es)) ≡ false
  all_unreferred n r no_expressions h = refl
  all_unreferred n r (expression e es) h =
      neither (has_reference (written (with_entries n r e))) _ (unreferred n r e (or_left (has_reference (written e)) _ h)) (all_unreferred n r es (or_right (has_reference (written e)) _ h))

  by_unreferred : (n : ℕ) (r : Entries) (b : By) (bs cs : Items) → items_have_reference (by_written b bs) ≡ false → items_have_reference cs ≡ false
      → items_have_reference (by_written (by_with_entries n r b) cs) ≡ false
  by_unreferred n r no_by bs cs h g = g
  by_unreferred n r (by e) bs cs h g = neither (has_reference (written (with_entries n r e))) _ (unreferred n r e (or_left (has_reference (written e)) _ h)) g

  buckets_unreferred : (n : ℕ) (r : Entries) (bs : Buckets) → items_have_reference (buckets_written bs) ≡ false → items_have_reference (buckets_written (buckets_with_entries n r bs)) ≡ false
  buckets_unreferred n r no_buckets h = refl
  buckets_unreferred n r (bucket (literal_bucket name weight) bs) h = buckets_unreferred n r bs h
  buckets_unreferred n r (bucket (computed_bucket name weight) bs) h =
      let parts = or_left (has_reference (bucket_written (computed_bucket name weight))) _ h in
      let rest = or_right (has_reference (bucket_written (computed_bucket name weight))) _ h in
      let weights = or_right (has_reference (written name)) _ parts in
      neither (has_reference (bucket_written (computed_bucket (with_entries n r name) (with_entries n r weight)))) _
      (neither (has_reference (written (with_entries n r name))) _ (unreferred n r name (or_left (has_reference (written name)) _ parts))
      (neither (has_reference (written (with_entries n r weight))) false (unreferred n r weight (or_left (has_reference (written weight)) false weights)) refl))
      (buckets_unreferred n r bs rest)

either_object : (c : Bool) (a b : Expression) → has_members (written a) ≡ true → has_members (written b) ≡ true → has_members (written (cond c a b)) ≡ true
either_object true a b p q = p
either_object false a b p q = q

-- it stays an object that is not empty
stays_object : (n : ℕ) (r : Entries) (e : Expression) → has_members (written e) ≡ true → has_members (written (with_entries n r e)) ≡ true
stays_object n r (literal t) h = h
stays_object n r (list es) h = h
stays_object n r (operation o es) h = refl
stays_object n r (fractional m b bs) h = either_object (m == n) (fractional m b (literal_buckets r)) (fractional m (by_with_entries n r b) (buckets_with_entries n r bs)) refl refl

-- with other entries at a site a targeting is one
pub targeting_with : (n : ℕ) (r : Entries) (e : Expression) → is_well_formed (with_entries n r e) ≡ true → is_targeting e ≡ true → is_targeting (with_entries n r e) ≡ true
targeting_with n r e w h =
    let object = right (is_well_formed e) _ h in
    let clear = false_of_not (has_reference (written e)) (right (has_members (written e)) _ object) in
    both (is_well_formed (with_entries n r e)) _ w
    (both (has_members (written (with_entries n r e))) _ (stays_object n r e (left (has_members (written e)) _ object)) (not_false (has_reference (written (with_entries n r e))) (unreferred n r e clear)))

pub rules_with : (r : Rules) (e : Expression) → are_rules r ≡ true → is_targeting e ≡ true → are_rules (record r { targeting = Some e }) ≡ true
rules_with r e h t =
    let rest = right (are_variants r.variants) _ h in
    both (are_variants r.variants) _ (left (are_variants r.variants) _ h) (both (is_default r.variants r.default_variant) _ (left (is_default r.variants r.default_variant) _ rest) t)

if_entries_is : {A : Type 0} (o : Option Entries) (x d : A) → if_entries o (λ _. x) ≡ Ok d → d ≡ x
if_entries_is None x d h = cc
if_entries_is (Some r) x d h = cc

if_site_is : (o : Option Site) (n : ℕ) (r : Entries) (e d : Expression) → if_site o (λ s. if_entries (entries_of s.buckets) (λ _. with_entries n r e)) ≡ Ok d → d ≡ with_entries n r e
if_site_is None n r e d h = cc
if_site_is (Some s) n r e d h = if_entries_is (entries_of s.buckets) (with_entries n r e) d h

-- what replacing gives
pub replaced_is : (n : ℕ) (r : Entries) (e d : Expression) → replaced n r e ≡ Ok d → d ≡ with_entries n r e
replaced_is n r e d h = if_site_is (site_at n e) n r e d h
