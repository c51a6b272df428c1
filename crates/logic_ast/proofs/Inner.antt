-- The bucketing expression of a site is formed, with the numbers after the site's, and no larger than the whole.
use Rattle.std.proofs.Common.{◌≡◌, ℕ, suc, ◌+◌, ◌<◌, ◌≤◌, ◌^◌, Bool, true, false, not, ◌==◌, nat_lt, zero, cond, List, [], ◌∷◌, length, Option, Some, None, option_map, Ok, Err, refl, sym, ap, ap₂, ◌∙◌, subst, arith}
use Rattle.std.specs.List.{slice_get}
use Rattle.std.specs.Option.{IfSome}
use Rattle.std.proofs.lemmas.Grind.{common_steps}
use Rattle.bucket_core.specs.Rule.{Entries}
use Rattle.flag_text.specs.Shape.{Items}
use Rattle.logic_ast.specs.Expression.{Expression, literal, list, operation, fractional, Expressions, no_expressions, expression, By, no_by, by, Buckets, no_buckets, bucket, Bucket, literal_bucket, computed_bucket}
use Rattle.logic_ast.specs.Formed.{is_list, expression_count, are_literals, is_formed, are_formed, by_is_formed, buckets_are_formed, bucket_is_formed, is_well_formed}
use Rattle.logic_ast.specs.Found.{or_else, found, found_in, found_in_by, found_in_buckets, found_in_bucket}
use Rattle.logic_ast.specs.Operator.{takes}
use Rattle.logic_ast.specs.Parts.{site_parts}
use Rattle.logic_ast.specs.Sites.{Site, sites, sites_in_by, sites_in_bucket, preorder, site_at, entries_of, lowered, by_lowered, with_entries, if_site, if_entries, parts_at, replaced}
use Rattle.logic_ast.specs.Size.{Size, nothing, beside, around, expression_size, expressions_size, buckets_size, is_over, is_too_big}
use Rattle.logic_ast.specs.Writing.{written, all_written, by_written, buckets_written, by_text, by_text_at}
use Rattle.logic_ast.specs.declared.fault.LogicFault.{LogicFault}
use Rattle.logic_ast.specs.declared.fault.LogicFault.TheVariants.{NoSite}
use Rattle.logic_ast.proofs.Lowered.{is_formed-lowered, written-lowered}
use Rattle.logic_ast.proofs.Measured.{buckets_size-other, fractional-size}
use Rattle.logic_ast.proofs.Numbered.{length-preorder}
use Rattle.logic_ast.proofs.Operators.{is_fractional-operator_name}
use Rattle.logic_ast.proofs.Places.{found-at}
use Rattle.logic_ast.proofs.Replaced.{computed-same}
use Rattle.logic_ast.proofs.WellFormed.{sites-small}
use Rattle.logic_ast.proofs.Written.{left, right, both, not-true, written-no_list}

-- ---- formed

abbrev pub IsFormedAfter : ℕ → Option Site → Type 0
IsFormedAfter n o = IfSome o (λ s. by_is_formed (suc n) s.bucketing ≡ true)

or-formed : (n : ℕ) (x y : Option Site) → IsFormedAfter n x → IsFormedAfter n y → IsFormedAfter n (or_else x y)
or-formed n None y h g = g
or-formed n (Some s) y h g = h

equal : (a b c : ℕ) → (a == c) ≡ true → (a == b) ≡ true → b ≡ c
equal a b c h g = grind (arith, common_steps, h, g)

pick-formed : (b : Bool) (n k m : ℕ) (c : By) (bs : Buckets) (o : Option Site) → (m == n) ≡ b → (m == k) ≡ true → by_is_formed (suc k) c ≡ true → IsFormedAfter n o
    → IsFormedAfter n (cond b (Some (record { number = m; bucketing = c; buckets = bs })) o)
pick-formed true n k m c bs o e f h g = let P : ℕ → Type 0 = λ j. by_is_formed (suc j) c ≡ true in subst P (equal m k n e f) h
pick-formed false n k m c bs o e f h g = g

mutual
  pub found-formed : (n k : ℕ) (e : Expression) → is_formed k e ≡ true → IsFormedAfter n (found n e)
  found-formed n k (literal t) h = tt
  found-formed n k (list es) h = found_in-formed n k es h
  found-formed n k (operation o es) h = found_in-formed n k es (right (takes o (expression_count es)) _ h)
  found-formed n k (fractional m b bs) h =
      let rest = right (m == k) _ h in
      pick-formed (m == n) n k m b bs (or_else (found_in_by n b) (found_in_buckets n bs)) refl (left (m == k) _ h) (left (by_is_formed (suc k) b) _ rest)
      (or-formed n (found_in_by n b) (found_in_buckets n bs) (found_in_by-formed n (suc k) b (left (by_is_formed (suc k) b) _ rest))
      (found_in_buckets-formed n (suc k + sites_in_by b) bs (right (by_is_formed (suc k) b) _ rest)))

  found_in-formed : (n k : ℕ) (es : Expressions) → are_formed k es ≡ true → IsFormedAfter n (found_in n es)
  found_in-formed n k no_expressions h = tt
  found_in-formed n k (expression e es) h =
      or-formed n (found n e) (found_in n es) (found-formed n k e (left (is_formed k e) _ h)) (found_in-formed n (k + sites e) es (right (is_formed k e) _ h))

  found_in_by-formed : (n k : ℕ) (b : By) → by_is_formed k b ≡ true → IsFormedAfter n (found_in_by n b)
  found_in_by-formed n k no_by h = tt
  found_in_by-formed n k (by e) h = found-formed n k e (right (not (is_list e)) _ h)

  found_in_buckets-formed : (n k : ℕ) (bs : Buckets) → buckets_are_formed k bs ≡ true → IsFormedAfter n (found_in_buckets n bs)
  found_in_buckets-formed n k no_buckets h = tt
  found_in_buckets-formed n k (bucket b bs) h =
      or-formed n (found_in_bucket n b) (found_in_buckets n bs) (found_in_bucket-formed n k b (left (bucket_is_formed k b) _ h)) (found_in_buckets-formed n (k + sites_in_bucket b) bs (right (bucket_is_formed k b) _ h))

  found_in_bucket-formed : (n k : ℕ) (b : Bucket) → bucket_is_formed k b ≡ true → IsFormedAfter n (found_in_bucket n b)
  found_in_bucket-formed n k (literal_bucket name weight) h = tt
  found_in_bucket-formed n k (computed_bucket name weight) h =
      let parts = right (not (are_literals name weight)) _ h in
      or-formed n (found n name) (found n weight) (found-formed n k name (left (is_formed k name) _ parts)) (found-formed n (k + sites name) weight (right (is_formed k name) _ parts))

-- ---- no larger

pub record IsWithin (small large : Size) : Type 0 where
  pub nodes : small.nodes ≤ large.nodes
  pub levels : small.levels ≤ large.levels

-- of the bucketing expression alone
abbrev pub by_size : By → Size
by_size no_by = nothing
by_size (by e) = expression_size (written e)

abbrev pub Fits : Size → Option Site → Type 0
Fits s o = IfSome o (λ x. IsWithin (by_size x.bucketing) s)

grown : (s t : Size) (o : Option Site) → s.nodes ≤ t.nodes → s.levels ≤ t.levels → Fits s o → Fits t o
grown s t None n l h = tt
grown s t (Some x) n l h = record { nodes = omega (arith, n, h.nodes); levels = omega (arith, l, h.levels) }

or-fits : (s : Size) (x y : Option Site) → Fits s x → Fits s y → Fits s (or_else x y)
or-fits s None y h g = g
or-fits s (Some z) y h g = h

pick-fits : (b : Bool) (m : ℕ) (c : By) (bs : Buckets) (s : Size) (o : Option Site) → IsWithin (by_size c) s → Fits s o → Fits s (cond b (Some (record { number = m; bucketing = c; buckets = bs })) o)
pick-fits true m c bs s o h g = h
pick-fits false m c bs s o h g = g

-- the bucketing expression, and the buckets, within both
by-within : (k : ℕ) (b : By) (rest : Items) → by_is_formed k b ≡ true → IsWithin (by_size b) (buckets_size (by_written b rest))
by-within k no_by rest h = record { nodes = omega arith; levels = omega arith }
by-within k (by e) rest h =
    let is = buckets_size-other (written e) rest (written-no_list k e (left (not (is_list e)) _ h) (right (not (is_list e)) _ h)) in
    let W : Size → Type 0 = λ s. IsWithin (expression_size (written e)) s in
    subst W (sym is) (record { nodes = omega arith; levels = omega arith })

rest-within : (k : ℕ) (b : By) (rest : Items) → by_is_formed k b ≡ true → IsWithin (buckets_size rest) (buckets_size (by_written b rest))
rest-within k no_by rest h = record { nodes = omega arith; levels = omega arith }
rest-within k (by e) rest h =
    let is = buckets_size-other (written e) rest (written-no_list k e (left (not (is_list e)) _ h) (right (not (is_list e)) _ h)) in
    let W : Size → Type 0 = λ s. IsWithin (buckets_size rest) s in
    subst W (sym is) (record { nodes = omega arith; levels = omega arith })

mutual
  pub found-fits : (n k : ℕ) (e : Expression) → is_formed k e ≡ true → Fits (expression_size (written e)) (found n e)
  found-fits n k (literal t) h = tt
  found-fits n k (list es) h = grown (expressions_size (all_written es)) _ (found_in n es) (omega arith) (omega arith) (found_in-fits n k es h)
  found-fits n k (operation o es) h =
      let s = expressions_size (all_written es) in
      let is : expression_size (written (operation o es)) ≡ around (around s) = rw (is_fractional-operator_name o) refl in
      subst (λ x. Fits x (found_in n es)) (sym is) (grown s (around (around s)) (found_in n es) (omega arith) (omega arith) (found_in-fits n k es (right (takes o (expression_count es)) _ h)))
  found-fits n k (fractional m b bs) h =
      let rest = right (m == k) _ h in
      let formed = left (by_is_formed (suc k) b) _ rest in
      let s = buckets_size (by_written b (buckets_written bs)) in
      let in-by = by-within (suc k) b (buckets_written bs) formed in
      let in-rest = rest-within (suc k) b (buckets_written bs) formed in
      subst (λ x. Fits x (found n (fractional m b bs))) (sym (fractional-size m b bs s refl))
      (grown s (around (around s)) (found n (fractional m b bs)) (omega arith) (omega arith)
      (pick-fits (m == n) m b bs s (or_else (found_in_by n b) (found_in_buckets n bs)) in-by
      (or-fits s (found_in_by n b) (found_in_buckets n bs) (grown (by_size b) s (found_in_by n b) in-by.nodes in-by.levels (found_in_by-fits n (suc k) b formed))
      (grown (buckets_size (buckets_written bs)) s (found_in_buckets n bs) in-rest.nodes in-rest.levels (found_in_buckets-fits n (suc k + sites_in_by b) bs (right (by_is_formed (suc k) b) _ rest))))))

  found_in-fits : (n k : ℕ) (es : Expressions) → are_formed k es ≡ true → Fits (expressions_size (all_written es)) (found_in n es)
  found_in-fits n k no_expressions h = tt
  found_in-fits n k (expression e es) h =
      let s = beside (expression_size (written e)) (expressions_size (all_written es)) in
      or-fits s (found n e) (found_in n es) (grown (expression_size (written e)) s (found n e) (omega arith) (omega arith) (found-fits n k e (left (is_formed k e) _ h)))
      (grown (expressions_size (all_written es)) s (found_in n es) (omega arith) (omega arith) (found_in-fits n (k + sites e) es (right (is_formed k e) _ h)))

  found_in_by-fits : (n k : ℕ) (b : By) → by_is_formed k b ≡ true → Fits (by_size b) (found_in_by n b)
  found_in_by-fits n k no_by h = tt
  found_in_by-fits n k (by e) h = found-fits n k e (right (not (is_list e)) _ h)

  found_in_buckets-fits : (n k : ℕ) (bs : Buckets) → buckets_are_formed k bs ≡ true → Fits (buckets_size (buckets_written bs)) (found_in_buckets n bs)
  found_in_buckets-fits n k no_buckets h = tt
  found_in_buckets-fits n k (bucket (literal_bucket name weight) bs) h =
      grown (buckets_size (buckets_written bs)) _ (found_in_buckets n bs) (omega arith) (omega arith) (found_in_buckets-fits n (k + 0) bs (right (nat_lt weight (2 ^ 31)) _ h))
  found_in_buckets-fits n k (bucket (computed_bucket name weight) bs) h =
      let formed = left (bucket_is_formed k (computed_bucket name weight)) _ h in
      let parts = right (not (are_literals name weight)) _ formed in
      let other = not-true _ (left (not (are_literals name weight)) _ formed) in
      let x = expression_size (written name) in
      let y = expression_size (written weight) in
      let z = buckets_size (buckets_written bs) in
      let s = beside (around (beside x (beside y nothing))) z in
      subst (λ a. Fits a (found_in_buckets n (bucket (computed_bucket name weight) bs))) (sym (computed-same name weight name weight (buckets_written bs) z other other refl refl refl))
      (or-fits s (or_else (found n name) (found n weight)) (found_in_buckets n bs)
      (or-fits s (found n name) (found n weight) (grown x s (found n name) (omega arith) (omega arith) (found-fits n k name (left (is_formed k name) _ parts)))
      (grown y s (found n weight) (omega arith) (omega arith) (found-fits n (k + sites name) weight (right (is_formed k name) _ parts))))
      (grown z s (found_in_buckets n bs) (omega arith) (omega arith) (found_in_buckets-fits n (k + (sites name + sites weight)) bs (right (bucket_is_formed k (computed_bucket name weight)) _ h))))

-- ---- what a search by number says

no-parts : (o : Option Site) → option_map site_parts o ≡ None → o ≡ None
no-parts None h = refl
no-parts (Some s) h = cc

pub at-none : (n : ℕ) (e : Expression) → is_formed 0 e ≡ true → option_map site_parts (found n e) ≡ None → site_at n e ≡ None
at-none n e f h = sym (found-at n e f) ∙ no-parts (found n e) h

the-parts : (o : Option Site) (b : By) (bs : Buckets) → option_map site_parts o ≡ Some (b, bs) → (m : ℕ) × (o ≡ Some (record { number = m; bucketing = b; buckets = bs }))
the-parts None b bs h = cc
the-parts (Some s) b bs h =
    let same : site_parts s ≡ (b, bs) = cc in
    let x = ap (λ (p : By × Buckets). p.0) same in
    let y = ap (λ (p : By × Buckets). p.1) same in
    (s.number, ap₂ (λ c cs. Some (record { number = s.number; bucketing = c; buckets = cs })) x y)

pub at-some : (n : ℕ) (e : Expression) (b : By) (bs : Buckets) → is_formed 0 e ≡ true → option_map site_parts (found n e) ≡ Some (b, bs)
    → (m : ℕ) × (site_at n e ≡ Some (record { number = m; bucketing = b; buckets = bs }))
at-some n e b bs f h = let p = the-parts (found n e) b bs h in (p.0, sym (found-at n e f) ∙ p.1)

pub by-formed : (n : ℕ) (e : Expression) (b : By) (bs : Buckets) → is_formed 0 e ≡ true → option_map site_parts (found n e) ≡ Some (b, bs) → by_is_formed (suc n) b ≡ true
by-formed n e b bs f h =
    let p = the-parts (found n e) b bs h in
    let P : Option Site → Type 0 = λ o. IsFormedAfter n o in
    subst P p.1 (found-formed n 0 e f)

pub by-fits : (n : ℕ) (e : Expression) (b : By) (bs : Buckets) → is_formed 0 e ≡ true → option_map site_parts (found n e) ≡ Some (b, bs) → IsWithin (by_size b) (expression_size (written e))
by-fits n e b bs f h =
    let p = the-parts (found n e) b bs h in
    let P : Option Site → Type 0 = λ o. Fits (expression_size (written e)) o in
    subst P p.1 (found-fits n 0 e f)

low : (ss : List Site) (n : ℕ) (s : Site) → slice_get ss n ≡ Some s → n < length ss
low [] n s h = cc
low (x ∷ ss) zero s h = omega arith
low (x ∷ ss) (suc n) s h = omega (arith, low ss n s h)

pub number-low : (n : ℕ) (e : Expression) (s : Site) → site_at n e ≡ Some s → n < sites e
number-low n e s h = omega (arith, low (preorder e) n s h, length-preorder e)

-- ---- what the calls on a site give

pub by_text_at-none : (n : ℕ) (e : Expression) → is_formed 0 e ≡ true → option_map site_parts (found n e) ≡ None → by_text_at n e ≡ Err NoSite
by_text_at-none n e f h = ap (λ (o : Option Site). if_site o (λ s. Ok (by_text s.bucketing))) (at-none n e f h)

pub by_text_at-some : (n : ℕ) (e : Expression) (b : By) (bs : Buckets) → is_formed 0 e ≡ true → option_map site_parts (found n e) ≡ Some (b, bs) → by_text_at n e ≡ Ok (by_text b)
by_text_at-some n e b bs f h = ap (λ (o : Option Site). if_site o (λ s. Ok (by_text s.bucketing))) (at-some n e b bs f h).1

pub parts_at-none : (n : ℕ) (e : Expression) → is_formed 0 e ≡ true → option_map site_parts (found n e) ≡ None → parts_at n e ≡ Err NoSite
parts_at-none n e f h = ap (λ (o : Option Site). if_site o (λ s. if_entries (entries_of s.buckets) (λ r. (by_lowered (suc n) s.bucketing, r)))) (at-none n e f h)

pub parts_at-some : (n : ℕ) (e : Expression) (b : By) (bs : Buckets) → is_formed 0 e ≡ true → option_map site_parts (found n e) ≡ Some (b, bs)
    → parts_at n e ≡ if_entries (entries_of bs) (λ r. (by_lowered (suc n) b, r))
parts_at-some n e b bs f h = ap (λ (o : Option Site). if_site o (λ s. if_entries (entries_of s.buckets) (λ r. (by_lowered (suc n) s.bucketing, r)))) (at-some n e b bs f h).1

pub replaced-none : (n : ℕ) (q : Entries) (e : Expression) → is_formed 0 e ≡ true → option_map site_parts (found n e) ≡ None → replaced n q e ≡ Err NoSite
replaced-none n q e f h = ap (λ (o : Option Site). if_site o (λ s. if_entries (entries_of s.buckets) (λ _. with_entries n q e))) (at-none n e f h)

pub replaced-some : (n : ℕ) (q : Entries) (e : Expression) (b : By) (bs : Buckets) → is_formed 0 e ≡ true → option_map site_parts (found n e) ≡ Some (b, bs)
    → replaced n q e ≡ if_entries (entries_of bs) (λ _. with_entries n q e)
replaced-some n q e b bs f h = ap (λ (o : Option Site). if_site o (λ s. if_entries (entries_of s.buckets) (λ _. with_entries n q e))) (at-some n e b bs f h).1

pub if_entries-err : {A B : Type 0} (o : Option Entries) (f : Entries → A) (g : Entries → B) (x : LogicFault) → if_entries o f ≡ Err x → if_entries o g ≡ Err x
if_entries-err None f g x h = cc
if_entries-err (Some r) f g x h = cc

pub if_entries-ok : {A : Type 0} (o : Option Entries) (f : Entries → A) (q : Entries) → if_entries o (λ r. r) ≡ Ok q → if_entries o f ≡ Ok (f q)
if_entries-ok None f q h = cc
if_entries-ok (Some r) f q h = let same : r ≡ q = cc in ap (λ x. Ok (f x)) same

-- the number after the site's fits
pub next-fits : (n : ℕ) (e : Expression) (b : By) (bs : Buckets) → is_well_formed e ≡ true → option_map site_parts (found n e) ≡ Some (b, bs) → n + 1 < 2 ^ 32
next-fits n e b bs w h =
    let s = at-some n e b bs (left (is_formed 0 e) _ w) h in
    omega (arith, number-low n e _ s.1, sites-small e w)

small-over : (s t : Size) → IsWithin s t → is_over t ≡ false → is_over s ≡ false
small-over s t h o = grind (arith, common_steps, h.nodes, h.levels, o)

-- the bucketing expression as one of its own
pub own : (n : ℕ) (e d : Expression) (bs : Buckets) → is_well_formed e ≡ true → option_map site_parts (found n e) ≡ Some (by d, bs) → is_well_formed (lowered (suc n) d) ≡ true
own n e d bs w h =
    let f = left (is_formed 0 e) _ w in
    let start : suc n ≡ suc n + 0 = omega arith in
    let formed = is_formed-lowered (suc n) (suc n) 0 d start (right (not (is_list d)) _ (by-formed n e (by d) bs f h)) in
    both (is_formed 0 (lowered (suc n) d)) _ formed
    (ap (λ t. not (is_too_big t)) (written-lowered (suc n) d) ∙ ap not (small-over _ _ (by-fits n e (by d) bs f h) (not-true _ (right (is_formed 0 e) _ w))))

-- where a site was found there is one
pub not-none : {A : Type 0} (n : ℕ) (e : Expression) (b : By) (bs : Buckets) → is_formed 0 e ≡ true → option_map site_parts (found n e) ≡ Some (b, bs) → site_at n e ≡ None → A
not-none n e b bs f h none = let at = (at-some n e b bs f h).1 in cc
