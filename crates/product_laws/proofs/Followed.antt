-- Where a way that is followed through a document leads, by paths of its tree.
use Rattle.std.proofs.Common.{◌≡◌, ◌<◌, ◌-◌, ℕ, zero, suc, Bool, true, false, nat_lt, List, [], ◌∷◌, ◌++◌, Option, Some, None, option_and_then, refl, sym, ap, ◌∙◌, subst, append-nil, append_assoc}
use Rattle.std.proofs.lemmas.Bool.{ltb-true}
use Rattle.std.specs.Prelude.{codes, if◌then◌else◌}
use Rattle.flag_text.specs.Readers.{find_member, member_of}
use Rattle.flag_text.specs.Shape as shape
use Rattle.flag_text.specs.Shape.{Shape, null, boolean, whole, other, text, object, Items, no_items, item}
use Rattle.flag_references.specs.Inlining.{reference_in}
use Rattle.logic_ast.specs.FirstFault.{item_count}
use Rattle.product_laws.specs.Part.{item_at, part_at, step_into}
use Rattle.kept_document.specs.Following as following
use Rattle.kept_document.specs.Following.{Inside, nothing, itself, inner, Spot, part, referred, lost, followed, going_on, led, or_nothing, unless_reference}
use Rattle.kept_document.specs.Place.{SitePlace, buckets, shared, nowhere, at_spot, from_targeting, site_place, targeting_at, targeting_path}
use Rattle.kept_document.specs.Seeking.{Sought, later, here, find_site}
use Rattle.text_spans.specs.Path.{Step, name, index}

-- ---- paths

-- the part at a path and then at another
pub part_append : (p q : List Step) (t : Shape) → part_at (p ++ q) t ≡ option_and_then (part_at q) (part_at p t)
part_append [] q t = refl
part_append (s ∷ p) q t = by (step_into s t) (λ u. part_append p q u)
  where
    by : (o : Option Shape) → ((u : Shape) → part_at (p ++ q) u ≡ option_and_then (part_at q) (part_at p u)) → option_and_then (part_at (p ++ q)) o ≡ option_and_then (part_at q) (option_and_then (part_at p) o)
    by None again = refl
    by (Some u) again = again u

-- ---- a step of a way

inside_or : Inside → Shape → Shape
inside_or nothing t = t
inside_or itself t = t
inside_or (inner u) t = u

or_some : (o : Option Shape) (u : Shape) → or_nothing o ≡ inner u → o ≡ Some u
unfolding inside_or
or_some None u e = cc
or_some (Some v) u e = ap (λ i. Some (inside_or i v)) e

same_item : (i : ℕ) (ts : Items) → following.item_at i ts ≡ item_at i ts
same_item i no_items = refl
same_item zero (item t ts) = refl
same_item (suc i) (item t ts) = same_item i ts

-- a step that leads to a part leads into the tree
stepped : (s : Step) (t u : Shape) → led s t ≡ inner u → step_into s t ≡ Some u
stepped (name k) (object ms) u e = or_some (find_member k ms) u e
stepped (name k) null u e = cc
stepped (name k) (boolean b) u e = cc
stepped (name k) (whole z) u e = cc
stepped (name k) other u e = cc
stepped (name k) (text s) u e = cc
stepped (name k) (shape.list ts) u e = cc
stepped (index i) (shape.list ts) u e = sym (same_item i ts) ∙ or_some (following.item_at i ts) u e
stepped (index zero) null u e = cc
stepped (index zero) (boolean b) u e = cc
stepped (index zero) (whole z) u e = cc
stepped (index zero) other u e = cc
stepped (index zero) (text s) u e = cc
stepped (index zero) (object ms) u e = cc
stepped (index (suc i)) null u e = cc
stepped (index (suc i)) (boolean b) u e = cc
stepped (index (suc i)) (whole z) u e = cc
stepped (index (suc i)) other u e = cc
stepped (index (suc i)) (text s) u e = cc
stepped (index (suc i)) (object ms) u e = cc

-- ---- a way

path_or : Spot → List Step → List Step
path_or (part p t) q = p
path_or (referred evaluator) q = q
path_or lost q = q

shape_or : Spot → Shape → Shape
shape_or (part p t) u = t
shape_or (referred evaluator) u = u
shape_or lost u = u

-- the part is that at the path behind what was done
abbrev Reaches : List Step → Shape → List Step → Shape → Type 0
Reaches done t path u = (steps : List Step) × (path ≡ done ++ steps) × (part_at steps t ≡ Some u)

followed_part : (way done : List Step) (t : Shape) (path : List Step) (u : Shape) → followed done t way ≡ part path u → Reaches done t path u
unfolding path_or shape_or
followed_part [] done t path u e = by (reference_in t) e
  where
    by : (o : Option (List ℕ)) → unless_reference o (part done t) ≡ part path u → Reaches done t path u
    by (Some evaluator) e = cc
    by None e = ([], sym (ap (λ spot. path_or spot done) e) ∙ sym (append-nil done), ap (λ spot. Some (shape_or spot t)) e)
followed_part (s ∷ way) done t path u e = on (reference_in t) (followed_part way done t path u) (λ v. followed_part way (done ++ s ∷ []) v path u) e
  where
    deeper : (v : Shape) → led s t ≡ inner v → Reaches (done ++ s ∷ []) v path u → Reaches done t path u
    deeper v is (steps, same, there) = (s ∷ steps, same ∙ append_assoc done (s ∷ []) steps, ap (option_and_then (part_at steps)) (stepped s t v is) ∙ there)

    past : (i : Inside) → led s t ≡ i → (followed done t way ≡ part path u → Reaches done t path u) → ((v : Shape) → followed (done ++ s ∷ []) v way ≡ part path u → Reaches (done ++ s ∷ []) v path u)
        → going_on i (followed done t way) (λ v. followed (done ++ s ∷ []) v way) ≡ part path u → Reaches done t path u
    past nothing is again next e = cc
    past itself is again next e = again e
    past (inner v) is again next e = deeper v is (next v e)

    on : (o : Option (List ℕ)) → (followed done t way ≡ part path u → Reaches done t path u) → ((v : Shape) → followed (done ++ s ∷ []) v way ≡ part path u → Reaches (done ++ s ∷ []) v path u)
        → unless_reference o (going_on (led s t) (followed done t way) (λ v. followed (done ++ s ∷ []) v way)) ≡ part path u → Reaches done t path u
    on (Some evaluator) again next e = cc
    on None again next e = past (led s t) refl again next e

-- ---- the place

-- the list that a place names, in the tree, and its items from one up to the last
pub record IsListed (t : Shape) (path : List Step) (first last : ℕ) : Type 0 where
  pub items : Items
  pub there : part_at path t ≡ Some (shape.list items)
  pub within : first < item_count items
  pub whole : last ≡ item_count items - 1

place_path : SitePlace → List Step → List Step
place_path (buckets p f l) q = p
place_path (shared evaluator) q = q
place_path nowhere q = q

place_first : SitePlace → ℕ → ℕ
place_first (buckets p f l) n = f
place_first (shared evaluator) n = n
place_first nowhere n = n

place_last : SitePlace → ℕ → ℕ
place_last (buckets p f l) n = l
place_last (shared evaluator) n = n
place_last nowhere n = n

module _ (document : Shape) (key : List ℕ) (path : List Step) (first last : ℕ) where
  -- the targeting stands at its path
  at_path : (u : Shape) → targeting_at document key ≡ Some u → part_at (targeting_path key) document ≡ Some u
  at_path u e = by (member_of (codes "flags") document) e
    where
      last_step : (o : Option Shape) → option_and_then (member_of (codes "targeting")) o ≡ Some u → option_and_then (part_at (name (codes "targeting") ∷ [])) o ≡ Some u
      last_step None e = cc
      last_step (Some v) e = end (member_of (codes "targeting") v) e
        where
          end : (o : Option Shape) → o ≡ Some u → option_and_then (part_at []) o ≡ Some u
          end None e = cc
          end (Some w) e = e

      by : (o : Option Shape) → option_and_then (member_of (codes "targeting")) (option_and_then (member_of key) o) ≡ Some u
          → option_and_then (part_at (name key ∷ name (codes "targeting") ∷ [])) o ≡ Some u
      by None e = cc
      by (Some v) e = last_step (member_of key v) e

  listed : (u : Shape) (p : List Step) (ts : Items) (front : ℕ) (b : Bool) → targeting_at document key ≡ Some u → Reaches (targeting_path key) u p (shape.list ts)
      → nat_lt front (item_count ts) ≡ b → (if b then buckets p front (item_count ts - 1) else nowhere) ≡ buckets path first last → IsListed document path first last
  unfolding place_path place_first place_last
  listed u p ts front false targeting reaches is e = cc
  listed u p ts front true targeting (steps, same, there) is e =
      let paths : p ≡ path = ap (λ place. place_path place p) e in
      let firsts : front ≡ first = ap (λ place. place_first place front) e in
      let lasts : item_count ts - 1 ≡ last = ap (λ place. place_last place (item_count ts - 1)) e in
      let reached : part_at (targeting_path key ++ steps) document ≡ Some (shape.list ts) =
      part_append (targeting_path key) steps document ∙ ap (option_and_then (part_at steps)) (at_path u targeting) ∙ there in
      record {
        items = ts;
        there = ap (λ q. part_at q document) (sym paths ∙ same) ∙ reached;
        within = subst (λ n. n < item_count ts) firsts (ltb-true front (item_count ts) is);
        whole = sym lasts;
      }

  at_list : (u : Shape) (front : ℕ) (spot : Spot) → targeting_at document key ≡ Some u → ((p : List Step) (v : Shape) → spot ≡ part p v → Reaches (targeting_path key) u p v)
      → at_spot front spot ≡ buckets path first last → IsListed document path first last
  at_list u front (part p (shape.list ts)) targeting reaches e = listed u p ts front (nat_lt front (item_count ts)) targeting (reaches p (shape.list ts) refl) refl e
  at_list u front (part p null) targeting reaches e = cc
  at_list u front (part p (boolean b)) targeting reaches e = cc
  at_list u front (part p (whole z)) targeting reaches e = cc
  at_list u front (part p other) targeting reaches e = cc
  at_list u front (part p (text s)) targeting reaches e = cc
  at_list u front (part p (object ms)) targeting reaches e = cc
  at_list u front (referred evaluator) targeting reaches e = cc
  at_list u front lost targeting reaches e = cc

  from : (o : Option Shape) (s : Sought) → targeting_at document key ≡ o → from_targeting key o s ≡ buckets path first last → IsListed document path first last
  from None s is e = cc
  from (Some u) (later n) is e = cc
  from (Some u) (here way front) is e = at_list u front (followed (targeting_path key) u way) is (λ p v. followed_part way (targeting_path key) u p v) e

  -- the buckets of a site are items of a list of the document
  pub place_listed : (form : Shape) (n : ℕ) → site_place document key form n ≡ buckets path first last → IsListed document path first last
  place_listed form n e = from (targeting_at document key) (find_site n form) refl e

  -- ---- they stand within the targeting

  abbrev pub IsWithin : Type 0
  IsWithin = (steps : List Step) × (path ≡ targeting_path key ++ steps)

  within_list : (u : Shape) (p : List Step) (ts : Items) (front : ℕ) (b : Bool) → Reaches (targeting_path key) u p (shape.list ts) → (if b then buckets p front (item_count ts - 1) else nowhere) ≡ buckets path first last → IsWithin
  unfolding place_path
  within_list u p ts front false reaches e = cc
  within_list u p ts front true (steps, same, there) e = let paths : p ≡ path = ap (λ place. place_path place p) e in (steps, sym paths ∙ same)

  within_spot : (u : Shape) (front : ℕ) (spot : Spot) → ((p : List Step) (v : Shape) → spot ≡ part p v → Reaches (targeting_path key) u p v) → at_spot front spot ≡ buckets path first last → IsWithin
  within_spot u front (part p (shape.list ts)) reaches e = within_list u p ts front (nat_lt front (item_count ts)) (reaches p (shape.list ts) refl) e
  within_spot u front (part p null) reaches e = cc
  within_spot u front (part p (boolean b)) reaches e = cc
  within_spot u front (part p (whole z)) reaches e = cc
  within_spot u front (part p other) reaches e = cc
  within_spot u front (part p (text s)) reaches e = cc
  within_spot u front (part p (object ms)) reaches e = cc
  within_spot u front (referred evaluator) reaches e = cc
  within_spot u front lost reaches e = cc

  within : (o : Option Shape) (s : Sought) → from_targeting key o s ≡ buckets path first last → IsWithin
  within None s e = cc
  within (Some u) (later n) e = cc
  within (Some u) (here way front) e = within_spot u front (followed (targeting_path key) u way) (λ p v. followed_part way (targeting_path key) u p v) e

  pub place_within : (form : Shape) (n : ℕ) → site_place document key form n ≡ buckets path first last → IsWithin
  place_within form n e = within (targeting_at document key) (find_site n form) e
