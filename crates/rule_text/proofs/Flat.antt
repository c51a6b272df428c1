-- What a list of literal buckets is made of, and how its tokens are read.
use Rattle.std.proofs.Common.{◌≡◌, ℕ, ◌≤◌, false, List, ◌∷◌, Option, Some, None, option_map, option_and_then, refl, arith}
use Rattle.flag_text.specs.Readers.{as_list}
use Rattle.flag_text.specs.Shape.{Shape, null, boolean, whole, other, text, list, object, Items, no_items, item, levels, items_levels, has_other, items_have_other}
use Rattle.bucket_core.specs.Reading.{weight_of, bucket_with, bucket_from, bucket_of, buckets_of}
use Rattle.bucket_core.specs.Rule.{Entries}

pub both : {A B : Type 0} (f : A → Option B) (o : Option A) (b : B) → option_and_then f o ≡ Some b → (a : A) × (o ≡ Some a) × (f a ≡ Some b)
both f None b e = absurd (cc)
both f (Some a) b e = (a, refl, e)

mapped : {A B : Type 0} (f : A → B) (o : Option A) (b : B) → option_map f o ≡ Some b → (a : A) × (o ≡ Some a)
mapped f None b e = absurd (cc)
mapped f (Some a) b e = (a, refl)

-- ---- literal buckets are flat and whole

abbrev IsFlat : Shape → Type 0
IsFlat t = (levels t ≤ 1) × (has_other t ≡ false)

named : (w : Option ℕ) (t : Shape) (b : List ℕ × ℕ) → bucket_with w t ≡ Some b → (levels t ≡ 0) × (has_other t ≡ false)
named w null b e = absurd (cc)
named w (boolean x) b e = absurd (cc)
named w (whole n) b e = absurd (cc)
named w other b e = absurd (cc)
named w (text s) b e = (refl, refl)
named w (list ts) b e = absurd (cc)
named w (object ms) b e = absurd (cc)

weighed : (t : Shape) (n : ℕ) → weight_of t ≡ Some n → (levels t ≡ 0) × (has_other t ≡ false)
weighed null b e = absurd (cc)
weighed (boolean x) b e = absurd (cc)
weighed (whole n) b e = (refl, refl)
weighed other b e = absurd (cc)
weighed (text s) b e = absurd (cc)
weighed (list ts) b e = absurd (cc)
weighed (object ms) b e = absurd (cc)

with_weight : (w : Option ℕ) (t : Shape) (b : List ℕ × ℕ) → bucket_with w t ≡ Some b → (n : ℕ) × (w ≡ Some n)
with_weight None null b e = absurd (cc)
with_weight None (boolean x) b e = absurd (cc)
with_weight None (whole n) b e = absurd (cc)
with_weight None other b e = absurd (cc)
with_weight None (text s) b e = absurd (cc)
with_weight None (list ts) b e = absurd (cc)
with_weight None (object ms) b e = absurd (cc)
with_weight (Some n) t b e = (n, refl)

flat_items : (ts : Items) (b : List ℕ × ℕ) → bucket_from ts ≡ Some b → IsFlat (list ts)
flat_items no_items b e = absurd (cc)
flat_items (item name no_items) b e = let n = named (Some 1) name b e in (rw (n.0) (omega arith), rw (n.1) refl)
flat_items (item name (item weight no_items)) b e =
    let n = named (weight_of weight) name b e in
    let some = with_weight (weight_of weight) name b e in
    let w = weighed weight some.0 some.1 in
    (rw (n.0, w.0) (omega arith), rw (n.1, w.1) refl)
flat_items (item name (item weight (item t ts))) b e = absurd (cc)

flat : (t : Shape) (b : List ℕ × ℕ) → bucket_of t ≡ Some b → IsFlat t
flat null b e = absurd (cc)
flat (boolean x) b e = absurd (cc)
flat (whole n) b e = absurd (cc)
flat other b e = absurd (cc)
flat (text s) b e = absurd (cc)
flat (list ts) b e = flat_items ts b e
flat (object ms) b e = absurd (cc)

flat_all : (ts : Items) (es : Entries) → buckets_of ts ≡ Some es → (items_levels ts ≤ 1) × (items_have_other ts ≡ false)
flat_all no_items es e = (omega arith, refl)
flat_all (item t ts) es e =
    let first = both (λ b. option_map (λ bs. b ∷ bs) (buckets_of ts)) (bucket_of t) es e in
    let rest = mapped (λ bs. first.0 ∷ bs) (buckets_of ts) es first.2 in
    let f = flat t first.0 first.1 in
    let r = flat_all ts rest.0 rest.1 in
    (omega (arith, f.0, r.0), rw (f.1, r.1) refl)

pub flat_list : (t : Shape) (es : Entries) → option_and_then buckets_of (as_list t) ≡ Some es → (levels t ≤ 2) × (has_other t ≡ false)
flat_list null b e = absurd (cc)
flat_list (boolean x) b e = absurd (cc)
flat_list (whole n) b e = absurd (cc)
flat_list other b e = absurd (cc)
flat_list (text s) b e = absurd (cc)
flat_list (list ts) es e = let f = flat_all ts es e in (omega (arith, f.0), f.1)
flat_list (object ms) b e = absurd (cc)
