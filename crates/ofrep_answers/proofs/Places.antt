-- The methods that a place takes.
use Rattle.std.proofs.Common.{◌≡◌, ℕ, Bool, true, false, ◌||◌, if◌then◌else◌, List, codes, Some, refl, sym, subst, ap, ◌∙◌}
use Rattle.std.proofs.lemmas.Slice.Eq.{bytes_eq-Decides}
use Rattle.std.specs.Str.{bytes_eq}
use Rattle.flag_resolve.specs.Floats.{Marked}
use Rattle.ofrep_answers.specs.Answer.{allow_of, answer_at, answer_by, answer_with, not_allowed, takes}
use Rattle.ofrep_answers.specs.Metadata.{AnswerMetadata}
use Rattle.ofrep_answers.specs.Request.{Asked, evaluates}
use Rattle.ofrep_requests.specs.Request.{method_at, place_of}
use Rattle.ofrep_requests.specs.declared.place.Place.{Place}
use Rattle.ofrep_requests.specs.declared.place.Place.TheVariants.{OneFlag, EveryFlag, Health, Metrics, Nowhere}

by_method : (metadata : AnswerMetadata) (flags : Marked) (moment : ℕ) (r : Asked) (p : Place) (m : List ℕ) → p ≡ place_of r.path → Some m ≡ method_at p
    → answer_with metadata flags moment r ≡ (if takes m r.method then answer_at metadata flags moment r (place_of r.path) else not_allowed (allow_of m))
by_method metadata flags moment r p m at is = ap (answer_by metadata flags moment r (place_of r.path)) (sym (is ∙ ap method_at at))

pub refused : (metadata : AnswerMetadata) (flags : Marked) (moment : ℕ) (r : Asked) (p : Place) (m : List ℕ) → p ≡ place_of r.path → Some m ≡ method_at p → takes m r.method ≡ false
    → not_allowed (allow_of m) ≡ answer_with metadata flags moment r
refused metadata flags moment r p m at is h =
    sym (by_method metadata flags moment r p m at is ∙ ap (λ b. if b then answer_at metadata flags moment r (place_of r.path) else not_allowed (allow_of m)) h)

pub taken : (metadata : AnswerMetadata) (flags : Marked) (moment : ℕ) (r : Asked) (p : Place) (m : List ℕ) → p ≡ place_of r.path → Some m ≡ method_at p → takes m r.method ≡ true
    → answer_at metadata flags moment r p ≡ answer_with metadata flags moment r
taken metadata flags moment r p m at is h =
    ap (answer_at metadata flags moment r) at ∙ sym (by_method metadata flags moment r p m at is ∙ ap (λ b. if b then answer_at metadata flags moment r (place_of r.path) else not_allowed (allow_of m)) h)

or_false : (b : Bool) → (b || false) ≡ true → b ≡ true
or_false true e = refl
or_false false e = e

-- where POST is taken nothing else is
only_post : (requested : List ℕ) → takes (codes "POST") requested ≡ true → requested ≡ codes "POST"
only_post requested h = (bytes_eq-Decides requested (codes "POST")).0 (or_false (bytes_eq requested (codes "POST")) h)

some_of : (m n : List ℕ) → Some m ≡ Some n → m ≡ n
some_of m n e = cc

-- flags are evaluated for POST alone
pub posts : (p : Place) (m requested : List ℕ) → Some m ≡ method_at p → takes m requested ≡ true → (requested ≡ codes "POST" → ⊥) → evaluates p ≡ false
posts OneFlag m requested is h differs = absurd (differs (only_post requested (subst (λ (n : List ℕ). takes n requested ≡ true) (some_of m (codes "POST") is) h)))
posts EveryFlag m requested is h differs = absurd (differs (only_post requested (subst (λ (n : List ℕ). takes n requested ≡ true) (some_of m (codes "POST") is) h)))
posts Health m requested is h differs = refl
posts Metrics m requested is h differs = refl
posts Nowhere m requested is h differs = refl
