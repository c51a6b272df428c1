-- A document has one meaning at most.
use Rattle.std.proofs.Common.{◌≡◌, ℕ, List, [], ◌∷◌, Bool, Option, Some, None, Ok, Err, refl, sym, ap, ◌∙◌}
use Rattle.std.specs.Prelude.{codes, Result}
use Rattle.spelled_numbers.specs.Marks.{marks_of_text}
use Rattle.spelled_numbers.specs.Reading.{doc_with_floats}
use Rattle.flag_text.specs.Reading.{doc_of}
use Rattle.flag_text.specs.Readers.{find_member}
use Rattle.flag_text.specs.Shape.{Shape, null, boolean, whole, other, text, list, object, Members, no_members, member}
use Rattle.flag_text.specs.declared.fault.TextFault.{TextFault}
use Rattle.flag_text.specs.declared.fault.TextFault.TheVariants as text_fault
use Rattle.logic_ast.specs.Expression.{Expression}
use Rattle.flag_defs.specs.Definition.{Rules, Definition, broken, good, targeting_of, HasTargeting, IsGood, Means, state_of, variants_of, default_of, or_null}
use Rattle.flag_defs.specs.Document.{Definitions, AllMean, FlagsMean, TextMeans, HasOneMeaning, evaluators_in, flags_in, max_bytes, limited}
use Rattle.flag_defs.specs.Floats.{Marks, MeansFlags, marked}
use Rattle.flag_defs.specs.FloatsLaw.{HasOneMeaningWithFloats}
use Rattle.flag_defs.specs.declared.fault.DefFault.{DefFault}
use Rattle.flag_references.proofs.Inlined.{one_form}

same : {A : Type 0} (o : Option A) (a b : A) → o ≡ Some a → o ≡ Some b → a ≡ b
same o a b p q = cc

one_targeting : (evaluators : Members) (t : Shape) (d e : Option Expression) → HasTargeting evaluators t d → HasTargeting evaluators t e → d ≡ e
one_targeting evaluators t d e p q = same (targeting_of q.0) d e (ap targeting_of (sym (one_form evaluators t p.0 q.0 p.1 q.1)) ∙ p.2) q.2

same_rules : (r s : Rules) → r.enabled ≡ s.enabled → r.variants ≡ s.variants → r.default_variant ≡ s.default_variant → r.targeting ≡ s.targeting → r ≡ s
same_rules r s a b c d =
    let one : r ≡ record { enabled = s.enabled; variants = r.variants; default_variant = r.default_variant; targeting = r.targeting } =
    ap (λ (x : Bool). let y : Rules = record { enabled = x; variants = r.variants; default_variant = r.default_variant; targeting = r.targeting } in y) a in
    let two : record { enabled = s.enabled; variants = r.variants; default_variant = r.default_variant; targeting = r.targeting } ≡ record { enabled = s.enabled; variants = s.variants; default_variant = r.default_variant; targeting = r.targeting } =
    ap (λ (x : Members). let y : Rules = record { enabled = s.enabled; variants = x; default_variant = r.default_variant; targeting = r.targeting } in y) b in
    let three : record { enabled = s.enabled; variants = s.variants; default_variant = r.default_variant; targeting = r.targeting } ≡ record { enabled = s.enabled; variants = s.variants; default_variant = s.default_variant; targeting = r.targeting } =
    ap (λ (x : Option (List ℕ)). let y : Rules = record { enabled = s.enabled; variants = s.variants; default_variant = x; targeting = r.targeting } in y) c in
    let four : record { enabled = s.enabled; variants = s.variants; default_variant = s.default_variant; targeting = r.targeting } ≡ s =
    ap (λ (x : Option Expression). let y : Rules = record { enabled = s.enabled; variants = s.variants; default_variant = s.default_variant; targeting = x } in y) d in
    one ∙ (two ∙ (three ∙ four))

one_good : (evaluators ms : Members) (r s : Rules) → IsGood evaluators ms r → IsGood evaluators ms s → r ≡ s
one_good evaluators ms r s p q =
    let variants = same (variants_of (find_member (codes "variants") ms)) r.variants s.variants p.variants q.variants in
    let default = same (default_of s.variants (find_member (codes "defaultVariant") ms)) r.default_variant s.default_variant
    (ap (λ vs. default_of vs (find_member (codes "defaultVariant") ms)) (sym variants) ∙ p.default_variant) q.default_variant in
    same_rules r s (same (state_of (find_member (codes "state") ms)) r.enabled s.enabled p.state q.state) variants default
    (one_targeting evaluators (or_null (find_member (codes "targeting") ms)) r.targeting s.targeting p.targeting q.targeting)

object_means : (evaluators ms : Members) (d e : Definition) → Means evaluators (object ms) d → Means evaluators (object ms) e → d ≡ e
object_means evaluators ms broken broken p q = refl
object_means evaluators ms broken (good s) p q = absurd (p s q)
object_means evaluators ms (good r) broken p q = absurd (q r p)
object_means evaluators ms (good r) (good s) p q = ap good (one_good evaluators ms r s p q)

means_one : (evaluators : Members) (t : Shape) (d e : Definition) → Means evaluators t d → Means evaluators t e → d ≡ e
means_one evaluators (object ms) d e p q = object_means evaluators ms d e p q
means_one evaluators null broken broken p q = refl
means_one evaluators null broken (good s) p q = absurd q
means_one evaluators null (good r) e p q = absurd p
means_one evaluators (boolean b) broken broken p q = refl
means_one evaluators (boolean b) broken (good s) p q = absurd q
means_one evaluators (boolean b) (good r) e p q = absurd p
means_one evaluators (whole n) broken broken p q = refl
means_one evaluators (whole n) broken (good s) p q = absurd q
means_one evaluators (whole n) (good r) e p q = absurd p
means_one evaluators other broken broken p q = refl
means_one evaluators other broken (good s) p q = absurd q
means_one evaluators other (good r) e p q = absurd p
means_one evaluators (text x) broken broken p q = refl
means_one evaluators (text x) broken (good s) p q = absurd q
means_one evaluators (text x) (good r) e p q = absurd p
means_one evaluators (list ts) broken broken p q = refl
means_one evaluators (list ts) broken (good s) p q = absurd q
means_one evaluators (list ts) (good r) e p q = absurd p

same_pair : (f g : List ℕ × Definition) → f.0 ≡ g.0 → f.1 ≡ g.1 → f ≡ g
same_pair f g p q = ap (λ (k : List ℕ). let y : List ℕ × Definition = (k, f.1) in y) p ∙ ap (λ (d : Definition). let y : List ℕ × Definition = (g.0, d) in y) q

all_mean_one : (evaluators ms : Members) (fs gs : Definitions) → AllMean evaluators ms fs → AllMean evaluators ms gs → fs ≡ gs
all_mean_one evaluators no_members [] [] p q = refl
all_mean_one evaluators no_members [] (g ∷ gs) p q = absurd q
all_mean_one evaluators no_members (f ∷ fs) gs p q = absurd p
all_mean_one evaluators (member k t ms) [] gs p q = absurd p
all_mean_one evaluators (member k t ms) (f ∷ fs) [] p q = absurd q
all_mean_one evaluators (member k t ms) (f ∷ fs) (g ∷ gs) p q =
    ap (λ x. x ∷ fs) (same_pair f g (p.0 ∙ sym q.0) (means_one evaluators t f.1 g.1 p.1 q.1)) ∙ ap (λ xs. g ∷ xs) (all_mean_one evaluators ms fs gs p.2 q.2)

flags_mean_one : (evaluators : Members) (o : Option Members) (r s : Result Definitions DefFault) → FlagsMean evaluators o r → FlagsMean evaluators o s → r ≡ s
flags_mean_one evaluators None r s p q = p ∙ sym q
flags_mean_one evaluators (Some ms) r s p q = p.2 ∙ (ap limited (all_mean_one evaluators ms p.0 q.0 p.1 q.1) ∙ sym q.2)

pub text_means_one : (x : Result Shape TextFault) (r s : Result Definitions DefFault) → TextMeans x r → TextMeans x s → r ≡ s
text_means_one (Ok t) r s p q = flags_mean_one (evaluators_in t) (flags_in t) r s p q
text_means_one (Err text_fault.WantOfMemory) r s p q = p ∙ sym q
text_means_one (Err text_fault.TooLarge) r s p q = p ∙ sym q
text_means_one (Err text_fault.NotJson) r s p q = p ∙ sym q
text_means_one (Err text_fault.TooDeep) r s p q = p ∙ sym q
text_means_one (Err text_fault.NotWhole) r s p q = p ∙ sym q

pub one_meaning : HasOneMeaning
one_meaning bytes r s p q = text_means_one (doc_of bytes max_bytes) r s p q

pub one_meaning_with_floats : HasOneMeaningWithFloats
one_meaning_with_floats bytes r s p q = text_means_one (doc_with_floats bytes max_bytes) r s p q

pub same_flags : (bytes : List ℕ) (fs gs : Definitions) (ms ns : Marks) → MeansFlags bytes fs ms → MeansFlags bytes gs ns → (fs ≡ gs) × (ms ≡ ns)
same_flags bytes fs gs ms ns p q =
    let same_list : fs ≡ gs = one_ok (one_meaning_with_floats bytes (Ok fs) (Ok gs) p.0 q.0) in
    (same_list, sym p.1 ∙ (ap (marked (marks_of_text bytes)) same_list ∙ q.1))
  where
    one_ok : ◌≡◌ {A = Result Definitions DefFault} (Ok fs) (Ok gs) → fs ≡ gs
    one_ok e = cc
