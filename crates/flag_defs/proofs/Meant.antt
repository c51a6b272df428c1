-- What definitions mean, one by one and together.
use Rattle.std.proofs.Common.{◌≡◌, ◌≤◌, ◌<◌, ℕ, zero, suc, List, [], ◌∷◌, ◌++◌, length, get_or, string_bytes, codes, Vec, Global, Bool, true, false, ◌&&◌, ◌||◌, cond, nat_lt, Option, Some, None, Result, Err, Ok, Less, Ordering, inl, inr, refl, sym, ap, ◌∙◌, subst, arith}
use Rattle.std.specs.Prelude.{◌≢◌, option_and_then}
use Rattle.std.specs.Cmp.Lexicographic.{slice_cmp}
use Rattle.std.specs.List.{AllByRecursion}
use Rattle.std.specs.List.Sorted.{IsStrictlySortedBy}
use Rattle.std.specs.Map.{keys_of}
use Rattle.std.specs.Ordering.{match_ordering, nat_cmp}
use Rattle.std.proofs.lemmas.Cmp.{nat_list_cmp_total}
use Rattle.std.proofs.lemmas.Grind.{common_steps}
use Rattle.flag_text.specs.Readers.{as_object, member_of}
use Rattle.flag_text.specs.Shape.{Shape, null, boolean, whole, other, text, list, object, Members, no_members, member, comes_first, names_rise, is_tidy, members_are_tidy}
use Rattle.flag_text.specs.View.{view, members_view}
use Rattle.flag_text.proofs.Bools.{left, right, Holds}
use Rattle.flag_text.proofs.Halving.{is_tidy-find_member}
use Rattle.flag_text.proofs.Views.{Named}
use Rattle.logic_ast.specs.Expression.{Expression}
use Rattle.logic_ast.specs.Writing.{written}
use Rattle.flag_defs.specs.Definition.{Definition, broken, good, Means, or_null, member_count}
use Rattle.flag_defs.specs.Document.{Definitions, AllMean, FlagsMean, definition_written, definitions_written, with_default, with_targeting, state_text, or_no_members, evaluators_in, printed, max_flags, max_bytes, flags_in, TextMeans, DocumentMeans}
use Rattle.flag_defs.specs.Foreseen.{forecast_bytes}
use Rattle.flag_defs.specs.Flag.{entries_view, flag_view, is_definition, member_names}
use Rattle.flag_references.specs.Least.{least, members_least}
use Rattle.flag_defs.specs.Outline.{Outline, outline_of, rules_with}
use Rattle.flag_defs.specs.Targeting.{IsForecast}
use Rattle.flag_defs.specs.Weighing.{DefinitionTakes, AllTake, AreLight, IsAmong}
use Rattle.flag_text.specs.Reading.{doc_of}
use Rattle.flag_text.specs.declared.fault.TextFault.{TextFault}
use Rattle.flag_text.specs.declared.fault.TextFault.TheVariants as text_fault
use Rattle.flag_defs.specs.Entries.{HoldsLimited}
use Rattle.flag_defs.specs.Fault.{of_text}
use Rattle.flag_defs.specs.declared.fault.DefFault.{DefFault}
use Rattle.flag_defs.specs.declared.fault.DefFault.TheVariants.{WantOfMemory, NotJson, TooLarge}
use Rattle.flag_defs.specs.declared.forecast.Forecast.{Forecast}
use Rattle.flag_defs.specs.declared.forecast.Forecast.TheVariants as forecast
use Rattle.flag_defs.proofs.Counted.{counted, is_object}
use Rattle.flag_references.proofs.Least.{text_of-least}
use Rattle.flag_defs.proofs.Outlines.{found, good_with, rules_lawful, broken_outline, broken_targeting}
use Rattle.flag_defs.proofs.Printed.{whole_document}
use Rattle.flag_defs.proofs.Sorted.{Entry}

-- ---- one definition

pub not_object : (evaluators : Members) (t : Shape) → as_object t ≡ None → Means evaluators t broken
not_object evaluators null h = tt
not_object evaluators (boolean b) h = tt
not_object evaluators (whole n) h = tt
not_object evaluators other h = tt
not_object evaluators (text s) h = tt
not_object evaluators (list ts) h = tt
not_object evaluators (object ms) h = cc

pub not_object-takes : (evaluators : Members) (t : Shape) → as_object t ≡ None → DefinitionTakes evaluators t 0
not_object-takes evaluators t h = (broken, not_object evaluators t h, refl, omega arith)

pub object-means : (evaluators : Members) (t : Shape) (ms : Members) (d : Definition) → as_object t ≡ Some ms → Means evaluators (object ms) d → Means evaluators t d
object-means evaluators t ms d is h = subst (λ x. Means evaluators x d) (sym (is_object t ms is)) h

pub tidy_members : (t : Shape) (ms : Members) → as_object t ≡ Some ms → is_tidy t ≡ true → members_are_tidy ms ≡ true
tidy_members t ms is h = ap is_tidy (sym (is_object t ms is)) ∙ h

pub tidy_or_null : (o : Option Shape) → Holds is_tidy o → is_tidy (or_null o) ≡ true
tidy_or_null None h = refl
tidy_or_null (Some t) h = h

tidy_named : (name : List ℕ) (t : Shape) → is_tidy t ≡ true → Holds is_tidy (member_of name t)
tidy_named name null h = tt
tidy_named name (boolean b) h = tt
tidy_named name (whole n) h = tt
tidy_named name other h = tt
tidy_named name (text s) h = tt
tidy_named name (list ts) h = tt
tidy_named name (object ms) h = is_tidy-find_member name ms h

tidy_object : (o : Option Shape) (ms : Members) → Holds is_tidy o → option_and_then as_object o ≡ Some ms → members_are_tidy ms ≡ true
tidy_object None ms h e = cc
tidy_object (Some t) ms h e = tidy_members t ms e h

-- the objects in a tidy document are tidy
pub tidy_named_object : (name : List ℕ) (t : Shape) (ms : Members) → is_tidy t ≡ true → option_and_then as_object (member_of name t) ≡ Some ms → members_are_tidy ms ≡ true
tidy_named_object name t ms h e = tidy_object (member_of name t) ms (tidy_named name t h) e

tidy_or_none : (o : Option Members) → ((ms : Members) → o ≡ Some ms → members_are_tidy ms ≡ true) → members_are_tidy (or_no_members o) ≡ true
tidy_or_none None h = refl
tidy_or_none (Some ms) h = h ms refl

pub tidy_evaluators : (t : Shape) → is_tidy t ≡ true → members_are_tidy (evaluators_in t) ≡ true
tidy_evaluators t h = tidy_or_none (option_and_then as_object (member_of (codes "$evaluators") t)) (λ ms e. tidy_named_object (codes "$evaluators") t ms h e)

pub tidy_at : (ms : List Named) (i : ℕ) (d : Named) → i < length ms → members_are_tidy (members_view ms) ≡ true → is_tidy (view (get_or ms i d).1) ≡ true
tidy_at [] i d h t = absurd (omega arith)
tidy_at (m ∷ ms) zero d h t =
    left (is_tidy (view m.1)) (members_are_tidy (members_view ms)) (right (comes_first (string_bytes m.0) (members_view ms)) (is_tidy (view m.1) && members_are_tidy (members_view ms)) t)
tidy_at (m ∷ ms) (suc i) d h t =
    tidy_at ms i d (omega arith) (right (is_tidy (view m.1)) (members_are_tidy (members_view ms)) (right (comes_first (string_bytes m.0) (members_view ms)) (is_tidy (view m.1) && members_are_tidy (members_view ms)) t))

-- the targeting of a tidy definition is tidy
pub tidy_targeting : (ms : Members) → members_are_tidy ms ≡ true → is_tidy (or_null (found (codes "targeting") ms)) ≡ true
tidy_targeting ms h = tidy_or_null (found (codes "targeting") ms) (is_tidy-find_member (codes "targeting") ms h)

default_longer : (d : Option (List ℕ)) (ms : Members) → members_least ms ≤ members_least (with_default d ms)
default_longer None ms = omega arith
default_longer (Some name) ms = omega arith

targeting_longer : (o : Outline) (e : Expression) → least (written e) ≤ least (definition_written (good (rules_with o (Some e))))
targeting_longer o e =
    let rest : Members = member (codes "state") (text (state_text (rules_with o (Some e)))) (with_targeting (Some e) (member (codes "variants") (object o.variants) no_members)) in
    omega (arith, default_longer o.default_variant rest)

-- without an outline
pub none-takes : (evaluators ms : Members) → outline_of ms ≡ None → DefinitionTakes evaluators (object ms) 0
none-takes evaluators ms h = (broken, broken_outline evaluators ms h, refl, omega arith)

pub forecast-takes : (evaluators ms : Members) (o : Outline) (w : Forecast) → outline_of ms ≡ Some o → IsForecast evaluators (or_null (found (codes "targeting") ms)) w → DefinitionTakes evaluators (object ms) (forecast_bytes w)
forecast-takes evaluators ms o forecast.Broken h w = (broken, broken_targeting evaluators ms w, refl, omega arith)
forecast-takes evaluators ms o forecast.Without h w = (good (rules_with o None), good_with evaluators ms o None h w, refl, omega arith)
forecast-takes evaluators ms o (forecast.With n) h w = (good (rules_with o (Some w.0)), good_with evaluators ms o (Some w.0) h w.1, w.3, omega (arith, w.2, targeting_longer o w.0))

-- ---- all definitions

pub all_mean_push : (evaluators : Members) (ms : List Named) (m : Named) (es : List Entry) (e : Entry) → AllMean evaluators (members_view ms) (entries_view es) → string_bytes e.0 ≡ string_bytes m.0
    → Means evaluators (view m.1) (flag_view e.1) → AllMean evaluators (members_view (ms ++ m ∷ [])) (entries_view (es ++ e ∷ []))
all_mean_push evaluators [] m [] e a k h = (k, h, tt)
all_mean_push evaluators [] m (f ∷ es) e a k h = absurd a
all_mean_push evaluators (n ∷ ms) m [] e a k h = absurd a
all_mean_push evaluators (n ∷ ms) m (f ∷ es) e a k h = (a.0, a.1, all_mean_push evaluators ms m es e a.2 k h)

-- they mean these, which are printed in so many bytes at least
abbrev pub AllHaveLeast : Members → Members → ℕ → Type 0
AllHaveLeast evaluators ms n = (fs : Definitions) × AllMean evaluators ms fs × (n ≤ members_least (definitions_written fs))

pub all_take-least : (evaluators ms : Members) (n : ℕ) → AllTake evaluators ms n → AllHaveLeast evaluators ms n
all_take-least evaluators no_members n h = ([], tt, omega (arith, h))
all_take-least evaluators (member k t ms) n h =
    let rest = all_take-least evaluators ms h.1 h.3 in
    let one = h.2 in
    ((k, one.0) ∷ rest.0, (refl, one.1, rest.1), omega (arith, h.4, one.3, rest.2))

-- each definition is among them
pub among_at : (ms : List Named) (i : ℕ) (d : Named) → i < length ms → IsAmong (view (get_or ms i d).1) (members_view ms)
among_at [] i d h = absurd (omega arith)
among_at (m ∷ ms) zero d h = inl refl
among_at (m ∷ ms) (suc i) d h = inr (among_at ms i d (omega arith))

-- what was weighed and counted is light
pub light : (evaluators : Members) (ms : List Named) (n : ℕ) → AllTake evaluators (members_view ms) n → n ≤ max_bytes → length ms ≤ max_flags → AreLight evaluators (members_view ms)
light evaluators ms n all small few = record { bytes = n; total = all; small = small; few = omega (arith, few, counted ms) }

lawful_means : (evaluators : Members) (t : Shape) (d : Definition) → Means evaluators t d → is_definition d ≡ true
lawful_means evaluators t broken h = refl
lawful_means evaluators (object ms) (good r) h = rules_lawful evaluators ms r h
lawful_means evaluators null (good r) h = absurd h
lawful_means evaluators (boolean b) (good r) h = absurd h
lawful_means evaluators (whole n) (good r) h = absurd h
lawful_means evaluators other (good r) h = absurd h
lawful_means evaluators (text s) (good r) h = absurd h
lawful_means evaluators (list ts) (good r) h = absurd h

lawful_meant : (evaluators ms : Members) (fs : Definitions) → AllMean evaluators ms fs → AllByRecursion (λ f. is_definition f.1 ≡ true) fs
lawful_meant evaluators no_members [] a = tt
lawful_meant evaluators no_members (f ∷ fs) a = absurd a
lawful_meant evaluators (member k t ms) [] a = absurd a
lawful_meant evaluators (member k t ms) (f ∷ fs) a = (lawful_means evaluators t f.1 a.1, lawful_meant evaluators ms fs a.2)

count_meant : (evaluators ms : Members) (fs : Definitions) → AllMean evaluators ms fs → length fs ≡ member_count ms
count_meant evaluators no_members [] a = refl
count_meant evaluators no_members (f ∷ fs) a = absurd a
count_meant evaluators (member k t ms) [] a = absurd a
count_meant evaluators (member k t ms) (f ∷ fs) a = ap suc (count_meant evaluators ms fs a.2)

-- ---- keys

less_if : (o : Ordering) → match_ordering o true false false ≡ true → o ≡ Less
less_if o h = grind (arith, common_steps, h)

above_too : (k l : List ℕ) (ks : List (List ℕ)) → slice_cmp nat_cmp k l ≡ Less → AllByRecursion (λ y. slice_cmp nat_cmp l y ≡ Less) ks → AllByRecursion (λ y. slice_cmp nat_cmp k y ≡ Less) ks
above_too k l [] less h = tt
above_too k l (q ∷ ks) less h = (nat_list_cmp_total.trans k l q less h.0, above_too k l ks less h.1)

above_meant : (evaluators : Members) (k : List ℕ) (ms : Members) (fs : Definitions) → comes_first k ms ≡ true → names_rise ms ≡ true → AllMean evaluators ms fs → AllByRecursion (λ y. slice_cmp nat_cmp k y ≡ Less) (keys_of fs)
above_meant evaluators k no_members [] first rise a = tt
above_meant evaluators k no_members (f ∷ fs) first rise a = absurd a
above_meant evaluators k (member l t ms) [] first rise a = absurd a
above_meant evaluators k (member l t ms) (f ∷ fs) first rise a =
    let less = less_if (slice_cmp nat_cmp k l) first in (
      subst (λ q. slice_cmp nat_cmp k q ≡ Less) (sym a.0) less,
      above_too k l (keys_of fs) less (above_meant evaluators l ms fs (left (comes_first l ms) (names_rise ms) rise) (right (comes_first l ms) (names_rise ms) rise) a.2),
    )

pub rise_meant : (evaluators ms : Members) (fs : Definitions) → names_rise ms ≡ true → AllMean evaluators ms fs → IsStrictlySortedBy (slice_cmp nat_cmp) (keys_of fs)
unfolding IsStrictlySortedBy
rise_meant evaluators no_members [] rise a = tt
rise_meant evaluators no_members (f ∷ fs) rise a = absurd a
rise_meant evaluators (member k t ms) [] rise a = absurd a
rise_meant evaluators (member k t ms) (f ∷ fs) rise a = (
  subst (λ q. AllByRecursion (λ y. slice_cmp nat_cmp q y ≡ Less) (keys_of fs)) (sym a.0) (above_meant evaluators k ms fs (left (comes_first k ms) (names_rise ms) rise) (right (comes_first k ms) (names_rise ms) rise) a.2),
  rise_meant evaluators ms fs (right (comes_first k ms) (names_rise ms) rise) a.2,
)

-- so do the names of members alone
above_names : (k : List ℕ) (ms : Members) → comes_first k ms ≡ true → names_rise ms ≡ true → AllByRecursion (λ y. slice_cmp nat_cmp k y ≡ Less) (member_names ms)
above_names k no_members first rise = tt
above_names k (member l t ms) first rise =
    let less = less_if (slice_cmp nat_cmp k l) first in
    (less, above_too k l (member_names ms) less (above_names l ms (left (comes_first l ms) (names_rise ms) rise) (right (comes_first l ms) (names_rise ms) rise)))

pub rising_names : (ms : Members) → names_rise ms ≡ true → IsStrictlySortedBy (slice_cmp nat_cmp) (member_names ms)
unfolding IsStrictlySortedBy
rising_names no_members rise = tt
rising_names (member k t ms) rise = (above_names k ms (left (comes_first k ms) (names_rise ms) rise) (right (comes_first k ms) (names_rise ms) rise), rising_names ms (right (comes_first k ms) (names_rise ms) rise))

-- ---- limits

limited_by : (a b : Bool) (fs : Definitions) → (a || b) ≡ true → Err TooLarge ≡ cond (a || b) (Err TooLarge) (Ok fs)
limited_by a b fs h = rw h refl

passed : (m n : ℕ) → m < n → nat_lt m n ≡ true
passed m n h = grind (arith, common_steps, h)

or_second : (a b : Bool) → b ≡ true → (a || b) ≡ true
or_second true b h = refl
or_second false b h = h

-- too many definitions
pub many_meant : (evaluators : Members) (ms : List Named) (n : ℕ) → AllTake evaluators (members_view ms) n → max_flags < length ms → FlagsMean evaluators (Some (members_view ms)) (Err TooLarge)
many_meant evaluators ms n takes h =
    let all = all_take-least evaluators (members_view ms) n takes in
    let fs = all.0 in
    let count = count_meant evaluators (members_view ms) fs all.1 ∙ counted ms in
    (fs, all.1, limited_by (nat_lt max_flags (length fs)) (nat_lt max_bytes (length (printed fs))) fs (ap (λ b. b || nat_lt max_bytes (length (printed fs))) (passed max_flags (length fs) (subst (λ k. max_flags < k) (sym count) h))))

-- too many bytes
pub heavy_meant : (evaluators : Members) (ms : List Named) (n : ℕ) → names_rise (members_view ms) ≡ true → AllTake evaluators (members_view ms) n → max_bytes < n → FlagsMean evaluators (Some (members_view ms)) (Err TooLarge)
heavy_meant evaluators ms n rise takes h =
    let all = all_take-least evaluators (members_view ms) n takes in
    let fs = all.0 in
    let document = object (member (codes "flags") (object (definitions_written fs)) no_members) in
    let long : least document ≤ length (printed fs) = text_of-least document (whole_document fs (rise_meant evaluators (members_view ms) fs rise all.1) (lawful_meant evaluators (members_view ms) fs all.1)) in
    let bound : members_least (definitions_written fs) ≤ least document = omega arith in
    let over : max_bytes < length (printed fs) = omega (arith, h, all.2, long, bound) in
    (fs, all.1, limited_by (nat_lt max_flags (length fs)) (nat_lt max_bytes (length (printed fs))) fs (or_second (nat_lt max_flags (length fs)) (nat_lt max_bytes (length (printed fs))) (passed max_bytes (length (printed fs)) over)))

-- ---- documents

pub holds_meant : (evaluators ms : Members) (es : Vec Entry Global) → AllMean evaluators ms (entries_view es.items) → HoldsLimited (FlagsMean evaluators (Some ms)) (Ok es)
holds_meant evaluators ms es a = (entries_view es.items, a, refl)

pub holds_text : (bytes : List ℕ) (t : Shape) (r : Result (Vec Entry Global) DefFault) → doc_of bytes max_bytes ≡ Ok t → HoldsLimited (FlagsMean (evaluators_in t) (flags_in t)) r → HoldsLimited (DocumentMeans bytes) r
holds_text bytes t r e h = subst (λ x. HoldsLimited (TextMeans x) r) (sym e) h

pub refused : (bytes : List ℕ) (e : TextFault) → (e ≢ text_fault.WantOfMemory → doc_of bytes max_bytes ≡ Err e) → of_text e ≢ WantOfMemory → DocumentMeans bytes (Err (of_text e))
refused bytes text_fault.WantOfMemory h n = absurd (n refl)
refused bytes text_fault.TooLarge h n = subst (λ x. TextMeans x (Err TooLarge)) (sym (h (λ q. cc))) refl
refused bytes text_fault.NotJson h n = subst (λ x. TextMeans x (Err NotJson)) (sym (h (λ q. cc))) refl
refused bytes text_fault.TooDeep h n = subst (λ x. TextMeans x (Err NotJson)) (sym (h (λ q. cc))) refl
refused bytes text_fault.NotWhole h n = subst (λ x. TextMeans x (Err NotJson)) (sym (h (λ q. cc))) refl
