-- In how many bytes flags are printed together, by the bytes of each.
use denote.Ref.{Bor}
use Rattle.std.proofs.Common.{◌≡◌, ◌≤◌, ◌<◌, ℕ, ◌+◌, ◌-◌, List, [], ◌∷◌, ◌++◌, length, codes, get_or, drop, suc, Bool, true, false, ◌||◌, nat_lt, Ordering, Less, Equal, Greater, refl, sym, ap, ◌∙◌, arith}
use Rattle.std.specs.Cmp.Lexicographic.{slice_cmp}
use Rattle.std.specs.List.{AllByRecursion}
use Rattle.std.specs.List.Sorted.{IsStrictlySortedBy}
use Rattle.std.specs.Map.{keys_of}
use Rattle.std.specs.Ordering.{nat_cmp, match_ordering}
use Rattle.std.proofs.Math.ListN.{length-append}
use Rattle.std.proofs.Math.Seq.{drop-cons}
use Rattle.std.proofs.lemmas.Bool.{lt-ltb, le-ltb, ltb-false}
use Rattle.std.proofs.lemmas.Grind.{common_steps}
use Rattle.json.specs.Print.{escape_byte, quoted}
use Rattle.serde_json.specs.Data as json
use Rattle.serde_json.specs.Written.{compact_text, members_text}
use Rattle.flag_text.proofs.Bools.{left, right}
use Rattle.flag_text.specs.Printing.{data_of, members_data, text_of}
use Rattle.flag_text.specs.Shape.{Shape, Members, no_members, member, comes_first, is_whole, members_are_whole}
use Rattle.flag_defs.specs.Definition.{Definition}
use Rattle.flag_defs.specs.Document.{Definitions, definition_written, definitions_written, max_bytes, printed}
use Rattle.flag_defs.specs.Flag.{flag_view, is_definition}
use Rattle.flag_defs.specs.Lent.{entry_bytes, lent_view}
use Rattle.flag_references.specs.Measure.{capped}
use Rattle.flag_defs.specs.declared.flag.Flag.{Flag}
use Rattle.flag_defs.proofs.Lawful.{lawful_flag}
use Rattle.flag_defs.proofs.Printed.{whole_definitions}

-- ---- members in the order of their names

put_first : (o : Ordering) (a b c : json.Members) → match_ordering o true false false ≡ true → match_ordering o a b c ≡ a
put_first Less a b c h = refl
put_first Equal a b c h = cc
put_first Greater a b c h = cc

pub in_front : (k : List ℕ) (t : Shape) (ms : Members) → members_are_whole (member k t ms) ≡ true → members_data (member k t ms) ≡ json.member k (data_of t) (members_data ms)
in_front k t no_members h = refl
in_front k t (member l u ms) h =
    let later = in_front l u ms (right (is_whole t) _ (right (comes_first k (member l u ms)) _ h)) in
    rw later (put_first (slice_cmp nat_cmp k l) _ _ _ (left (comes_first k (member l u ms)) _ h))

-- ---- bytes

-- the bytes of an entry, with a comma
abbrev pub member_bytes : List ℕ → json.Data → ℕ
member_bytes k d = length (quoted k) + (length (compact_text d) + 2)

pub member_text-bytes : (k : List ℕ) (d : json.Data) (ms : json.Members) → length (members_text true (json.member k d ms)) ≡ member_bytes k d + length (members_text true ms)
member_text-bytes k d ms = omega (arith, length-append (quoted k) (58 ∷ (compact_text d ++ members_text true ms)), length-append (compact_text d) (members_text true ms))

pub alone-bytes : (k : List ℕ) (d : Definition) → entry_bytes (k, d) ≡ member_bytes k (data_of (definition_written d))
unfolding text_of
alone-bytes k d =
    let e = data_of (definition_written d) in
    omega (arith, length-append (quoted k) (58 ∷ (compact_text e ++ members_text true json.no_members)), length-append (compact_text e) (members_text true json.no_members))

-- the definitions as they are printed, each behind a comma, with the brace that closes them
abbrev behind_comma : Definitions → List ℕ
behind_comma fs = members_text true (members_data (definitions_written fs))

one_more : (f : List ℕ × Definition) (fs : Definitions) → members_are_whole (definitions_written (f ∷ fs)) ≡ true → length (behind_comma (f ∷ fs)) ≡ entry_bytes f + length (behind_comma fs)
one_more f fs h =
    ap (λ ms. length (members_text true ms)) (in_front f.0 (definition_written f.1) (definitions_written fs) h)
    ∙ (member_text-bytes f.0 (data_of (definition_written f.1)) (members_data (definitions_written fs)) ∙ ap (λ n. n + length (behind_comma fs)) (sym (alone-bytes f.0 f.1)))

closing : (ms : json.Members) → 1 ≤ length (members_text true ms)
closing json.no_members = omega arith
closing (json.member k d ms) = omega arith

closed : (fs : Definitions) → 1 ≤ length (behind_comma fs)
closed fs = closing (members_data (definitions_written fs))

-- ---- flags that pass what is left

below : (a b : ℕ) → nat_lt a b ≡ true → a < b
below a b e = grind (arith, common_steps, e)

abbrev pub exceeds : ℕ → Definitions → Bool
exceeds n [] = false
exceeds n (f ∷ fs) = nat_lt n (entry_bytes f) || exceeds (n - entry_bytes f) fs

either : (n b r : ℕ) (p : Bool) → nat_lt n b ≡ p → (p || nat_lt (n - b) r) ≡ nat_lt n (b + r)
either n b r true e = sym (lt-ltb n (b + r) (omega (arith, below n b e)))
either n b r false e = shifted (nat_lt (n - b) r) refl
  where
    shifted : (q : Bool) → nat_lt (n - b) r ≡ q → q ≡ nat_lt n (b + r)
    shifted true h = sym (lt-ltb n (b + r) (omega (arith, below (n - b) r h, ltb-false n b e)))
    shifted false h = sym (le-ltb n (b + r) (omega (arith, ltb-false (n - b) r h, ltb-false n b e)))

exceeds-bytes : (n : ℕ) (fs : Definitions) → members_are_whole (definitions_written fs) ≡ true → exceeds n fs ≡ nat_lt n (length (behind_comma fs) - 1)
exceeds-bytes n [] h = sym (le-ltb n 0 (omega arith))
exceeds-bytes n (f ∷ fs) h =
    let b = entry_bytes f in
    let rest = length (behind_comma fs) in
    let later = right (is_whole (definition_written f.1)) _ (right (comes_first f.0 (definitions_written fs)) _ h) in
    ap (λ q. nat_lt n b || q) (exceeds-bytes (n - b) fs later)
    ∙ (either n b (rest - 1) (nat_lt n b) refl ∙ ap (nat_lt n) (omega (arith, one_more f fs h, closed fs)))

-- ---- the document around them

name-bytes : length (quoted (codes "flags")) ≡ 7
unfolding escape_byte
name-bytes = refl

document-bytes : (ms : json.Members) → length (compact_text (json.object (json.member (codes "flags") (json.object ms) json.no_members))) ≡ 11 + length (members_text false ms)
document-bytes ms =
    let inner : List ℕ = 123 ∷ members_text false ms in
    let end : List ℕ = 125 ∷ [] in
    omega (arith, name-bytes, length-append (quoted (codes "flags")) (58 ∷ (inner ++ end)), length-append inner end)

-- but for the first, each stands behind a comma
first_without : (k : List ℕ) (d : json.Data) (ms : json.Members) → length (members_text true (json.member k d ms)) ≡ length (members_text false (json.member k d ms)) + 1
first_without k d ms = omega arith

shifted_limit : (n m : ℕ) → m ≡ n + 11 → nat_lt (max_bytes - 11) n ≡ nat_lt max_bytes m
shifted_limit n m e = by (nat_lt (max_bytes - 11) n) refl
  where
    by : (q : Bool) → nat_lt (max_bytes - 11) n ≡ q → q ≡ nat_lt max_bytes m
    by true h = sym (lt-ltb max_bytes m (omega (arith, below (max_bytes - 11) n h)))
    by false h = sym (le-ltb max_bytes m (omega (arith, ltb-false (max_bytes - 11) n h)))

printed-bytes : (fs : Definitions) → members_are_whole (definitions_written fs) ≡ true → nat_lt (max_bytes - 11) (length (behind_comma fs) - 1) ≡ nat_lt max_bytes (length (printed fs))
unfolding text_of
printed-bytes [] h = le-ltb (max_bytes - 11) (length (behind_comma []) - 1) (omega arith) ∙ sym (le-ltb max_bytes (length (printed [])) (omega (arith, document-bytes json.no_members)))
printed-bytes (f ∷ fs) h =
    let d = data_of (definition_written f.1) in
    let ms = members_data (definitions_written fs) in
    let front = in_front f.0 (definition_written f.1) (definitions_written fs) h in
    let shown = ap (λ es. length (compact_text (json.object (json.member (codes "flags") (json.object es) json.no_members)))) front in
    let behind = ap (λ es. length (members_text true es)) front in
    shifted_limit (length (behind_comma (f ∷ fs)) - 1) (length (printed (f ∷ fs))) (omega (arith, shown, behind, document-bytes (json.member f.0 d ms), first_without f.0 d ms))

pub exceeds-printed : (fs : Definitions) → IsStrictlySortedBy (slice_cmp nat_cmp) (keys_of fs) → AllByRecursion (λ f. is_definition f.1 ≡ true) fs
    → exceeds (max_bytes - 11) fs ≡ nat_lt max_bytes (length (printed fs))
exceeds-printed fs s h = let w = whole_definitions fs s h in exceeds-bytes (max_bytes - 11) fs w ∙ printed-bytes fs w

-- ---- entries that are weighed in a row

abbrev pub Lent : Type 0
Lent = Bor (List ℕ) × Bor Flag

-- one that fits in what is left
pub within : (n b : ℕ) (f : List ℕ × Definition) (fs : Definitions) → n ≤ max_bytes → b ≡ capped (entry_bytes f) → b ≤ n → exceeds n (f ∷ fs) ≡ exceeds (n - b) fs
within n b f fs small is fits = let all : b ≡ entry_bytes f = omega (arith, small, is, fits) in rw (sym all, le-ltb n b fits) refl

-- one that does not
pub beyond : (n b : ℕ) (f : List ℕ × Definition) (fs : Definitions) → b ≡ capped (entry_bytes f) → n < b → exceeds n (f ∷ fs) ≡ true
beyond n b f fs is much = let more : n < entry_bytes f = omega (arith, is, much) in rw (lt-ltb n (entry_bytes f) more) refl

-- the entries from place i on
pub rest_at : (es : List Lent) (i : ℕ) (e : Lent) → i < length es → e ≡ get_or es i e → lent_view (drop i es) ≡ (e.0.now, flag_view e.1.now) ∷ lent_view (drop (i + 1) es)
rest_at es i e in_range is =
    let next : suc i ≡ i + 1 = omega arith in
    ap lent_view (drop-cons es i e in_range) ∙ (ap (λ x. (x.0.now, flag_view x.1.now) ∷ lent_view (drop (suc i) es)) (sym is) ∙ ap (λ n. (e.0.now, flag_view e.1.now) ∷ lent_view (drop n es)) next)

pub lawful_lent : (es : List Lent) → AllByRecursion (λ f. is_definition f.1 ≡ true) (lent_view es)
lawful_lent [] = tt
lawful_lent (e ∷ es) = (lawful_flag e.1.now, lawful_lent es)
