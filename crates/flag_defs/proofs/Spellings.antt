-- Texts that spell variants with numbers that are not whole: a test says exactly which do, and the flags of a program keep it.
use Rattle.std.proofs.Common.{◌≡◌, ◌<◌, ◌≤◌, ℕ, zero, suc, max, List, [], ◌∷◌, length, get_or, Bool, true, false, not, ◌&&◌, ◌||◌, cond, nat_lt, nat_le, Option, Some, None, String, string_bytes, refl, sym, ap, ap₂, ◌∙◌, subst, arith}
use Rattle.std.specs.Str.{bytes_eq}
use Rattle.std.specs.declared.alloc.Global.{Global}
use Rattle.std.proofs.lemmas.Slice.Eq.{bytes_eq-Decides}
use Rattle.json.specs.Json as json
use Rattle.json.specs.Print.{print}
use Rattle.json.specs.Tree.{HasNumbers, MembersHaveNumbers, depth, json_tokens, members_depth}
use Rattle.flag_text.proofs.Bools.{left, right}
use Rattle.flag_text.specs.Grammar.{value_in}
use Rattle.flag_text.specs.Reading.{json_levels}
use Rattle.flag_text.specs.Shape.{Shape, null, boolean, whole, other, text, list, object, Members, no_members, member}
use Rattle.spelled_numbers.specs.Floats.{all_counting, are_within, has_floats, has_whole_numbers, is_number, is_object, member_count}
use Rattle.flag_defs.specs.Definition.{Rules, broken, good}
use Rattle.flag_defs.specs.Flag.{definition_of, entries_view, flag_view, rules_view}
use Rattle.flag_defs.specs.Floats.{Marks, entries_floats, floats_in, floats_of, mark_of, marked_with}
use Rattle.flag_defs.specs.SpelledLaw.{AreMarked, AreSpelled, IsSpelled, MayBeMarked, as_texts}
use Rattle.flag_defs.specs.Spellings.{are_floats, are_spelled, if_both, if_compact, keep_spelling, members_spelled_by, value_spelled_by}
use Rattle.flag_defs.specs.declared.flag.Flag.{Flag}
use Rattle.flag_defs.specs.declared.rules.Rules as program
use Rattle.flag_defs.proofs.Marking.{numbers_in}
use Rattle.flag_defs.proofs.SpellingRead.{test_lt, value_back}

-- ---- what passes the test spells such variants

compact_is : (s : List ℕ) (o : Option json.Json) (j : json.Json) → if_compact s o ≡ Some j → (o ≡ Some j) × (print (json_tokens j) ≡ s)
compact_is s None j e = cc
compact_is s (Some i) j e = by (bytes_eq (print (json_tokens i)) s) refl e
  where
    by : (b : Bool) → bytes_eq (print (json_tokens i)) s ≡ b → cond b (Some i) None ≡ Some j → (◌≡◌ {A = Option json.Json} (Some i) (Some j)) × (print (json_tokens j) ≡ s)
    by true p q =
        let same : i ≡ j = cc in (
          ap (λ (x : json.Json). Some x) same,
          subst (λ (x : json.Json). print (json_tokens x) ≡ s) same ((bytes_eq-Decides (print (json_tokens i)) s).0 p),
        )
    by false p q = cc

value_is : (t : Shape) (j : json.Json) → value_spelled_by t ≡ Some j → HasNumbers j × (text (print (json_tokens j)) ≡ t)
value_is (text s) j e = let o = compact_is s (value_in s) j e in (numbers_in s j o.0, ap text o.1)
value_is null j e = cc
value_is (boolean b) j e = cc
value_is (whole n) j e = cc
value_is other j e = cc
value_is (list ts) j e = cc
value_is (object ms) j e = cc

abbrev AreOf : Members → json.Members → Type 0
AreOf vs js = MembersHaveNumbers js × (as_texts js ≡ vs)

one_more : (k : List ℕ) (t : Shape) (vs : Members) (o : Option json.Json) (os : Option json.Members) (js : json.Members) → ((j : json.Json) → o ≡ Some j → HasNumbers j × (text (print (json_tokens j)) ≡ t))
    → ((is : json.Members) → os ≡ Some is → AreOf vs is) → if_both k o os ≡ Some js → AreOf (member k t vs) js
one_more k t vs None os js first rest e = cc
one_more k t vs (Some j) None js first rest e = cc
one_more k t vs (Some j) (Some is) js first rest e =
    let same : json.member k j is ≡ js = cc in
    let one = first j refl in
    let others = rest is refl in
    subst (AreOf (member k t vs)) same ((one.0, others.0), ap₂ (member k) one.1 others.1)

members_are : (vs : Members) (js : json.Members) → members_spelled_by vs ≡ Some js → AreOf vs js
members_are no_members js e = let same : json.no_members ≡ js = cc in subst (AreOf no_members) same (tt, refl)
members_are (member k t vs) js e = one_more k t vs (value_spelled_by t) (members_spelled_by vs) js (value_is t) (members_are vs) e

pub spelled_variants : (vs : Members) → are_spelled vs ≡ true → AreSpelled vs
unfolding are_spelled
spelled_variants vs h = by (members_spelled_by vs) refl h
  where
    by : (o : Option json.Members) → members_spelled_by vs ≡ o → are_floats o ≡ true → AreSpelled vs
    by None p q = cc
    by (Some js) p q = let of = members_are vs js p in (js, of.0, q, of.1)

-- ---- and what spells such variants passes it

value_found : (j : json.Json) → HasNumbers j → depth j ≤ json_levels → value_spelled_by (text (print (json_tokens j))) ≡ Some j
value_found j n d =
    let s = print (json_tokens j) in
    ap (if_compact s) (value_back j n d) ∙ ap (λ (b : Bool). cond b (Some j) None) ((bytes_eq-Decides s s).1 refl)

members_found : (js : json.Members) → MembersHaveNumbers js → members_depth js ≤ json_levels → members_spelled_by (as_texts js) ≡ Some js
members_found json.no_members n d = refl
members_found (json.member k j js) n d =
    let one = value_found j n.0 (omega (arith, d)) in
    let others = members_found js n.1 (omega (arith, d)) in
    ap₂ (if_both k) one others

shallow : (js : json.Members) → has_floats (json.object js) ≡ true → members_depth js ≤ json_levels
shallow js h =
    let inside = left (are_within js) ((all_counting is_number js || all_counting is_object js) && not (all_counting has_whole_numbers js)) h in
    let flat = test_lt (members_depth js) 100 (right (nat_le (member_count js) 64) (nat_lt (members_depth js) 100) inside) in
    omega (arith, flat)

are_found : (vs : Members) → AreSpelled vs → are_spelled vs ≡ true
unfolding are_spelled
are_found vs s =
    ap are_floats (subst (λ (ws : Members). members_spelled_by ws ≡ Some s.0) s.3 (members_found s.0 s.1 (shallow s.0 s.2))) ∙ s.2

-- ---- rules

pub kept_spelling : (r : Rules) (b : Bool) → IsSpelled (good r) b → keep_spelling b r.variants ≡ true
kept_spelling r false s = refl
kept_spelling r true s = are_found r.variants s

spelling_kept : (r : Rules) (b : Bool) → keep_spelling b r.variants ≡ true → IsSpelled (good r) b
spelling_kept r false h = tt
spelling_kept r true h = spelled_variants r.variants h

-- ---- flags

spelled_rules : (o : Option program.Rules) → IsSpelled (definition_of o) (floats_in o)
spelled_rules None = tt
spelled_rules (Some r) = spelling_kept (rules_view r) r.has_floats r.spelled

pub spelled_flag : (f : Flag) → IsSpelled (flag_view f) (floats_of f)
spelled_flag f = spelled_rules f.rules

pub marked_flags : (es : List (String Global × Flag)) → AreMarked (entries_view es) (entries_floats es)
marked_flags [] = tt
marked_flags (e ∷ es) = (refl, spelled_flag e.1, marked_flags es)

-- a flag of a list may have what the last mark of its key says
pub may_be_marked : (ms : Marks) (es : List (String Global × Flag)) (i : ℕ) (d : String Global × Flag) → i < length es → MayBeMarked ms (entries_view es)
    → IsSpelled (flag_view (get_or es i d).1) (marked_with (flag_view (get_or es i d).1) (mark_of (string_bytes (get_or es i d).0) ms))
may_be_marked ms [] i d h m = absurd (omega arith)
may_be_marked ms (e ∷ es) zero d h m = m.0
may_be_marked ms (e ∷ es) (suc i) d h m = may_be_marked ms es i d (omega arith) m.1
