-- How the value that is printed for flags of which some have floats is printed: piece by piece.
use Rattle.std.proofs.Common.{◌≡◌, ℕ, List, [], ◌∷◌, ◌++◌, codes, Bool, true, false, ◌&&◌, Option, Some, None, append_assoc, refl, sym, ap, ap₂, ◌∙◌}
use Rattle.std.specs.List.{AllByRecursion, zip}
use Rattle.json.specs.Json as json
use Rattle.json.specs.Print.{escape_byte, print}
use Rattle.json.specs.Tree.{json_tokens}
use Rattle.flag_text.proofs.Bools.{left, right}
use Rattle.flag_text.specs.Grammar.{written, members_written}
use Rattle.flag_text.specs.Printing.{text_of}
use Rattle.flag_text.specs.Shape.{text, Members, no_members, member, comes_first, is_whole, members_are_whole}
use Rattle.logic_ast.specs.Expression.{Expression}
use Rattle.logic_ast.specs.Writing as writing
use Rattle.flag_defs.specs.Definition.{Rules, Definition, broken, good}
use Rattle.flag_defs.specs.Document.{Definitions, state_text}
use Rattle.flag_defs.specs.Flag.{is_definition}
use Rattle.flag_defs.specs.Floats.{Marks}
use Rattle.flag_defs.specs.Rules.{are_rules, are_targetings}
use Rattle.flag_defs.specs.Spelled.{default_spelled, entries_spelled, flags_spelled, members_spelled, other_entries_spelled, others_spelled, targeting_spelled, variants_spelled}
use Rattle.flag_defs.specs.SpelledLaw.{as_texts, IsSpelled, AreMarked}
use Rattle.flag_defs.proofs.Joined.{first_member, later_member, members_printed, none_printed, object_printed, string_printed}
use Rattle.flag_defs.proofs.Lawful.{whole_rules}
use Rattle.flag_defs.proofs.Printed.{targetings_of, whole_targeting}
use Rattle.flag_defs.proofs.Spelling.{document_json, flag_json, flags_json, last_json, members_json, state_json, targeting_json, variants_json}
use Rattle.flag_defs.proofs.Written.{print-written}

-- ---- variants

regroup : (k b o e : List ℕ) → k ++ (58 ∷ (b ++ (o ++ e))) ≡ ((k ++ (58 ∷ b)) ++ o) ++ e
regroup k b o e = sym (append_assoc (k ++ (58 ∷ b)) o e ∙ append_assoc k (58 ∷ b) (o ++ e))

later_plain : (vs : Members) → members_are_whole vs ≡ true → members_printed true (members_written vs) ≡ others_spelled false vs ++ codes "}"
later_plain no_members h = none_printed true
later_plain (member k t ms) h =
    let rest = right (comes_first k ms) (is_whole t && members_are_whole ms) h in
    later_member k (written t) (members_written ms)
    ∙ (ap₂ (λ (b o : List ℕ). 44 ∷ (text_of (text k) ++ (58 ∷ (b ++ o)))) (print-written t (left (is_whole t) (members_are_whole ms) rest)) (later_plain ms (right (is_whole t) (members_are_whole ms) rest))
    ∙ ap (λ (l : List ℕ). 44 ∷ l) (regroup (text_of (text k)) (text_of t) (others_spelled false ms) (codes "}")))

first_plain : (vs : Members) → members_are_whole vs ≡ true → members_printed false (members_written vs) ≡ variants_spelled false vs ++ codes "}"
first_plain no_members h = none_printed false
first_plain (member k t ms) h =
    let rest = right (comes_first k ms) (is_whole t && members_are_whole ms) h in
    first_member k (written t) (members_written ms)
    ∙ (ap₂ (λ (b o : List ℕ). text_of (text k) ++ (58 ∷ (b ++ o))) (print-written t (left (is_whole t) (members_are_whole ms) rest)) (later_plain ms (right (is_whole t) (members_are_whole ms) rest))
    ∙ regroup (text_of (text k)) (text_of t) (others_spelled false ms) (codes "}"))

later_texts : (ms : json.Members) → members_printed true ms ≡ others_spelled true (as_texts ms) ++ codes "}"
later_texts json.no_members = none_printed true
later_texts (json.member k j ms) =
    let b = print (json_tokens j) in
    later_member k j ms
    ∙ (ap (λ (o : List ℕ). 44 ∷ (text_of (text k) ++ (58 ∷ (b ++ o)))) (later_texts ms) ∙ ap (λ (l : List ℕ). 44 ∷ l) (regroup (text_of (text k)) b (others_spelled true (as_texts ms)) (codes "}")))

first_texts : (ms : json.Members) → members_printed false ms ≡ variants_spelled true (as_texts ms) ++ codes "}"
first_texts json.no_members = none_printed false
first_texts (json.member k j ms) =
    let b = print (json_tokens j) in
    first_member k j ms ∙ (ap (λ (o : List ℕ). text_of (text k) ++ (58 ∷ (b ++ o))) (later_texts ms) ∙ regroup (text_of (text k)) b (others_spelled true (as_texts ms)) (codes "}"))

variants_printed : (r : Rules) (b : Bool) (s : IsSpelled (good r) b) → are_rules r ≡ true → members_printed false (variants_json r b s) ≡ variants_spelled b r.variants ++ codes "}"
variants_printed r false s h = first_plain r.variants (whole_rules r h)
variants_printed r true s h = first_texts s.0 ∙ ap (λ (vs : Members). variants_spelled true vs ++ codes "}") s.3

-- ---- the members of a flag

-- the member of its variants, behind a comma
last_printed : (v : json.Members) (t : List ℕ) → members_printed false v ≡ t ++ codes "}" → members_printed true (last_json v) ≡ (codes ",\"variants\":{" ++ (t ++ codes "}")) ++ codes "}"
unfolding text_of escape_byte
last_printed v t e =
    later_member (codes "variants") (json.object v) json.no_members
    ∙ ap₂ (λ (b o : List ℕ). codes "," ++ (text_of (text (codes "variants")) ++ (codes ":" ++ (b ++ o)))) (object_printed v ∙ ap (λ (l : List ℕ). codes "{" ++ l) e) (none_printed true)

targeting_printed : (e : Option Expression) (v : json.Members) → are_targetings e ≡ true → members_printed true (targeting_json e (last_json v)) ≡ targeting_spelled e ++ members_printed true (last_json v)
unfolding text_of escape_byte
targeting_printed None v h = refl
targeting_printed (Some e) v h =
    later_member (codes "targeting") (written (writing.written e)) (last_json v)
    ∙ ap (λ (b : List ℕ). codes "," ++ (text_of (text (codes "targeting")) ++ (codes ":" ++ (b ++ members_printed true (last_json v))))) (print-written (writing.written e) (whole_targeting e h))

first_state : (state : List ℕ) (e : Option Expression) (v : json.Members) → members_printed false (state_json state e v) ≡ codes "\"state\":" ++ (text_of (text state) ++ members_printed true (targeting_json e (last_json v)))
unfolding text_of escape_byte
first_state state e v =
    first_member (codes "state") (json.string state) (targeting_json e (last_json v))
    ∙ ap (λ (b : List ℕ). text_of (text (codes "state")) ++ (codes ":" ++ (b ++ members_printed true (targeting_json e (last_json v))))) (string_printed state)

later_state : (state : List ℕ) (e : Option Expression) (v : json.Members) → members_printed true (state_json state e v) ≡ codes "," ++ (codes "\"state\":" ++ (text_of (text state) ++ members_printed true (targeting_json e (last_json v))))
unfolding text_of escape_byte
later_state state e v =
    later_member (codes "state") (json.string state) (targeting_json e (last_json v))
    ∙ ap (λ (b : List ℕ). codes "," ++ (text_of (text (codes "state")) ++ (codes ":" ++ (b ++ members_printed true (targeting_json e (last_json v)))))) (string_printed state)

first_default : (x : List ℕ) (rest : json.Members) → members_printed false (json.member (codes "defaultVariant") (json.string x) rest) ≡ codes "\"defaultVariant\":" ++ (text_of (text x) ++ members_printed true rest)
unfolding text_of escape_byte
first_default x rest =
    first_member (codes "defaultVariant") (json.string x) rest
    ∙ ap (λ (b : List ℕ). text_of (text (codes "defaultVariant")) ++ (codes ":" ++ (b ++ members_printed true rest))) (string_printed x)

-- behind the default variant
grouped : (q s t v e : List ℕ) → q ++ (s ++ (t ++ (v ++ e))) ≡ ((q ++ (s ++ t)) ++ v) ++ e
grouped q s t v e =
    ap (λ (l : List ℕ). q ++ l) (sym (append_assoc s t (v ++ e))) ∙ (sym (append_assoc q (s ++ t) (v ++ e)) ∙ sym (append_assoc (q ++ (s ++ t)) v e))

all_grouped : (p x c h v e : List ℕ) → p ++ (x ++ (c ++ ((h ++ v) ++ e))) ≡ (((p ++ (x ++ c)) ++ h) ++ v) ++ e
all_grouped p x c h v e =
    ap (λ (l : List ℕ). p ++ l) (sym (append_assoc x c ((h ++ v) ++ e)))
    ∙ (sym (append_assoc p (x ++ c) ((h ++ v) ++ e)) ∙ (ap (λ (l : List ℕ). (p ++ (x ++ c)) ++ l) (append_assoc h v e) ∙ (sym (append_assoc (p ++ (x ++ c)) h (v ++ e)) ∙ sym (append_assoc ((p ++ (x ++ c)) ++ h) v e))))

members_are_printed : (d : Option (List ℕ)) (state : List ℕ) (e : Option Expression) (v : json.Members) (t : List ℕ) → are_targetings e ≡ true → members_printed false v ≡ t ++ codes "}"
    → members_printed false (members_json d state e v)
    ≡ ((default_spelled d ++ (codes "\"state\":" ++ (text_of (text state) ++ targeting_spelled e))) ++ (codes ",\"variants\":{" ++ (t ++ codes "}"))) ++ codes "}"
members_are_printed None state e v t h is =
    let last = codes ",\"variants\":{" ++ (t ++ codes "}") in
    first_state state e v
    ∙ (ap (λ (l : List ℕ). codes "\"state\":" ++ (text_of (text state) ++ l)) (targeting_printed e v h ∙ ap (λ (l : List ℕ). targeting_spelled e ++ l) (last_printed v t is))
    ∙ grouped (codes "\"state\":") (text_of (text state)) (targeting_spelled e) last (codes "}"))
members_are_printed (Some x) state e v t h is =
    let last = codes ",\"variants\":{" ++ (t ++ codes "}") in
    let state_part = codes "\"state\":" ++ (text_of (text state) ++ targeting_spelled e) in
    first_default x (state_json state e v)
    ∙ (ap (λ (l : List ℕ). codes "\"defaultVariant\":" ++ (text_of (text x) ++ l))
    (later_state state e v
    ∙ (ap (λ (l : List ℕ). codes "," ++ (codes "\"state\":" ++ (text_of (text state) ++ l))) (targeting_printed e v h ∙ ap (λ (l : List ℕ). targeting_spelled e ++ l) (last_printed v t is))
    ∙ ap (λ (l : List ℕ). codes "," ++ l) (grouped (codes "\"state\":") (text_of (text state)) (targeting_spelled e) last (codes "}"))))
    ∙ all_grouped (codes "\"defaultVariant\":") (text_of (text x)) (codes ",") state_part last (codes "}"))

flag_printed : (d : Definition) (b : Bool) (s : IsSpelled d b) → is_definition d ≡ true → print (json_tokens (flag_json d b s)) ≡ codes "{" ++ (members_spelled b d ++ codes "}")
flag_printed broken false s h = object_printed json.no_members ∙ ap (λ (l : List ℕ). codes "{" ++ l) (none_printed false)
flag_printed broken true s h = absurd s
flag_printed (good r) b s h =
    object_printed (members_json r.default_variant (state_text r) r.targeting (variants_json r b s))
    ∙ ap (λ (l : List ℕ). codes "{" ++ l)
    (members_are_printed r.default_variant (state_text r) r.targeting (variants_json r b s) (variants_spelled b r.variants) (targetings_of r h) (variants_printed r b s h))

-- ---- flags

entry_grouped : (k m o e : List ℕ) → k ++ (58 ∷ ((123 ∷ (m ++ e)) ++ (o ++ e))) ≡ ((k ++ (58 ∷ 123 ∷ (m ++ e))) ++ o) ++ e
entry_grouped k m o e = sym (append_assoc (k ++ (58 ∷ 123 ∷ (m ++ e))) o e ∙ append_assoc k (58 ∷ 123 ∷ (m ++ e)) (o ++ e))

later_flags : (fs : Definitions) (ms : Marks) (h : AreMarked fs ms) → AllByRecursion (λ f. is_definition f.1 ≡ true) fs → members_printed true (flags_json fs ms h) ≡ other_entries_spelled (zip fs ms) ++ codes "}"
later_flags [] [] h l = none_printed true
later_flags [] (m ∷ ms) h l = absurd h
later_flags (f ∷ fs) [] h l = absurd h
later_flags (f ∷ fs) (m ∷ ms) h l =
    later_member f.0 (flag_json f.1 m.1 h.1) (flags_json fs ms h.2)
    ∙ (ap₂ (λ (b o : List ℕ). 44 ∷ (text_of (text f.0) ++ (58 ∷ (b ++ o)))) (flag_printed f.1 m.1 h.1 l.0) (later_flags fs ms h.2 l.1)
    ∙ ap (λ (x : List ℕ). 44 ∷ x) (entry_grouped (text_of (text f.0)) (members_spelled m.1 f.1) (other_entries_spelled (zip fs ms)) (codes "}")))

first_flags : (fs : Definitions) (ms : Marks) (h : AreMarked fs ms) → AllByRecursion (λ f. is_definition f.1 ≡ true) fs → members_printed false (flags_json fs ms h) ≡ entries_spelled (zip fs ms) ++ codes "}"
first_flags [] [] h l = none_printed false
first_flags [] (m ∷ ms) h l = absurd h
first_flags (f ∷ fs) [] h l = absurd h
first_flags (f ∷ fs) (m ∷ ms) h l =
    first_member f.0 (flag_json f.1 m.1 h.1) (flags_json fs ms h.2)
    ∙ (ap₂ (λ (b o : List ℕ). text_of (text f.0) ++ (58 ∷ (b ++ o))) (flag_printed f.1 m.1 h.1 l.0) (later_flags fs ms h.2 l.1)
    ∙ entry_grouped (text_of (text f.0)) (members_spelled m.1 f.1) (other_entries_spelled (zip fs ms)) (codes "}"))

pub document_printed : (fs : Definitions) (ms : Marks) (h : AreMarked fs ms) → AllByRecursion (λ f. is_definition f.1 ≡ true) fs → print (json_tokens (document_json fs ms h)) ≡ flags_spelled fs ms
unfolding text_of escape_byte
document_printed fs ms h l =
    let es = flags_json fs ms h in
    object_printed (json.member (codes "flags") (json.object es) json.no_members)
    ∙ (ap (λ (x : List ℕ). codes "{" ++ x) (first_member (codes "flags") (json.object es) json.no_members)
    ∙ (ap₂ (λ (b o : List ℕ). codes "{" ++ (text_of (text (codes "flags")) ++ (codes ":" ++ (b ++ o)))) (object_printed es ∙ ap (λ (x : List ℕ). codes "{" ++ x) (first_flags fs ms h l)) (none_printed true)
    ∙ ap (λ (x : List ℕ). codes "{\"flags\":{" ++ x) (append_assoc (entries_spelled (zip fs ms)) (codes "}") (codes "}"))))
