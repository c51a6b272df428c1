-- Members of an object that are taken from the back: which of them is kept.
use Rattle.std.proofs.Common.{◌≡◌, ℕ, List, [], ◌∷◌, ◌++◌, string_bytes, Bool, true, false, cond, Option, Some, None, refl, sym, ap, ◌∙◌}
use Rattle.std.specs.Option.{option_map, option_or}
use Rattle.std.specs.Str.{bytes_eq}
use Rattle.std.proofs.lemmas.Slice.Eq.{bytes_eq-Decides}
use Rattle.flag_text.specs.Readers.{find_member}
use Rattle.flag_text.specs.Shape.{Shape}
use Rattle.flag_text.specs.View.{view, members_view}
use Rattle.flag_text.specs.declared.tree.Tree.{Tree}
use Rattle.flag_text.proofs.Views.{Named}

-- the member of this name among those that are left, or else the one that is kept
abbrev pub found_or : List ℕ → List Named → Option Tree → Option Shape
found_or name ms kept = option_or (find_member name (members_view ms)) (option_map view kept)

cond-or : (b : Bool) (t : Shape) (o kept : Option Shape) → option_or (cond b (Some t) o) kept ≡ cond b (Some t) (option_or o kept)
cond-or true t o kept = refl
cond-or false t o kept = refl

find_member-push : (name : List ℕ) (ms : List Named) (m : Named) (kept : Option Shape)
    → option_or (find_member name (members_view (ms ++ m ∷ []))) kept ≡ option_or (find_member name (members_view ms)) (cond (bytes_eq (string_bytes m.0) name) (Some (view m.1)) kept)
find_member-push name [] m kept = cond-or (bytes_eq (string_bytes m.0) name) (view m.1) None kept
find_member-push name (n ∷ ms) m kept =
    let b = bytes_eq (string_bytes n.0) name in
    cond-or b (view n.1) (find_member name (members_view (ms ++ m ∷ []))) kept
    ∙ (ap (cond b (Some (view n.1))) (find_member-push name ms m kept)
    ∙ sym (cond-or b (view n.1) (find_member name (members_view ms)) (cond (bytes_eq (string_bytes m.0) name) (Some (view m.1)) kept)))

found_or-push : (name : List ℕ) (all ms : List Named) (m : Named) (kept : Option Tree) (b : Bool) → all ≡ ms ++ m ∷ [] → bytes_eq (string_bytes m.0) name ≡ b
    → found_or name all kept ≡ option_or (find_member name (members_view ms)) (cond b (Some (view m.1)) (option_map view kept))
found_or-push name all ms m kept b parts named =
    ap (λ (xs : List Named). found_or name xs kept) parts
    ∙ (find_member-push name ms m (option_map view kept)
    ∙ ap (λ (c : Bool). option_or (find_member name (members_view ms)) (cond c (Some (view m.1)) (option_map view kept))) named)

-- the last member is kept where it has this name
pub taken : (name : List ℕ) (all ms : List Named) (m : Named) (kept new : Option Tree) → all ≡ ms ++ m ∷ [] → new ≡ Some m.1 → bytes_eq (string_bytes m.0) name ≡ true → found_or name ms new ≡ found_or name all kept
taken name all ms m kept new parts is named = ap (found_or name ms) is ∙ sym (found_or-push name all ms m kept true parts named)

-- and else what was kept before
pub passed : (name : List ℕ) (all ms : List Named) (m : Named) (kept new : Option Tree) → all ≡ ms ++ m ∷ [] → new ≡ kept → bytes_eq (string_bytes m.0) name ≡ false → found_or name ms new ≡ found_or name all kept
passed name all ms m kept new parts is named = ap (found_or name ms) is ∙ sym (found_or-push name all ms m kept false parts named)

-- one name is not the other
pub apart : (name one other : List ℕ) → bytes_eq one other ≡ false → bytes_eq name one ≡ true → bytes_eq name other ≡ false
apart name one other differ named = ap (λ (k : List ℕ). bytes_eq k other) ((bytes_eq-Decides name one).0 named) ∙ differ
