-- How many variants there are, and which value is an object.
use Rattle.std.proofs.Common.{◌≡◌, ◌≤◌, ℕ, suc, List, [], ◌∷◌, length, nat_le, Bool, ◌&&◌, cond, Some, None, refl, sym, ap, ◌∙◌, arith}
use Rattle.std.specs.Prelude.{◌↔◌, IsTrue}
use Rattle.std.proofs.lemmas.Grind.{common_steps}
use Rattle.flag_text.specs.Readers.{as_object}
use Rattle.flag_text.specs.Shape.{Shape, null, boolean, whole, other, text, list, object, Members, is_whole, levels}
use Rattle.flag_text.specs.View.{members_view}
use Rattle.flag_text.proofs.Views.{Named}
use Rattle.flag_defs.specs.Definition.{member_count, are_of_one_kind, variants_of}

pub counted : (ms : List Named) → member_count (members_view ms) ≡ length ms
counted [] = refl
counted (m ∷ ms) = ap suc (counted ms)

pub test_is : (b : Bool) (n m : ℕ) → (IsTrue b ↔ (n ≤ m)) → b ≡ nat_le n m
test_is b n m h = grind (arith, common_steps, h)

pub is_object : (t : Shape) (ms : Members) → as_object t ≡ Some ms → t ≡ object ms
is_object null ms h = cc
is_object (boolean b) ms h = cc
is_object (whole n) ms h = cc
is_object other ms h = cc
is_object (text s) ms h = cc
is_object (list ts) ms h = cc
is_object (object ns) ms h = cc

pub no_variants : (t : Shape) → as_object t ≡ None → variants_of (Some t) ≡ None
no_variants null h = refl
no_variants (boolean b) h = refl
no_variants (whole n) h = refl
no_variants other h = refl
no_variants (text s) h = refl
no_variants (list ts) h = refl
no_variants (object ms) h = cc

-- an object whose members pass, or do not
pub variants_at : (t : Shape) (ms : Members) (b : Bool) → as_object t ≡ Some ms
    → ((nat_le 1 (member_count ms) && nat_le (member_count ms) 64) && (are_of_one_kind ms && (is_whole t && nat_le (levels t) 100))) ≡ b → variants_of (Some t) ≡ cond b (Some ms) None
variants_at t ms b o h =
    let is = is_object t ms o in
    ap (λ x. variants_of (Some x)) is
    ∙ ap (λ c. cond c (Some ms) None) (ap (λ x. ((nat_le 1 (member_count ms) && nat_le (member_count ms) 64) && (are_of_one_kind ms && (is_whole x && nat_le (levels x) 100)))) (sym is) ∙ h)
