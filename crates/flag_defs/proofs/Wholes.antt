-- Parts of whole members are whole.
use Rattle.std.proofs.Common.{◌≡◌, ◌<◌, ◌-◌, ◌∙◌, ℕ, zero, suc, List, [], ◌∷◌, length, take, drop, get_or, string_bytes, true, ◌&&◌, arith, ap, refl}
use Rattle.std.proofs.Math.Seq.{take-length}
use Rattle.flag_text.specs.Shape.{comes_first, is_whole, members_are_whole}
use Rattle.flag_text.specs.View.{view, members_view}
use Rattle.flag_text.proofs.Bools.{left, right}
use Rattle.flag_text.proofs.Views.{Named}

pub whole_at : (ms : List Named) (i : ℕ) (d : Named) → i < length ms → members_are_whole (members_view ms) ≡ true → is_whole (view (get_or ms i d).1) ≡ true
whole_at [] i d h t = absurd (omega arith)
whole_at (m ∷ ms) zero d h t =
    left (is_whole (view m.1)) (members_are_whole (members_view ms)) (right (comes_first (string_bytes m.0) (members_view ms)) (is_whole (view m.1) && members_are_whole (members_view ms)) t)
whole_at (m ∷ ms) (suc i) d h t =
    whole_at ms i d (omega arith) (right (is_whole (view m.1)) (members_are_whole (members_view ms)) (right (comes_first (string_bytes m.0) (members_view ms)) (is_whole (view m.1) && members_are_whole (members_view ms)) t))

pub whole_rest : (m : Named) (ms : List Named) → members_are_whole (members_view (m ∷ ms)) ≡ true → members_are_whole (members_view ms) ≡ true
whole_rest m ms t = right (is_whole (view m.1)) (members_are_whole (members_view ms)) (right (comes_first (string_bytes m.0) (members_view ms)) (is_whole (view m.1) && members_are_whole (members_view ms)) t)

-- those of a slice that begins behind the first
pub whole_later : (ms : List Named) → members_are_whole (members_view ms) ≡ true → members_are_whole (members_view (take (length ms - 1) (drop 1 ms))) ≡ true
whole_later [] t = refl
whole_later (m ∷ ms) t =
    let less : suc (length ms) - 1 ≡ length ms = omega arith in
    ap (λ (n : ℕ). members_are_whole (members_view (take n ms))) less ∙ (ap (λ (xs : List Named). members_are_whole (members_view xs)) (take-length ms) ∙ whole_rest m ms t)
