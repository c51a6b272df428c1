-- The first bytes of a tally.
use Rattle.std.proofs.Common.{◌≡◌, ℕ, true, ◌==◌, List, [], ◌∷◌, refl, sym, ap, ◌∙◌}
use Rattle.std.proofs.lemmas.Bool.{false≢true, eqb-true}
use Rattle.flag_text.proofs.Bools.{left, right}
use Rattle.flagops_shell.specs.Beginning.{begins_member, begins_object, may_begin_record}
use Rattle.flagops_files.specs.Evidence.{begins_tally}
use Rattle.flagops_files.proofs.Blanks.{after_blanks-mark}

opening : (rest : List ℕ) → may_begin_record (123 ∷ 34 ∷ 116 ∷ 97 ∷ rest) ≡ true
unfolding may_begin_record
opening rest = ap begins_object (after_blanks-mark 123 (34 ∷ 116 ∷ 97 ∷ rest) refl) ∙ ap begins_member (after_blanks-mark 34 (116 ∷ 97 ∷ rest) refl)

begins : (a b c d : ℕ) (rest : List ℕ) → a ≡ 123 → b ≡ 34 → c ≡ 116 → d ≡ 97 → may_begin_record (a ∷ b ∷ c ∷ d ∷ rest) ≡ true
begins a b c d rest p q r s = rw (p, q, r, s) (opening rest)

pub tally_may_begin : (bytes : List ℕ) → begins_tally bytes ≡ true → may_begin_record bytes ≡ true
tally_may_begin [] h = absurd (false≢true h)
tally_may_begin (a ∷ []) h = absurd (false≢true (right (123 == a) _ h))
tally_may_begin (a ∷ b ∷ []) h = absurd (false≢true (right (34 == b) _ (right (123 == a) _ h)))
tally_may_begin (a ∷ b ∷ c ∷ []) h = absurd (false≢true (right (116 == c) _ (right (34 == b) _ (right (123 == a) _ h))))
tally_may_begin (a ∷ b ∷ c ∷ d ∷ rest) h =
    let after_a = right (123 == a) _ h in
    let after_b = right (34 == b) _ after_a in
    let after_c = right (116 == c) _ after_b in
    begins a b c d rest (sym (eqb-true 123 a (left (123 == a) _ h))) (sym (eqb-true 34 b (left (34 == b) _ after_a))) (sym (eqb-true 116 c (left (116 == c) _ after_b))) (sym (eqb-true 97 d (left (97 == d) _ after_c)))
