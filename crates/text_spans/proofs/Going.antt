-- The tokens and the text that are left, as they go on.
use Rattle.std.proofs.Common.{◌≡◌, ℕ, zero, suc, ◌+◌, List, [], ◌∷◌, length, drop, Bool, true, false, cond, ◌==◌, Some, refl, sym, ap, ◌∙◌, subst, arith}
use Rattle.json.specs.Token.{Token}
use Rattle.json.specs.Json.{after_end_array}
use Rattle.json.proofs.Grammar.{closed_array}
use Rattle.text_spans.specs.Place.{GoOn, IsEnd, after_string, after_token, after_word, behind, ends_number, from_token}
use Rattle.text_spans.proofs.Lexing.{end_end, end_next, end_same}

pub behind_none : (t : List ℕ) → behind 0 t ≡ t
unfolding behind
behind_none t = refl

pub behind_one : (t : List ℕ) → behind 1 t ≡ after_token (from_token t)
unfolding behind
behind_one t = refl

pub behind_more : (n m : ℕ) (t : List ℕ) → behind (n + m) t ≡ behind m (behind n t)
unfolding behind
behind_more zero m t = let e : zero + m ≡ m = omega arith in ap (λ k. behind k t) e
behind_more (suc n) m t = let e : suc n + m ≡ suc (n + m) = omega arith in ap (λ k. behind k t) e ∙ behind_more n m (after_token (from_token t))

pub goes_none : (ts us : List Token) (t : List ℕ) → us ≡ ts → GoOn ts t us t
goes_none ts us t e = (0, omega (arith, ap length e), sym (behind_none t))

pub goes_one : (ts us : List Token) (k : Token) (t here r : List ℕ) → ts ≡ k ∷ us → here ≡ from_token t → r ≡ after_token here → GoOn ts t us r
goes_one ts us k t here r e h p = (1, omega (arith, ap length e), p ∙ ap after_token h ∙ sym (behind_one t))

pub goes_closed : (ts us : List Token) (t here r : List ℕ) → after_end_array ts ≡ Some us → here ≡ from_token t → r ≡ after_token here → GoOn ts t us r
goes_closed ts us t here r e h p = goes_one ts us Token.end_array t here r (closed_array ts us e) h p

pub goes_on : (ts us vs : List Token) (t r q : List ℕ) → GoOn ts t us r → GoOn us r vs q → GoOn ts t vs q
goes_on ts us vs t r q (n, e, f) (m, g, h) = (n + m, omega (arith, e, g), h ∙ ap (behind m) f ∙ sym (behind_more n m t))

-- ---- what is left is an end of the text

dropped : (n : ℕ) (t : List ℕ) → IsEnd (drop n t) t
dropped zero t = end_same t
dropped (suc n) [] = end_same []
dropped (suc n) (x ∷ xs) = end_end (drop n xs) xs (x ∷ xs) (dropped n xs) (end_next x xs (x ∷ xs) (end_same (x ∷ xs)))

pub from_token_end : (t : List ℕ) → IsEnd (from_token t) t
from_token_end t = dropped _ t

either_end : (b : Bool) (x y t : List ℕ) → IsEnd x t → IsEnd y t → IsEnd (cond b x y) t
either_end true x y t p q = p
either_end false x y t p q = q

pub after_token_end : (t : List ℕ) → IsEnd (after_token t) t
after_token_end [] = end_same []
after_token_end (x ∷ xs) =
    let next : IsEnd xs (x ∷ xs) = end_next x xs (x ∷ xs) (end_same (x ∷ xs)) in
    either_end (ends_number x) _ _ _ next
    (either_end (x == 34) _ _ _ (end_end _ xs (x ∷ xs) (dropped _ xs) next) (end_end _ xs (x ∷ xs) (dropped _ xs) next))

pub behind_end : (n : ℕ) (t : List ℕ) → IsEnd (behind n t) t
unfolding behind
behind_end zero t = end_same t
behind_end (suc n) t =
    let here = from_token t in
    end_end _ (after_token here) t (behind_end n (after_token here)) (end_end (after_token here) here t (after_token_end here) (from_token_end t))

-- behind a token that begins there
pub behind_start : (n : ℕ) (t : List ℕ) → IsEnd (behind (suc n) t) (from_token t)
unfolding behind
behind_start n t = end_end _ (after_token (from_token t)) (from_token t) (behind_end n (after_token (from_token t))) (after_token_end (from_token t))
