-- Fields that are added one after the other.
use Rattle.std.proofs.Common.{◌≡◌, ◌∙◌, ℕ, List, [], ◌∷◌, ◌++◌, ap, append_assoc}
use Rattle.http1.specs.Fields.{Header}
use Rattle.http_header.specs.FieldValue.{FieldValue, plain_value}

-- two are those two
pub two : (a b c : List Header) (l m : List ℕ) (x y : FieldValue) (s t : List ℕ) → x ≡ plain_value s → y ≡ plain_value t
    → b ≡ a ++ (l, x.bytes) ∷ [] → c ≡ b ++ (m, y.bytes) ∷ [] → c ≡ a ++ ((l, s) ∷ (m, t) ∷ [])
two a b c l m x y s t is_s is_t first second =
    second ∙ ap (λ (h : List Header). h ++ (m, y.bytes) ∷ []) first
    ∙ append_assoc a ((l, x.bytes) ∷ []) ((m, y.bytes) ∷ [])
    ∙ ap (λ (v : FieldValue). a ++ ((l, v.bytes) ∷ (m, y.bytes) ∷ [])) is_s
    ∙ ap (λ (v : FieldValue). a ++ ((l, s) ∷ (m, v.bytes) ∷ [])) is_t

-- three are those three
pub three : (a b c d : List Header) (l m n : List ℕ) (x y z : FieldValue) (s t u : List ℕ) → x ≡ plain_value s → y ≡ plain_value t → z ≡ plain_value u
    → b ≡ a ++ (l, x.bytes) ∷ [] → c ≡ b ++ (m, y.bytes) ∷ [] → d ≡ c ++ (n, z.bytes) ∷ [] → d ≡ a ++ ((l, s) ∷ (m, t) ∷ (n, u) ∷ [])
three a b c d l m n x y z s t u is_s is_t is_u first second third =
    third ∙ ap (λ (h : List Header). h ++ (n, z.bytes) ∷ []) (second ∙ ap (λ (h : List Header). h ++ (m, y.bytes) ∷ []) first)
    ∙ append_assoc (a ++ (l, x.bytes) ∷ []) ((m, y.bytes) ∷ []) ((n, z.bytes) ∷ [])
    ∙ append_assoc a ((l, x.bytes) ∷ []) ((m, y.bytes) ∷ (n, z.bytes) ∷ [])
    ∙ ap (λ (v : FieldValue). a ++ ((l, v.bytes) ∷ (m, y.bytes) ∷ (n, z.bytes) ∷ [])) is_s
    ∙ ap (λ (v : FieldValue). a ++ ((l, s) ∷ (m, v.bytes) ∷ (n, z.bytes) ∷ [])) is_t
    ∙ ap (λ (v : FieldValue). a ++ ((l, s) ∷ (m, t) ∷ (n, v.bytes) ∷ [])) is_u

-- one is that one
pub one : (a b : List Header) (l : List ℕ) (x : FieldValue) (s : List ℕ) → x ≡ plain_value s → b ≡ a ++ (l, x.bytes) ∷ [] → b ≡ a ++ ((l, s) ∷ [])
one a b l x s is first = first ∙ ap (λ (v : FieldValue). a ++ (l, v.bytes) ∷ []) is
