-- Zeros at the ends of digits.
use Rattle.std.proofs.Common.{◌≡◌, ◌≤◌, ◌<◌, ℕ, zero, suc, ◌+◌, Bool, true, false, List, [], ◌∷◌, ◌++◌, length, refl, ap, sym, ◌∙◌, arith, inl, inr, eqb-true, eq-eqb}
use Rattle.std.proofs.lemmas.Bool.{cases_Bool}
use Rattle.std.specs.Prelude.{◌==◌, ◌&&◌, if◌then◌else◌}
use Rattle.logic_values.specs.Decimal.{led_by, without_leading_zeros, without_trailing_zeros}

pub no_cons : {x : ℕ} {xs : List ℕ} → x ∷ xs ≡ [] → ⊥
no_cons {x} {xs} e = let l : length (x ∷ xs) ≡ 0 = ap length e in omega (arith, l)

pub left : (a b : Bool) → (a && b) ≡ true → a ≡ true
left true b e = refl
left false b e = e

pub not_both : false ≡ true → ⊥
not_both e = cc

pub right : (a b : Bool) → (a && b) ≡ true → b ≡ true
right true b e = e
right false b e = absurd (not_both e)

-- digits are there where their count is not 0
pub some_there : (ds : List ℕ) (b : Bool) → b ≡ false → b ≡ (length ds == 0) → ds ≡ [] → ⊥
some_there ds b off is e =
    let l : length ds ≡ 0 = ap length e in
    not_both (sym off ∙ is ∙ eq-eqb (length ds) 0 l)

none_listed : (ds : List ℕ) → (length ds == 0) ≡ true → ds ≡ []
none_listed [] e = refl
none_listed (d ∷ ds) e = let l : length (d ∷ ds) ≡ 0 = eqb-true (length (d ∷ ds)) 0 e in absurd (omega (arith, l))

pub none_there : (ds : List ℕ) (b : Bool) → b ≡ true → b ≡ (length ds == 0) → ds ≡ []
none_there ds b on is = none_listed ds (sym is ∙ on)

-- ---- at the beginning

pub leading_none : (ds es : List ℕ) → without_leading_zeros ds ≡ [] → without_leading_zeros (ds ++ es) ≡ without_leading_zeros es
leading_none [] es h = refl
leading_none (d ∷ ds) es h = elim (cases_Bool (d == 48)) [
  | inl t ↦ rw t (leading_none ds es (rw t at h))
  | inr f ↦ absurd (no_cons (rw f at h))
]

pub leading_some : (ds es : List ℕ) → (without_leading_zeros ds ≡ [] → ⊥) → without_leading_zeros (ds ++ es) ≡ without_leading_zeros ds ++ es
leading_some [] es h = absurd (h refl)
leading_some (d ∷ ds) es h = elim (cases_Bool (d == 48)) [
  | inl t ↦ rw t (leading_some ds es (rw t at h))
  | inr f ↦ rw f refl
]

pub leading_shorter : (ds : List ℕ) → length (without_leading_zeros ds) ≤ length ds
leading_shorter [] = omega arith
leading_shorter (d ∷ ds) = elim (cases_Bool (d == 48)) [
  | inl t ↦ rw t (let k = leading_shorter ds in omega (arith, k))
  | inr f ↦ rw f (omega arith)
]

-- the first digit is no zero where none was dropped
pub first_counts : (d : ℕ) (ds : List ℕ) → without_leading_zeros (d ∷ ds) ≡ d ∷ ds → d ≡ 48 → ⊥
first_counts d ds h e =
    let t : (d == 48) ≡ true = eq-eqb d 48 e in
    let g : without_leading_zeros ds ≡ d ∷ ds = rw t at h in
    let l : length (without_leading_zeros ds) ≡ suc (length ds) = ap length g in
    let k = leading_shorter ds in
    omega (arith, l, k)

-- ---- at the end

pub led_some : (d : ℕ) (xs : List ℕ) → (xs ≡ [] → ⊥) → led_by d xs ≡ d ∷ xs
led_some d [] h = absurd (h refl)
led_some d (x ∷ xs) h = refl

none_joined : (ds es : List ℕ) → ds ++ es ≡ [] → es ≡ []
none_joined [] es h = h
none_joined (d ∷ ds) es h = absurd (no_cons h)

pub trailing_none : (ds es : List ℕ) → without_trailing_zeros es ≡ [] → without_trailing_zeros (ds ++ es) ≡ without_trailing_zeros ds
trailing_none [] es h = h
trailing_none (d ∷ ds) es h = ap (led_by d) (trailing_none ds es h)

pub trailing_some : (ds es : List ℕ) → (without_trailing_zeros es ≡ [] → ⊥) → without_trailing_zeros (ds ++ es) ≡ ds ++ without_trailing_zeros es
trailing_some [] es h = refl
trailing_some (d ∷ ds) es h =
    ap (led_by d) (trailing_some ds es h) ∙ led_some d (ds ++ without_trailing_zeros es) (λ e. h (none_joined ds (without_trailing_zeros es) e))

-- one zero at the end is dropped, another digit keeps all
last_zero : (ds : List ℕ) → without_trailing_zeros (ds ++ 48 ∷ []) ≡ without_trailing_zeros ds
last_zero ds = trailing_none ds (48 ∷ []) refl

one_digit : (d : ℕ) → (d ≡ 48 → ⊥) → without_trailing_zeros (d ∷ []) ≡ d ∷ []
one_digit d h = elim (cases_Bool (d == 48)) [ inl t ↦ absurd (h (eqb-true d 48 t)) | inr f ↦ rw f refl ]

last_digit : (ds : List ℕ) (d : ℕ) → (d ≡ 48 → ⊥) → without_trailing_zeros (ds ++ d ∷ []) ≡ ds ++ d ∷ []
last_digit ds d h =
    let one = one_digit d h in
    trailing_some ds (d ∷ []) (λ e. no_cons (sym one ∙ e)) ∙ ap (λ (l : List ℕ). ds ++ l) one

pub kept_whole : (rest others : List ℕ) (d : ℕ) → rest ≡ others ++ d ∷ [] → (d ≡ 48 → ⊥) → rest ≡ without_trailing_zeros rest
kept_whole rest others d is n = is ∙ sym (last_digit others d n) ∙ ap without_trailing_zeros (sym is)

pub zero_dropped : (rest others : List ℕ) (d : ℕ) → rest ≡ others ++ d ∷ [] → d ≡ 48 → without_trailing_zeros others ≡ without_trailing_zeros rest
zero_dropped rest others d is z = sym (last_zero others) ∙ ap (λ k. without_trailing_zeros (others ++ k ∷ [])) (sym z) ∙ ap without_trailing_zeros (sym is)

-- nothing was dropped at the end of digits, nor of those behind the first
led_rest : (d : ℕ) (ds ws : List ℕ) → led_by d ws ≡ d ∷ ds → ws ≡ ds
led_rest d ds [] h = elim (cases_Bool (d == 48)) [
  | inl t ↦ absurd (no_cons (sym (rw t at h)))
  | inr f ↦ ap (λ (l : List ℕ). rest l) (rw f at h)
]
  where
    rest : List ℕ → List ℕ
    rest [] = []
    rest (x ∷ xs) = xs
led_rest d ds (w ∷ ws) h = ap (λ (l : List ℕ). rest l) h
  where
    rest : List ℕ → List ℕ
    rest [] = []
    rest (x ∷ xs) = xs

pub rest_kept : (d : ℕ) (ds : List ℕ) → without_trailing_zeros (d ∷ ds) ≡ d ∷ ds → without_trailing_zeros ds ≡ ds
rest_kept d ds h = led_rest d ds (without_trailing_zeros ds) h

pub last_counts : (d : ℕ) → without_trailing_zeros (d ∷ []) ≡ d ∷ [] → d ≡ 48 → ⊥
last_counts d h e = let t : (d == 48) ≡ true = eq-eqb d 48 e in no_cons (sym (rw t at h))
