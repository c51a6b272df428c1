-- Parts that are added one after the other.
use Rattle.std.proofs.Common.{◌≡◌, ◌∙◌, List, ◌++◌, ℕ, ap, append_assoc}

pub two : (a b c x y : List ℕ) → b ≡ a ++ x → c ≡ b ++ y → c ≡ a ++ (x ++ y)
two a b c x y is_b is_c = is_c ∙ ap (λ (l : List ℕ). l ++ y) is_b ∙ append_assoc a x y

pub three : (a b c d x y z : List ℕ) → b ≡ a ++ x → c ≡ b ++ y → d ≡ c ++ z → d ≡ a ++ (x ++ (y ++ z))
three a b c d x y z is_b is_c is_d = two a b d x (y ++ z) is_b (two b c d y z is_c is_d)

pub four : (a b c d e x y z u : List ℕ) → b ≡ a ++ x → c ≡ b ++ y → d ≡ c ++ z → e ≡ d ++ u → e ≡ a ++ (x ++ (y ++ (z ++ u)))
four a b c d e x y z u is_b is_c is_d is_e = two a b e x (y ++ (z ++ u)) is_b (three b c d e y z u is_c is_d is_e)

pub five : (a b c d e f x y z u v : List ℕ) → b ≡ a ++ x → c ≡ b ++ y → d ≡ c ++ z → e ≡ d ++ u → f ≡ e ++ v → f ≡ a ++ (x ++ (y ++ (z ++ (u ++ v))))
five a b c d e f x y z u v is_b is_c is_d is_e is_f = two a b f x (y ++ (z ++ (u ++ v))) is_b (four b c d e f y z u v is_c is_d is_e is_f)
