-- Pieces that are added to a text one by one.
use Rattle.std.proofs.Common.{◌≡◌, ℕ, List, ◌++◌, append_assoc, ap, ◌∙◌}

pub two_added : (s one two a b : List ℕ) → one ≡ s ++ a → two ≡ one ++ b → two ≡ s ++ (a ++ b)
two_added s one two a b p q = q ∙ (ap (λ (l : List ℕ). l ++ b) p ∙ append_assoc s a b)

pub three_added : (s one two three a b c : List ℕ) → one ≡ s ++ a → two ≡ one ++ b → three ≡ two ++ c → three ≡ s ++ (a ++ (b ++ c))
three_added s one two three a b c p q r = two_added s one three a (b ++ c) p (two_added one two three b c q r)

pub four_added : (s one two three four a b c d : List ℕ) → one ≡ s ++ a → two ≡ one ++ b → three ≡ two ++ c → four ≡ three ++ d → four ≡ s ++ (a ++ (b ++ (c ++ d)))
four_added s one two three four a b c d p q r t = two_added s one four a (b ++ (c ++ d)) p (three_added one two three four b c d q r t)
