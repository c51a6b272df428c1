-- What elements tell, one behind the other.
use Rattle.std.proofs.Common.{◌≡◌, List, [], ◌++◌, append_assoc, ap, ◌∙◌}

-- four, one behind the other, from nothing
pub four : {X : Type 0} (x0 x1 x2 x3 x4 a b c d : List X) → x0 ≡ [] → x1 ≡ x0 ++ a → x2 ≡ x1 ++ b → x3 ≡ x2 ++ c → x4 ≡ x3 ++ d → x4 ≡ a ++ (b ++ (c ++ d))
four x0 x1 x2 x3 x4 a b c d none first second third fourth =
    let one : x1 ≡ a = first ∙ ap (λ xs. xs ++ a) none in
    fourth ∙ (ap (λ xs. xs ++ d) (third ∙ ap (λ xs. xs ++ c) (second ∙ ap (λ xs. xs ++ b) one)) ∙ (ap (λ xs. xs ++ d) (append_assoc a b c) ∙ (append_assoc a (b ++ c) d ∙ ap (λ xs. a ++ xs) (append_assoc b c d))))
