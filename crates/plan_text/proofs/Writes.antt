-- Tokens that are written behind one another.
use Rattle.std.proofs.Common.{◌≡◌, List, ◌++◌, ap, ◌∙◌, append_assoc}
use Rattle.json.specs.Token.{Token}

-- what was written last, behind what was written before it
pub behind : (old mid new first last : List Token) → mid ≡ old ++ first → new ≡ mid ++ last → new ≡ old ++ (first ++ last)
behind old mid new first last e h = h ∙ (ap (λ ts. ts ++ last) e ∙ append_assoc old first last)
