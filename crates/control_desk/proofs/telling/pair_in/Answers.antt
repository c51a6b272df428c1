use Rattle.std.proofs.Common.{List, MatchOption, ℕ, Bor, Option, codes, inl, inr, subst}
use Rattle.control_answers.specs.Token.{HasNoMember, IsMember}
use Rattle.control_desk.proofs.telling.pair_in.Goals as goal

-- there is no plan
pub returns-in_default-2 : goal.returns-in_default-2
returns-in_default-2 c =
    let text = c.in-Ok.text.now in
    let none = subst (λ (o : Option (Bor (List ℕ))). MatchOption o (HasNoMember text (codes "plan")) (λ bytes. IsMember text (codes "plan") bytes.now)) c.in_default-2.is c.in_ok-plan.ensures in
    inr (inl (subst (λ (t : List ℕ). HasNoMember t (codes "plan")) c.in-Ok.ensures.0 none))

-- there is no request
pub returns-in_default-3 : goal.returns-in_default-3
returns-in_default-3 c =
    let text = c.in-Ok.text.now in
    let none = subst (λ (o : Option (Bor (List ℕ))). MatchOption o (HasNoMember text (codes "request")) (λ bytes. IsMember text (codes "request") bytes.now)) c.in_default-3.is c.in_ok-request.ensures in
    inr (inr (subst (λ (t : List ℕ). HasNoMember t (codes "request")) c.in-Ok.ensures.0 none))
