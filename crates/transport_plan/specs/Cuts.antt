-- What a search leaves that reached no wanted name: a set of names that no point can leave, or enter (Hall's condition; Hoffman's
-- circulation theorem).
use Rattle.std.specs.Prelude.{◌≡◌, ◌==◌, ◌||◌, ℕ, ◌<◌, ◌≤◌, Bool, true, not, List, length, Some}
use Rattle.std.specs.List.{All, Contains, list_all, list_any, slice_get}
use Rattle.std.specs.Map.{keys_of}
use Rattle.transport_core.specs.Assignment.{flows_of, spends_all, inflow}
use Rattle.transport_core.specs.Deficient.{may_become, is_among}
use Rattle.transport_core.specs.Instance.{TransportProblem}

-- No point can leave the names inside: the points there have old names of the set, and all that these may keep or change to is
-- inside and full, and one name of them is above its high limit.
pub record IsStuck (p : TransportProblem) (numbers : List ℕ) (inside : List ℕ → Bool) (set : List (List ℕ)) : Type 0 where
  pub spent : spends_all p.groups (length p.limits) numbers ≡ true
  pub listed : All (Contains (keys_of p.limits)) set
  pub held : list_all (λ f. (f.1 == 0) || (not (inside f.0.1) || is_among set f.0.0.0)) (flows_of p numbers) ≡ true
  pub closed : All (λ l. list_any (λ from. may_become p.pricing from l.0) set ≡ true → inside l.0 ≡ true) p.limits
  pub full : All (λ l. inside l.0 ≡ true → l.1.1 ≤ inflow (flows_of p numbers) l.0) p.limits
  pub above : (v : ℕ) × (l : List ℕ × (ℕ × ℕ)) × (slice_get p.limits v ≡ Some l) × (inside l.0 ≡ true) × (l.1.1 < inflow (flows_of p numbers) l.0)

-- No point can enter the names of the set: each point that has or may take one of them stands at one, none of them is above its
-- low limit, and one is below it.
pub record IsUnmet (p : TransportProblem) (numbers : List ℕ) (set : List (List ℕ)) : Type 0 where
  pub spent : spends_all p.groups (length p.limits) numbers ≡ true
  pub listed : All (Contains (keys_of p.limits)) set
  pub held : list_all (λ f. (f.1 == 0) || (not (is_among set f.0.0.0 || list_any (may_become p.pricing f.0.0.0) set) || is_among set f.0.1)) (flows_of p numbers) ≡ true
  pub bare : All (λ l. is_among set l.0 ≡ true → inflow (flows_of p numbers) l.0 ≤ l.1.0) p.limits
  pub below : (v : ℕ) × (l : List ℕ × (ℕ × ℕ)) × (slice_get p.limits v ≡ Some l) × (is_among set l.0 ≡ true) × (inflow (flows_of p numbers) l.0 < l.1.0)
