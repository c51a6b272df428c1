-- Turns after turns.
use Rattle.std.proofs.Common.{ℕ, List, [], ◌∷◌, ◌++◌, subst}
use Rattle.http.specs.declared.request.Request.{Request}
use Rattle.http_server.specs.declared.response.Response.{Response}
use Rattle.http_server.specs.Exchange.{Call}
use Rattle.service_layers.specs.Stand.{Works}
use Rattle.service_layers.proofs.Standing.{Goes}

module _ {S : Type 0} (answers : S → Request (List ℕ) → Response → S → Type 0) (looked : S → S → Type 0) where
  works_append : (xs ys : List (List Call)) (a b c : S) → Works answers looked a xs b → Works answers looked b ys c → Works answers looked a (xs ++ ys) c
  works_append [] ys a b c x y = subst (λ (s : S). Works answers looked s ys c) x y
  works_append (t ∷ xs) ys a b c x y = (x.0, x.1, (x.2.0, x.2.1, works_append xs ys x.2.0 b c x.2.2 y))

  pub goes_then : (a b c : S) → Goes answers looked a b → Goes answers looked b c → Goes answers looked a c
  goes_then a b c x y = (x.0 ++ y.0, works_append x.0 y.0 a b c x.1 y.1)
