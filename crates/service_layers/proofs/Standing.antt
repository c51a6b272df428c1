-- What answers rest on stays.
use Rattle.std.proofs.Common.{ℕ, List, [], ◌∷◌, ◌++◌, Option, Some, None, map, refl, sym, subst, append-nil, append_assoc, inl, inr}
use Rattle.std.proofs.lemmas.List.Elements.{Contains-push_cases}
use Rattle.http.specs.declared.request.Request.{Request}
use Rattle.http_server.specs.declared.response.Response.{Response}
use Rattle.http_server.specs.Exchange.{Call, Calls, Chain}
use Rattle.http_server.proofs.StreamLemmas.{Chain-append}
use Rattle.service_layers.specs.Stand.{AllStand, Works}

module _ {S : Type 0} (answers : S → Request (List ℕ) → Response → S → Type 0) where
  -- some calls lead from the first state to the second
  abbrev pub Leads : S → S → Type 0
  Leads a b = (calls : List Call) × Chain answers a calls b

  pub leads_then : (a b c : S) → Leads a b → Leads b c → Leads a c
  leads_then a b c x y = (x.0 ++ y.0, Chain-append answers x.0 y.0 a b c x.1 y.1)

  pub leads_on : (a b c : S) (xs ys : List Call) → Leads a b → Calls answers b c xs ys → Leads a c
  leads_on a b c xs ys x y = leads_then a b c x (y.0, y.2)

  module _ (stands : S → Request (List ℕ) → Response → Type 0)
      (given : (old : S) (request : Request (List ℕ)) (response : Response) (new : S) → answers old request response new → stands new request response)
      (stays : (old : S) (request : Request (List ℕ)) (response : Response) (new : S) → answers old request response new → (earlier : Request (List ℕ)) (told : Response) → stands old earlier told → stands new earlier told) where
    pub keeps : (calls : List Call) (a b : S) → Chain answers a calls b → (r : Request (List ℕ)) (t : Response) → stands a r t → stands b r t
    keeps [] a b x r t h = subst (λ (s : S). stands s r t) (sym x) h
    keeps (c ∷ calls) a b x r t h = keeps calls x.0 b x.2 r t (stays a c.0 c.1 x.0 x.1 r t h)

    pub all_stand : (calls before : List Call) (a b : S) → AllStand stands a before → Chain answers a calls b → AllStand stands b (before ++ calls)
    all_stand [] before a b h x = subst (AllStand stands b) (sym (append-nil before)) (λ c d. subst (λ (s : S). stands s c.0 c.1) (sym x) (h c d))
    all_stand (c ∷ calls) before a b h x =
        subst (AllStand stands b) (append_assoc before (c ∷ []) calls)
        (all_stand calls (before ++ c ∷ []) x.0 b (λ d i. elim (Contains-push_cases before c d i) [
          | inl was ↦ stays a c.0 c.1 x.0 x.1 d.0 d.1 (h d was)
          | inr same ↦ subst (λ (e : Call). stands x.0 e.0 e.1) same (given a c.0 c.1 x.0 x.1)
        ]) x.2)

    pub stand_after : (a b : S) (before after : List Call) → AllStand stands a before → Calls answers a b before after → AllStand stands b after
    stand_after a b before after h y = subst (AllStand stands b) (sym y.1) (all_stand y.0 before a b h y.2)

    pub still_stand : (calls : List Call) (a b : S) → AllStand stands a calls → Leads a b → AllStand stands b calls
    still_stand calls a b h x c d = keeps x.0 a b x.1 c.0 c.1 (h c d)

-- ---- with looks between the calls

module _ {S : Type 0} (answers : S → Request (List ℕ) → Response → S → Type 0) (looked : S → S → Type 0) where
  -- some turns lead from the first state to the second
  abbrev pub Goes : S → S → Type 0
  Goes a b = (turns : List (List Call)) × Works answers looked a turns b

  -- some turns, and then a look and some calls
  abbrev pub GoesOn : S → S → Type 0
  GoesOn a b = (before : S) × Goes a before × ((seen : S) × looked before seen × Leads answers seen b)

  works_then : (turns : List (List Call)) (calls : List Call) (a before seen b : S) → Works answers looked a turns before → looked before seen → Chain answers seen calls b
      → Works answers looked a (turns ++ calls ∷ []) b
  works_then [] calls a before seen b w l c = (seen, subst (λ (s : S). looked s seen) w l, (b, c, refl))
  works_then (t ∷ turns) calls a before seen b w l c = (w.0, w.1, (w.2.0, w.2.1, works_then turns calls w.2.0 before seen b w.2.2 l c))

  pub goes_look : (a b c : S) → Goes a b → looked b c → GoesOn a c
  goes_look a b c x y = (b, x, (c, y, ([], refl)))

  pub goes_call : (a b c : S) → GoesOn a b → Leads answers b c → GoesOn a c
  goes_call a b c x y = (x.0, x.1, (x.2.0, x.2.1, leads_then answers x.2.0 b c x.2.2 y))

  pub goes_turn : (a b : S) → GoesOn a b → Goes a b
  goes_turn a b x = (x.1.0 ++ x.2.2.0 ∷ [], works_then x.1.0 x.2.2.0 a x.0 x.2.0 b x.1.1 x.2.1 x.2.2.1)
