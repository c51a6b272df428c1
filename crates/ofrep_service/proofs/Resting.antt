-- What the answers of many turns rest on stands in the end.
use Rattle.std.proofs.Common.{ℕ, List, [], ◌∷◌, ◌++◌, append-nil, append_assoc, arith, subst, sym}
use Rattle.std.specs.List.{flat_map}
use Rattle.http.specs.declared.request.Request.{Request}
use Rattle.http_server.specs.declared.response.Response.{Response}
use Rattle.http_server.specs.Exchange.{Call}
use Rattle.service_layers.specs.Stand.{AllStand, Works}
use Rattle.service_layers.proofs.Standing.{all_stand}

module _ {S : Type 0} (answers : S → Request (List ℕ) → Response → S → Type 0) (looked : S → S → Type 0) (stands : S → Request (List ℕ) → Response → Type 0)
    (given : (old : S) (request : Request (List ℕ)) (response : Response) (new : S) → answers old request response new → stands new request response)
    (stays : (old : S) (request : Request (List ℕ)) (response : Response) (new : S) → answers old request response new → (earlier : Request (List ℕ)) (told : Response) → stands old earlier told → stands new earlier told)
    (looked_stays : (old new : S) → looked old new → (earlier : Request (List ℕ)) (told : Response) → stands old earlier told → stands new earlier told) where
  works_stand : (turns : List (List Call)) (before : List Call) (a b : S) → Works answers looked a turns b → AllStand stands a before → AllStand stands b (before ++ flat_map (λ calls. calls) turns)
  works_stand [] before a b w h = subst (AllStand stands b) (sym (append-nil before)) (subst (λ (s : S). AllStand stands s before) (sym w) h)
  works_stand (calls ∷ turns) before a b w h =
      let seen : AllStand stands w.0 before = λ c d. looked_stays a w.0 w.1 c.0 c.1 (h c d) in
      let answered : AllStand stands w.2.0 (before ++ calls) = all_stand answers stands given stays calls before w.0 w.2.0 seen w.2.1 in
      subst (AllStand stands b) (append_assoc before calls (flat_map (λ calls. calls) turns)) (works_stand turns (before ++ calls) w.2.0 b w.2.2 answered)

  nothing : (s : S) → AllStand stands s []
  nothing s c d = absurd (omega (arith, d.1))

  pub all_rest : (turns : List (List Call)) (a b : S) → Works answers looked a turns b → AllStand stands b (flat_map (λ calls. calls) turns)
  all_rest turns a b w = works_stand turns [] a b w (nothing a)
