-- What dated answers rest on.
use Rattle.std.proofs.Common.{ℕ, List}
use Rattle.http.specs.declared.request.Request.{Request}
use Rattle.http1.specs.Fields.{Header}
use Rattle.http_server.specs.declared.response.Response.{Response}
use Rattle.service_layers.specs.Date.{Dates}

-- some fields were added to what the service answered, which rests on what stands there; or the response tells nothing
abbrev pub Stands : {S : Type 0} → (S → Request (List ℕ) → Response → Type 0) → S → Request (List ℕ) → Response → Type 0
Stands stands s request response = (more : List Header) × (given : Response) × stands s request given × Dates more given response

module _ {S : Type 0} (answers : S → Request (List ℕ) → Response → S → Type 0) (stands : S → Request (List ℕ) → Response → Type 0) where
  pub dated : ((old : S) (request : Request (List ℕ)) (response : Response) (new : S) → answers old request response new → stands new request response)
      → (more : List Header) (old : S) (request : Request (List ℕ)) (response : Response) (new : S)
      → ((given : Response) × answers old request given new × Dates more given response) → Stands stands new request response
  dated given more old request response new is = (more, is.0, given old request is.0 new is.1, is.2)

  pub dated_stays : ((old : S) (request : Request (List ℕ)) (response : Response) (new : S) → answers old request response new
      → (earlier : Request (List ℕ)) (told : Response) → stands old earlier told → stands new earlier told)
      → (more : List Header) (old : S) (request : Request (List ℕ)) (response : Response) (new : S)
      → ((given : Response) × answers old request given new × Dates more given response)
      → (earlier : Request (List ℕ)) (told : Response) → Stands stands old earlier told → Stands stands new earlier told
  dated_stays stays more old request response new is earlier told rests =
      (rests.0, rests.1, stays old request is.0 new is.1 earlier rests.1 rests.2, rests.3)

module _ {S : Type 0} (looked : S → S → Type 0) (stands : S → Request (List ℕ) → Response → Type 0) where
  pub looked_stays : ((old new : S) → looked old new → (earlier : Request (List ℕ)) (told : Response) → stands old earlier told → stands new earlier told)
      → (old new : S) → looked old new → (earlier : Request (List ℕ)) (told : Response) → Stands stands old earlier told → Stands stands new earlier told
  looked_stays stays old new is earlier told rests = (rests.0, rests.1, stays old new is earlier rests.1 rests.2, rests.3)
