-- What the answers of a guard rest on stands, and stays.
use Rattle.std.proofs.Common.{◌≡◌, ℕ, List, false, Option, Some, None, inl, inr, subst, sym}
use Rattle.http.specs.declared.request.Request.{Request}
use Rattle.http_server.specs.declared.response.Response.{Response}
use Rattle.ofrep_requests.specs.Request.{place_of}
use Rattle.ofrep_guards.specs.Asked.{Asked, Rules, evaluates, is_foreign, reply_to}
use Rattle.ofrep_guards.specs.Guard.{Guards, Stands}
use Rattle.ofrep_guards.specs.declared.reply.Reply.{Reply}
use Rattle.ofrep_guards.specs.declared.reply.Reply.TheVariants.{Elsewhere}
use Rattle.ofrep_guards.specs.declared.rules.Paths.TheVariants.{Evaluations}

module _ {S : Type 0} (answers : S → Request (List ℕ) → Response → S → Type 0) (stands : S → Request (List ℕ) → Response → Type 0) where
  pub guarded : ((old : S) (request : Request (List ℕ)) (response : Response) (new : S) → answers old request response new → stands new request response)
      → (verdict : Option Reply) (old : S) (request : Request (List ℕ)) (response : Response) (new : S) → Guards answers verdict old request response new → Stands stands new request response
  guarded given (Some reply) old request response new is = inl (reply, is.0)
  guarded given None old request response new is = inr (is.0, given old request is.0 new is.1, is.2)

  pub guarded_stays : ((old : S) (request : Request (List ℕ)) (response : Response) (new : S) → answers old request response new
      → (earlier : Request (List ℕ)) (told : Response) → stands old earlier told → stands new earlier told)
      → (verdict : Option Reply) (old : S) (request : Request (List ℕ)) (response : Response) (new : S) → Guards answers verdict old request response new
      → (earlier : Request (List ℕ)) (told : Response) → Stands stands old earlier told → Stands stands new earlier told
  guarded_stays stays verdict old request response new is earlier told (inl replied) = inl replied
  guarded_stays stays (Some reply) old request response new is earlier told (inr rests) =
      inr (rests.0, subst (λ (s : S). stands s earlier rests.0) (sym is.1) rests.1, rests.2)
  guarded_stays stays None old request response new is earlier told (inr rests) =
      inr (rests.0, stays old request is.0 new is.1 earlier rests.0 rests.1, rests.2)

module _ {S : Type 0} (looked : S → S → Type 0) (stands : S → Request (List ℕ) → Response → Type 0) where
  pub looked_stays : ((old new : S) → looked old new → (earlier : Request (List ℕ)) (told : Response) → stands old earlier told → stands new earlier told)
      → (old new : S) → looked old new → (earlier : Request (List ℕ)) (told : Response) → Stands stands old earlier told → Stands stands new earlier told
  looked_stays stays old new is earlier told (inl replied) = inl replied
  looked_stays stays old new is earlier told (inr rests) = inr (rests.0, stays old new is earlier rests.0 rests.1, rests.2)

-- where the evaluations alone are served, whatever else is asked is answered as an unknown path is
abbrev pub ServesEvaluationsAlone : Type 0
ServesEvaluationsAlone =
    (rules : Rules) (r : Asked) → rules.paths ≡ Evaluations → is_foreign rules.origins r.origin ≡ false → evaluates (place_of r.path) ≡ false → reply_to rules r ≡ Some Elsewhere
