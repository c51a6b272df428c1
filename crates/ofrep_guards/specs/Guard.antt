-- What a guard does with a request, and what its answers rest on.
use Rattle.std.specs.Prelude.{◌≡◌, ◌⊎◌, ℕ, List, Option, Some, None}
use Rattle.http.specs.declared.request.Request.{Request}
use Rattle.http_server.specs.declared.response.Response.{Response}
use Rattle.ofrep_guards.specs.Asked.{asked_of, page_of}
use Rattle.ofrep_guards.specs.Reply.{Replies, Shares}
use Rattle.ofrep_guards.specs.declared.reply.Reply.{Reply}

-- the page that a request is for
abbrev pub page_in : Request (List ℕ) → Option (List ℕ)
page_in request = page_of (asked_of request)

-- The guard replies, and the service behind it stays as it is; or that service answers, and the page may read its answer.
abbrev pub Guards : {S : Type 0} → (S → Request (List ℕ) → Response → S → Type 0) → Option Reply → S → Request (List ℕ) → Response → S → Type 0
Guards answers (Some reply) old request response new = Replies reply (page_in request) response × (new ≡ old)
Guards answers None old request response new = (given : Response) × answers old request given new × Shares (page_in request) given response

-- It is a reply of the guard, which tells nothing of flags; or what the service behind it answered rests on what stands there.
abbrev pub Stands : {S : Type 0} → (S → Request (List ℕ) → Response → Type 0) → S → Request (List ℕ) → Response → Type 0
Stands stands s request response =
    ((reply : Reply) × Replies reply (page_in request) response) ⊎ ((given : Response) × stands s request given × Shares (page_in request) given response)
