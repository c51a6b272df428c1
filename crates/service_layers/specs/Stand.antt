-- What answers rest on stands.
use Rattle.std.specs.Prelude.{◌≡◌, ℕ, List, [], ◌∷◌, Contains}
use Rattle.http.specs.declared.request.Request.{Request}
use Rattle.http_server.specs.declared.response.Response.{Response}
use Rattle.http_server.specs.Exchange.{Call, Chain}

-- in this state, what the answer of each of the calls rests on stands
abbrev pub AllStand : {S : Type 0} → (S → Request (List ℕ) → Response → Type 0) → S → List Call → Type 0
AllStand stands s calls = (c : Call) → Contains calls c → stands s c.0 c.1

-- What a service does, turn by turn: a look, and then calls, each from the state that the one before left.
abbrev pub Works : {S : Type 0} → (S → Request (List ℕ) → Response → S → Type 0) → (S → S → Type 0) → S → List (List Call) → S → Type 0
Works answers looked old [] new = new ≡ old
Works {S} answers looked old (calls ∷ turns) new =
    (seen : S) × looked old seen × ((next : S) × Chain answers seen calls next × Works answers looked next turns new)
