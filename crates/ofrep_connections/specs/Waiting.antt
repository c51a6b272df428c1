-- What waits to be sent, and what is told in its place.
use Rattle.std.specs.Prelude.{◌≡◌, ◌≤◌, ◌⊎◌, ℕ, List, length, take, Option, Some}
use Rattle.std.specs.Io.KnownBytes.{append_known}
use Rattle.http_server.specs.History.{History}
use Rattle.http_server.specs.Refusal.{refusal_status, refusal_text}
use Rattle.http_server.specs.declared.state.Refusal.{Refusal}
use Rattle.ofrep_connections.specs.Refused.{closing_text, refusal_in}

-- these are the first of all bytes
abbrev pub IsFront : List ℕ → List ℕ → Type 0
IsFront front all = (length front ≤ length all) × (front ≡ take (length front) all)

-- the connection has refused a request, no answer waits before the text that says so, and the socket was given n bytes of that text with
-- its date
pub record IsToldRefusal (h : History) (date : List ℕ) (old new : Option (List ℕ)) : Type 0 where
  pub why : Refusal
  pub n : ℕ
  pub refused : refusal_in h.state ≡ Some why
  pub first : IsFront (refusal_text why) h.pending
  pub given : new ≡ append_known old (take n (closing_text (refusal_status why) date))

-- it is, or the socket was given nothing
abbrev pub TellsRefusal : History → List ℕ → Option (List ℕ) → Option (List ℕ) → Type 0
TellsRefusal h date old new = (new ≡ old) ⊎ IsToldRefusal h date old new
