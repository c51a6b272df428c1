-- What goes over the socket of a connection.
use Rattle.std.specs.Prelude.{◌≡◌, ℕ, List, ◌++◌, Option, IfSome}
use Rattle.std.specs.Io.KnownBytes.{append_known, prepend_known}
use Rattle.http_server.specs.History.{History}

-- the connection has received what came from its socket, and its socket was given what it has sent, and nothing else
pub record Exchanges (old new : History) (from from' to to' : Option (List ℕ)) : Type 0 where
  pub more : List ℕ
  pub told : List ℕ
  pub received : new.received ≡ old.received ++ more
  pub came : from ≡ prepend_known more from'
  pub sent : new.sent ≡ old.sent ++ told
  pub given : to' ≡ append_known to told

-- what the socket was given, where it is known, ends with all that the connection has sent
abbrev pub IsTied : Option (List ℕ) → List ℕ → Type 0
IsTied to sent = IfSome to (λ bytes. (before : List ℕ) × (bytes ≡ before ++ sent))
