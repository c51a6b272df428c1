-- The limits of the connections of a worker: how long one is kept on which nothing comes, how long a request may take to come, the most bytes of a body, and how many bytes may wait to be sent.
use Rattle.std.specs.Prelude.{◌≡◌, ℕ}
use Rattle.ofrep_connections.specs.declared.served.Served.{Served}
use Rattle.ofrep_service.specs.declared.board.ConnectionLimits.{ConnectionLimits}

-- the connections were kept for so many seconds without a byte, and took bodies of at most so many
pub record AreKeptFor (idle_seconds body_bytes : ℕ) (served : Served) : Type 0 where
  pub idle : served.patience.idle_seconds ≡ idle_seconds
  pub request : served.patience.request_seconds ≡ 30
  pub body : served.config.max_body_len ≡ body_bytes

-- the connections of a worker had these limits; while more than 16 MiB wait to be sent no request is read
abbrev pub HasLimits : ConnectionLimits → Served → Type 0
HasLimits limits served = AreKeptFor limits.idle_seconds limits.body_bytes served × (served.config.max_pending ≡ 16777216)

-- the connections for operations had the usual ones: 75 seconds, and 64 MiB
abbrev pub HasUsualLimits : Served → Type 0
HasUsualLimits served = AreKeptFor 75 67108864 served
