-- What the answers of connections rest on stands.
use Rattle.std.specs.Prelude.{◌≡◌, ℕ, List, Option, Some, None}
use Rattle.http.specs.declared.request.Request.{Request}
use Rattle.http_server.specs.declared.response.Response.{Response}
use Rattle.http_server.specs.Connection.{history}
use Rattle.slab.specs.Slab.{Slab, get}
use Rattle.service_layers.specs.Stand.{AllStand}
use Rattle.ofrep_connections.specs.Socket.{IsTied}
use Rattle.ofrep_connections.specs.declared.peer.Peer.{Peer}

module _ {S T : Type 0} (stands : S → Request (List ℕ) → Response → Type 0) (contents : T → Option (List ℕ)) (s : S) where
  -- in this state, what the answers of a peer rest on stands, and its socket was given what its connection has sent, until a refusal is
  -- given and what still comes is dropped
  abbrev pub PeerStands : Peer T → Type 0
  PeerStands peer = AllStand stands s (history peer.connection).calls × (peer.dropping ≡ None → IsTied (contents peer.socket) (history peer.connection).sent)

  -- so it is of each peer
  abbrev pub PeersStand : Slab (Peer T) → Type 0
  PeersStand peers = (key : ℕ) (peer : Peer T) → get peers key ≡ Some peer → PeerStands peer
