-- The peers of a slab, as it changes.
use Rattle.std.proofs.Common.{◌≡◌, ℕ, ◌==◌, true, false, List, Some, None, Option, Result, Ok, Err, IfOk, OnErr, ap, refl, sym, subst, ◌∙◌}
use Rattle.std.proofs.lemmas.Bool.{eqb-true, eqb-false}
use Rattle.http.specs.declared.request.Request.{Request}
use Rattle.http_server.specs.declared.response.Response.{Response}
use Rattle.http_server.specs.Connection.{history}
use Rattle.http_server.specs.declared.connection.Connection.{Connection}
use Rattle.slab.specs.Slab.{Slab, Updates, get, with_value}
use Rattle.slab.proofs.SlabLemmas.{Updates-with_value}
use Rattle.service_layers.specs.Stand.{AllStand}
use Rattle.service_layers.proofs.Standing.{Leads, still_stand}
use Rattle.ofrep_connections.specs.Socket.{IsTied}
use Rattle.ofrep_connections.specs.Stand.{PeerStands, PeersStand}
use Rattle.ofrep_connections.specs.declared.peer.Peer.{Peer}

module _ {S T : Type 0} (stands : S → Request (List ℕ) → Response → Type 0) (contents : T → Option (List ℕ)) (s : S) where
  -- what is said of the peer at the key, where there is one
  abbrev pub IfStands : Option (Peer T) → Type 0
  IfStands None = Unit {0}
  IfStands (Some peer) = PeerStands stands contents s peer

  of_slot : (slot : Option (Peer T)) (peer : Peer T) → IfStands slot → slot ≡ Some peer → PeerStands stands contents s peer
  of_slot slot peer h e = subst IfStands e h

  -- one slot of the slab has changed
  pub updated : (old new : Slab (Peer T)) (key : ℕ) (slot : Option (Peer T)) → Updates old new key slot → IfStands slot → PeersStand stands contents s old → PeersStand stands contents s new
  updated old new key slot u h p other peer e = (elim (other == key) as (λ b. (other == key) ≡ b → PeerStands stands contents s peer) [
    | true ↦ λ same. of_slot slot peer h (sym (subst (λ (k : ℕ). get new k ≡ slot) (sym (eqb-true other key same)) u.changed) ∙ e)
    | false ↦ λ differs. p other peer (sym (u.others other (eqb-false other key differs)) ∙ e)
  ]) refl

  pub removed : (old new : Slab (Peer T)) (key : ℕ) → Updates old new key None → PeersStand stands contents s old → PeersStand stands contents s new
  removed old new key u p = updated old new key None u tt p

  -- the peer at the key has become another
  pub replaced : (old : Slab (Peer T)) (key : ℕ) (peer other : Peer T) → get old key ≡ Some peer → PeerStands stands contents s other
      → PeersStand stands contents s old → PeersStand stands contents s (with_value old key other)
  replaced old key peer other is h p = updated old (with_value old key other) key (Some other) (Updates-with_value old key other (rw is refl)) h p

  same_peer : (peer other : Peer T) → other.connection ≡ peer.connection → (other.dropping ≡ None → contents other.socket ≡ contents peer.socket) → (other.dropping ≡ None → peer.dropping ≡ None)
      → PeerStands stands contents s peer → PeerStands stands contents s other
  same_peer peer other c g d h = (
    subst (λ (k : Connection). AllStand stands s (history k).calls) (sym c) h.0,
    λ none. subst (λ (to : Option (List ℕ)). IsTied to (history other.connection).sent) (sym (g none)) (subst (λ (k : Connection). IsTied (contents peer.socket) (history k).sent) (sym c) (h.1 (d none))),
  )

  -- the peer at the key has not answered, and been given nothing unless what comes from it is dropped now
  pub kept : (old : Slab (Peer T)) (key : ℕ) (peer other : Peer T) → get old key ≡ Some peer → other.connection ≡ peer.connection → (other.dropping ≡ None → contents other.socket ≡ contents peer.socket)
      → (other.dropping ≡ None → peer.dropping ≡ None) → PeersStand stands contents s old → PeersStand stands contents s (with_value old key other)
  kept old key peer other is c g d p = replaced old key peer other is (same_peer peer other c g d (p key peer is)) p

  pub inserted : {E : Type 0} (r : Result ℕ E) (old new : Slab (Peer T)) (peer : Peer T) → IfOk r (λ key. Updates old new key (Some peer)) → OnErr r (new ≡ record old { capacity = new.capacity })
      → PeerStands stands contents s peer → PeersStand stands contents s old → PeersStand stands contents s new
  inserted (Ok key) old new peer u e h p = updated old new key (Some peer) u h p
  inserted (Err x) old new peer u e h p = λ k q g. p k q (sym (ap (λ (t : Slab (Peer T)). get t k) e) ∙ g)

module _ {S T : Type 0} (answers : S → Request (List ℕ) → Response → S → Type 0) (stands : S → Request (List ℕ) → Response → Type 0) (contents : T → Option (List ℕ))
    (given : (old : S) (request : Request (List ℕ)) (response : Response) (new : S) → answers old request response new → stands new request response)
    (stays : (old : S) (request : Request (List ℕ)) (response : Response) (new : S) → answers old request response new → (earlier : Request (List ℕ)) (told : Response) → stands old earlier told → stands new earlier told) where
  -- the others' answers still rest on what stands
  pub peers_stay : (a b : S) (peers : Slab (Peer T)) → PeersStand stands contents a peers → Leads answers a b → PeersStand stands contents b peers
  peers_stay a b peers p x key peer e =
      let h = p key peer e in
      (still_stand answers stands given stays (history peer.connection).calls a b h.0 x, h.1)

-- a look takes nothing from what stands
pub peers_looked : {S T : Type 0} (stands : S → Request (List ℕ) → Response → Type 0) (contents : T → Option (List ℕ)) (looked : S → S → Type 0)
    (stays : (old new : S) → looked old new → (earlier : Request (List ℕ)) (told : Response) → stands old earlier told → stands new earlier told)
    (a b : S) (peers : Slab (Peer T)) → looked a b → PeersStand stands contents a peers → PeersStand stands contents b peers
peers_looked stands contents looked stays a b peers l p key peer e =
    let h = p key peer e in
    (λ c d. stays a b l c.0 c.1 (h.0 c d), h.1)
