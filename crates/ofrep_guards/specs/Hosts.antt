-- The hosts by which a listener is named (RFC 9110, 7.2: Host; RFC 3986, 3.2.2: literals of addresses; RFC 6454, 6.2: an origin as a text).
use Rattle.std.specs.Prelude.{ℕ, ◌==◌, ◌-◌, Bool, true, false, ◌&&◌, ◌||◌, List, [], ◌∷◌, ◌++◌, codes, decimal, length, map, take, drop, nat_le, string_bytes, Option, Some, None, option_map}
use Rattle.std.specs.List.{list_all, list_any}
use Rattle.std.specs.Str.{bytes_eq}
use Rattle.std.specs.Char.{to_ascii_lowercase}
use Rattle.std.specs.Net.Socket.{socket_port}
use Rattle.std.specs.Net.Text.{socket_text}
use Rattle.std.specs.declared.net.socket_addr.SocketAddr.{SocketAddr}
use Rattle.ofrep_guards.specs.declared.hosts.OwnHosts as code

-- each host with its port; and, where the listener is on every address of its machine, what stands behind an address there: the port
pub record Hosts : Type 0 where
  pub named : List (List ℕ)
  pub port : Option (List ℕ)

abbrev pub hosts_view : code.OwnHosts → Hosts
hosts_view h = record { named = map string_bytes h.named.items; port = option_map string_bytes h.port }

-- a port, behind an address
abbrev pub port_text : ℕ → List ℕ
port_text port = codes ":" ++ decimal port

-- those of a listener at an address: the address, and its machine's own name
abbrev pub named_at : SocketAddr → List (List ℕ)
named_at a = socket_text a ∷ (codes "localhost" ++ port_text (socket_port a)) ∷ []

-- ---- whether a host is the listener's own

-- in any case of letters
abbrev pub is_same_host : List ℕ → List ℕ → Bool
is_same_host host name = bytes_eq (map to_ascii_lowercase host) (map to_ascii_lowercase name)

abbrev pub is_digit_or_dot : ℕ → Bool
is_digit_or_dot b = (nat_le 48 b && nat_le b 57) || b == 46

-- an address, and no name that somebody could have lead to it: of digits and dots, or in brackets
abbrev pub is_literal : List ℕ → Bool
is_literal [] = false
is_literal (b ∷ bs) = b == 91 || list_all is_digit_or_dot (b ∷ bs)

-- an address with this port
abbrev pub is_literal_at : List ℕ → List ℕ → Bool
is_literal_at port host = is_literal (take (length host - length port) host) && bytes_eq (drop (length host - length port) host) port

abbrev pub is_anywhere : Option (List ℕ) → List ℕ → Bool
is_anywhere None host = false
is_anywhere (Some port) host = is_literal_at port host

-- it is one of those by which the listener is named, or any address where it is on every one
abbrev pub is_own : Hosts → List ℕ → Bool
is_own hosts host = list_any (is_same_host host) hosts.named || is_anywhere hosts.port host

-- there is a host, and it is the listener's own
abbrev pub names_own : Hosts → Option (List ℕ) → Bool
names_own hosts None = false
names_own hosts (Some host) = is_own hosts host

-- a page that the listener itself has sent
abbrev pub is_own_origin : Hosts → List ℕ → Bool
is_own_origin hosts origin = bytes_eq (take 7 origin) (codes "http://") && is_own hosts (drop 7 origin)

-- no page is named, or such a one
abbrev pub is_no_stranger : Hosts → Option (List ℕ) → Bool
is_no_stranger hosts None = true
is_no_stranger hosts (Some origin) = is_own_origin hosts origin
