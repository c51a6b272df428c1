-- Which texts can be the origin that a browser names (RFC 6454, 6.2: an origin as a text; URL standard, 4.7: schemes, hosts and ports as browsers write them: in lower case, without the scheme's own port).
use Rattle.std.specs.Prelude.{ℕ, ◌==◌, ◌-◌, Bool, not, ◌&&◌, ◌||◌, List, codes, length, take, drop, nat_le, Option, Some, None, option_and_then, if◌then◌else◌}
use Rattle.std.specs.List.{list_any, position_from}
use Rattle.std.specs.Str.{bytes_eq}
use Rattle.ofrep_guards.specs.declared.origins.OriginFault.{OriginFault}
use Rattle.ofrep_guards.specs.declared.origins.OriginFault.TheVariants.{NoOrigin, UpperCase, Path, OwnPort, BadByte}

-- ---- bytes

abbrev pub is_upper : ℕ → Bool
is_upper b = nat_le 65 b && nat_le b 90

-- what begins a path, a query or a fragment
abbrev pub is_path_byte : ℕ → Bool
is_path_byte b = b == 47 || b == 63 || b == 35

-- what a host or a port has: letters, digits, dots, hyphens, underscores, colons and brackets
abbrev pub is_host_byte : ℕ → Bool
is_host_byte b = (nat_le 97 b && nat_le b 122) || (nat_le 48 b && nat_le b 57) || b == 46 || b == 45 || b == 95 || b == 58 || b == 91 || b == 93

-- ---- an origin

-- what follows a colon and two slashes, unless it is nothing
abbrev pub behind : List ℕ → Option (List ℕ)
behind rest = if bytes_eq (take 3 rest) (codes "://") && not (length (drop 3 rest) == 0) then Some (drop 3 rest) else None

-- what follows the scheme: the host, with its port
abbrev pub host_in : List ℕ → Option (List ℕ)
host_in origin = option_and_then (λ at. behind (drop at origin)) (position_from (λ b. b == 58) 0 origin)

-- the scheme's own port is named, which browsers leave out
abbrev pub has_own_port : List ℕ → Bool
has_own_port origin =
    (bytes_eq (take 7 origin) (codes "http://") && bytes_eq (drop (length origin - 3) origin) (codes ":80"))
    || (bytes_eq (take 8 origin) (codes "https://") && bytes_eq (drop (length origin - 4) origin) (codes ":443"))

-- why no browser names an origin of this host
abbrev pub host_fault : List ℕ → List ℕ → Option OriginFault
host_fault origin host =
    if list_any is_upper origin then Some UpperCase else
    (if list_any is_path_byte host then Some Path else
    (if list_any (λ b. not (is_host_byte b)) host then Some BadByte else
    (if has_own_port origin then Some OwnPort else None)))

abbrev pub fault_by : List ℕ → Option (List ℕ) → Option OriginFault
fault_by origin None = Some NoOrigin
fault_by origin (Some host) = host_fault origin host

-- any origin, or the one of pages that have none, such as files
abbrev pub is_word : List ℕ → Bool
is_word entry = bytes_eq entry (codes "*") || bytes_eq entry (codes "null")

-- Why no origin that a browser names is this entry of a list. None: one may be.
abbrev pub origin_fault : List ℕ → Option OriginFault
origin_fault entry = if is_word entry then None else fault_by entry (host_in entry)
