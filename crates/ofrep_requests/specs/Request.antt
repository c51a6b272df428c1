-- What a request asks for (OpenFeature Remote Evaluation Protocol: paths of flag evaluation; RFC 9110, 9.1 and 15.5.6: methods; RFC 3986, 2.1: percent-encoding).
use Rattle.std.specs.Prelude.{ℕ, ◌==◌, Bool, ◌||◌, List, length, take, drop, codes, Option, Some, None, if◌then◌else◌}
use Rattle.std.specs.List.{list_any}
use Rattle.std.specs.Str.{is_utf8, bytes_eq}
use Rattle.percent_encoding.specs.Percent.{percent_decode}
use Rattle.ofrep_requests.specs.declared.place.Place.{Place}
use Rattle.ofrep_requests.specs.declared.place.Place.TheVariants.{OneFlag, EveryFlag, Health, Metrics, Nowhere}

-- the path of every flag's evaluation
abbrev pub every_flag_path : List ℕ
every_flag_path = codes "/ofrep/v1/evaluate/flags"

-- what stands before the key in the path of one flag's evaluation
abbrev pub one_flag_route : List ℕ
one_flag_route = codes "/ofrep/v1/evaluate/flags/"

-- the path begins with that route
abbrev pub is_of_one_flag : List ℕ → Bool
is_of_one_flag path = bytes_eq (take (length one_flag_route) path) one_flag_route

-- what a path leads to; a key is read of the path later
abbrev pub place_of : List ℕ → Place
place_of path =
    if bytes_eq path every_flag_path then EveryFlag else
    (if bytes_eq path (codes "/healthz") then Health else
    (if bytes_eq path (codes "/readyz") then Health else
    (if bytes_eq path (codes "/metrics") then Metrics else
    (if is_of_one_flag path then OneFlag else Nowhere))))

-- the one method that a place takes, as the field Allow names it
abbrev pub method_at : Place → Option (List ℕ)
method_at OneFlag = Some (codes "POST")
method_at EveryFlag = Some (codes "POST")
method_at Health = Some (codes "GET")
method_at Metrics = Some (codes "GET")
method_at Nowhere = None

-- the bytes as a text, where they are UTF-8
abbrev pub text_if : List ℕ → Option (List ℕ)
text_if bytes = if is_utf8 bytes then Some bytes else None

-- a segment of a path that is no key, whatever its escapes
abbrev pub is_no_key : List ℕ → Bool
is_no_key segment = length segment == 0 || list_any (λ b. b == 47) segment

-- the key that the rest of a path stands for, its escapes decoded: one segment of the path, not empty
abbrev pub key_of : List ℕ → Option (List ℕ)
key_of segment = if is_no_key segment then None else text_if (percent_decode segment)

-- the key in a path
abbrev pub key_in : List ℕ → Option (List ℕ)
key_in path = if is_of_one_flag path then key_of (drop (length one_flag_route) path) else None
