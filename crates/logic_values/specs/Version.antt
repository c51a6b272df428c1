-- Versions (flagd: `sem_ver`; Semantic Versioning 2.0.0).
use Rattle.std.specs.Prelude.{ℕ, ◌==◌, Bool, false, ◌&&◌, ◌||◌, List, [], ◌∷◌, ◌++◌, count_by, codes, if◌then◌else◌, Option, Some, None}
use Rattle.std.specs.Char.{is_ascii_digit}
use Rattle.std.specs.List.{list_all}
use Rattle.std.specs.Str.{bytes_eq}
use Rattle.std.specs.Result.{result_ok}
use Rattle.std.specs.declared.cmp.Ordering.{Ordering}
use Rattle.std.specs.Ordering.{nat_cmp, ordering_then, is_eq, is_ne, is_lt, is_le, is_gt, is_ge}
use Rattle.semver.specs.Parse.{Parts, version_parts}
use Rattle.semver.specs.Order.{pre_cmp}
use Rattle.flag_text.specs.Shape.{Shape, text}

-- without one leading `v` or `V`
abbrev pub without_v : List ℕ → List ℕ
without_v [] = []
without_v (b ∷ bs) = if (b == 118) || (b == 86) then bs else b ∷ bs

abbrev pub is_dot : ℕ → Bool
is_dot b = b == 46

-- Numbers with dots between them are completed to three by `.0`. Where a number between the dots is missing, the text is unreadable either way.
abbrev pub completed : List ℕ → List ℕ
completed s =
    if list_all (λ b. is_ascii_digit b || is_dot b) s
    then (if count_by is_dot s == 0 then s ++ codes ".0.0" else (if count_by is_dot s == 1 then s ++ codes ".0" else s))
    else s

-- the version that a text spells: a leading `v` dropped, completed, and read as SemVer 2.0.0
abbrev pub version_of : List ℕ → Option Parts
version_of s = result_ok (version_parts (completed (without_v s)))

-- precedence (SemVer 2.0.0, 11)
abbrev pub precedence : Parts → Parts → Ordering
precedence a b = ordering_then (nat_cmp a.0 b.0) (ordering_then (nat_cmp a.1 b.1) (ordering_then (nat_cmp a.2 b.2) (pre_cmp a.3 b.3)))

abbrev pub same_major : Parts → Parts → Bool
same_major a b = a.0 == b.0

abbrev pub same_minor : Parts → Parts → Bool
same_minor a b = (a.0 == b.0) && (a.1 == b.1)

-- the operators by their text
abbrev pub matches : List ℕ → Parts → Parts → Bool
matches op a b =
    if bytes_eq op (codes "=") then is_eq (precedence a b)
    else (if bytes_eq op (codes "!=") then is_ne (precedence a b)
    else (if bytes_eq op (codes "<") then is_lt (precedence a b)
    else (if bytes_eq op (codes "<=") then is_le (precedence a b)
    else (if bytes_eq op (codes ">") then is_gt (precedence a b)
    else (if bytes_eq op (codes ">=") then is_ge (precedence a b)
    else (if bytes_eq op (codes "^") then same_major a b
    else (if bytes_eq op (codes "~") then same_minor a b
    else false)))))))

abbrev pub both_read : List ℕ → Option Parts → Option Parts → Bool
both_read op None b = false
both_read op (Some a) None = false
both_read op (Some a) (Some b) = matches op a b

-- `sem_ver`, of three texts
abbrev pub version_matches : Shape → Shape → Shape → Bool
version_matches (text a) (text op) (text b) = both_read op (version_of a) (version_of b)
version_matches a op b = false
