-- Inputs that are none of the flag of their page. An operation without a bucketing expression hashes the flag's key followed by the
-- targeting key (https://flagd.dev/reference/custom-operations/fractional-operation/), so each input that it reaches begins with the key.
use Rattle.std.specs.Prelude.{ℕ, List, Bool, not, ◌&&◌, nat_eq, is_none}
use Rattle.std.specs.List.{list_any, starts_with}
use Rattle.book_core.specs.Book.{Inputs}
use Rattle.book_core.specs.Page.{PageName}

-- the input does not begin with the key
abbrev pub lacks : List ℕ → List ℕ → Bool
lacks key input = not (starts_with nat_eq input key)

-- no evaluation of the page's flag reaches the input on the page
abbrev pub is_foreign : PageName → List ℕ → Bool
is_foreign page input = is_none page.by && lacks page.flag input

-- one of these inputs is such
abbrev pub has_foreign : PageName → Inputs → Bool
has_foreign page inputs = list_any (is_foreign page) inputs
