-- That the sites of a written form are those of its expression.
use Rattle.std.specs.Prelude.{◌≡◌, ◌+◌, ℕ, List, [], ◌∷◌, true, Option, Some, None}
use Rattle.flag_text.specs.Shape.{Shape, list, Items}
use Rattle.logic_ast.specs.Expression.{Expression}
use Rattle.logic_ast.specs.Formed.{is_formed}
use Rattle.logic_ast.specs.Sites.{Site, site_at, sites}
use Rattle.logic_ast.specs.Writing.{written, by_written, buckets_written}
use Rattle.text_spans.specs.Path.{Step}
use Rattle.kept_document.specs.Following.{Inside, nothing, itself, inner, led}
use Rattle.kept_document.specs.Seeking.{buckets_from, find_site, here, later}

-- past the written form of an expression as many sites are passed as the expression has
abbrev pub SitesAgree : Type 0
SitesAgree = (e : Expression) (n : ℕ) → is_formed 0 e ≡ true → find_site (sites e + n) (written e) ≡ later n

-- where a way leads in a written form
abbrev pub on_inner : Inside → (Shape → Option Shape) → Option Shape
on_inner nothing f = None
on_inner itself f = None
on_inner (inner t) f = f t

abbrev pub form_at : List Step → Shape → Option Shape
form_at [] t = Some t
form_at (s ∷ way) t = on_inner (led s t) (λ u. form_at way u)

-- the arguments that a site is written with
abbrev pub arguments_of : Site → Items
arguments_of s = by_written s.bucketing (buckets_written s.buckets)

-- the way to site n in the written form leads to the arguments of the expression's site n
abbrev pub SitesFound : Type 0
SitesFound =
    (e : Expression) (n : ℕ) (s : Site) → is_formed 0 e ≡ true → site_at n e ≡ Some s
    → (way : List Step) × (find_site n (written e) ≡ here way (buckets_from (arguments_of s))) × (form_at way (written e) ≡ Some (list (arguments_of s)))
