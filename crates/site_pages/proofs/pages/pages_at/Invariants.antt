use Rattle.std.proofs.Common.{◌≡◌, map, take}
use Rattle.site_pages.specs.Pages.{page_with}
use Rattle.site_pages.specs.Sites.{place_view}
use Rattle.site_pages.proofs.pages.pages_at.Given as goal

abbrev pub invariant-loop-place : goal.invariant-loop-place
invariant-loop-place l = l.pages.items ≡ map (λ place. page_with l.flag (place_view place)) (take l.place-index l.places)
