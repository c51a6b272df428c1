-- What the program's answers are.
use Rattle.std.specs.Prelude.{reverse}
use Rattle.flag_text.specs.View.{view}
use Rattle.text_spans.specs.View.{path_of}
use Rattle.kept_document.specs.Following as following
use Rattle.kept_document.specs.declared.following.Inside.{Inside}
use Rattle.kept_document.specs.declared.following.Inside.TheVariants as inside
use Rattle.kept_document.specs.declared.following.Spot.{Spot}
use Rattle.kept_document.specs.declared.following.Spot.TheVariants.{Part, Referred, Lost}
use Rattle.kept_document.specs.Place as place
use Rattle.kept_document.specs.Seeking as spec
use Rattle.kept_document.specs.declared.locating.SitePlace.{SitePlace}
use Rattle.kept_document.specs.declared.locating.SitePlace.TheVariants.{Buckets, Shared, Nowhere}
use Rattle.kept_document.specs.declared.seeking.Sought.{Sought}
use Rattle.kept_document.specs.declared.seeking.Sought.TheVariants.{Later, Here}

-- the last step of the way comes first
abbrev pub sought_view : Sought → spec.Sought
sought_view (Later n) = spec.later n
sought_view (Here steps front) = spec.here (reverse (path_of steps.items)) front

abbrev pub spot_view : Spot → following.Spot
spot_view (Part path t) = following.part (path_of path.items) (view t.now)
spot_view (Referred name) = following.referred name.now
spot_view Lost = following.lost

abbrev pub inside_view : Inside → following.Inside
inside_view inside.Nothing = following.nothing
inside_view inside.Itself = following.itself
inside_view (inside.Part t) = following.inner (view t.now)

abbrev pub place_view : SitePlace → place.SitePlace
place_view (Buckets list first last) = place.buckets (path_of list.items) first last
place_view (Shared name) = place.shared name.now
place_view Nowhere = place.nowhere
