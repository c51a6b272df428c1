use Rattle.std.proofs.Common.{◌∙◌, ℕ, Option, ap, unwrap_or}
use Rattle.picture.specs.Told.{look_at}
use Rattle.picture.proofs.Looks.{place_in_limits}
use Rattle.picture.proofs.bars.look_of.Goals as goal

pub returns : goal.returns
returns c = ap look_at (c.unwrap_or-place.ensures ∙ ap (λ (o : Option ℕ). unwrap_or o 0) (c.place_among.ensures ∙ place_in_limits c.args.name.now c.args.limits.now))
