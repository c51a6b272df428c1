use Rattle.std.proofs.Common.{◌∙◌, ℕ, ap}
use Rattle.picture.specs.Spelling.{IsPicture, page}
use Rattle.picture.proofs.print.page.Goals as goal

pub returns : goal.returns
unfolding IsPicture
returns c = λ ps body top. (c.args.pictures.now, c.in_ok-text.ensures ∙ ap (λ (h : ℕ). page c.args.title h c.args.pictures.now) top, body)
