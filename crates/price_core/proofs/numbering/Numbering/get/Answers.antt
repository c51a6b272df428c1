use Rattle.std.proofs.Common.{ap, ◌∙◌}
use Rattle.price_core.specs.Numbering.{Numbers, number_of}
use Rattle.price_core.proofs.Numbered.{number-borrowed}
use Rattle.price_core.proofs.numbering.Numbering.get.Goals as goal

pub returns : goal.returns
returns c =
    c.copied.ensures ∙ (c.get.ensures.value ∙ (number-borrowed c.args.name.now c.self.inside.by_name.entries ∙ ap (λ (ns : Numbers). number_of ns c.args.name.now) c.self.view_is))
