use Rattle.std.proofs.Common.{◌≡◌, ◌∙◌, ◌∷◌, [], ◌++◌, sym, refl}
use Rattle.note_streams.proofs.Cut.{more_lines, no_more}
use Rattle.note_streams.proofs.distinct.add_lines.Goals as goal

pub cuts-init : goal.cuts-init
cuts-init c = refl

pub cuts-preserved : goal.cuts-preserved
cuts-preserved c =
    let old = c.cuts.lines.items in
    let new = c.push.new.self.items in
    let is : new ≡ old ++ c.in-Some.line ∷ [] = c.in_ok-push.ensures.items in
    more_lines old new c.in-Some.line c.cuts.rest.now c.in-Some.behind.now is c.in-Some.ensures.parts ∙ c.cuts.invariant

pub returns : goal.returns
returns c = sym (no_more c.cuts.lines.items c.cuts.rest.now c.in_default.ensures.parts) ∙ c.cuts.invariant
