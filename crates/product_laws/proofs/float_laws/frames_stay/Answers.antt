use Rattle.product_laws.proofs.Framed as framed
use Rattle.product_laws.proofs.float_laws.frames_stay.Goals as goal

pub returns-clause-frames : goal.returns-clause-frames
returns-clause-frames c = framed.frames_stay c.floats_change_nothing.ensures c.whole_flags_have_no_floats.ensures

pub returns-clause-refusals : goal.returns-clause-refusals
returns-clause-refusals c = framed.refusals_stay c.floats_change_nothing.ensures

pub returns-clause-sent : goal.returns-clause-sent
returns-clause-sent c = framed.plain_flags_are_framed
