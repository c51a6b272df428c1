use Rattle.flagops_pictures.proofs.Tallies.{drawn_there, ramp_there}
use Rattle.flagops_pictures.proofs.laws.tallies_draw_as_books.Goals as goal

pub returns-clause-answers : goal.returns-clause-answers
returns-clause-answers c = λ refining flags request book t answer bytes of drawn. drawn_there c.tallies_plan_as_books.ensures.asks book t of refining flags request answer bytes drawn

pub returns-clause-ramps : goal.returns-clause-ramps
returns-clause-ramps c = λ standing refine requests book t n answers ps of told. ramp_there c.tallies_plan_as_books.ensures.asks book t of standing refine requests n answers ps told
