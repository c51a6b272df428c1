use Rattle.product_laws.specs.Recorded.{mentioned_in, told_to}
use Rattle.product_laws.proofs.Holding.{plan_holds}
use Rattle.book_share.proofs.Whole.{just_mentioned}
use Rattle.product_laws.proofs.sealed_plans.plans_hold_of_what_was_recorded.Goals as goal

pub returns-clause-sealed : goal.returns-clause-sealed
returns-clause-sealed c = λ seats book m flags request planned is_book told is_planned.
    plan_holds (told_to seats) m flags request book planned is_book told.told.union is_planned

pub returns-clause-driven : goal.returns-clause-driven
returns-clause-driven c = λ mentions book calls news m flags request planned is_book noted is_planned.
    plan_holds (mentioned_in mentions) m flags request book planned is_book (just_mentioned mentions book calls news noted) is_planned
