use Rattle.std.proofs.Common.{◌≡◌, ◌∙◌, Ok, ap, map, subst, sym}
use Rattle.flag_text.specs.Outcome.{GivesUnless}
use Rattle.flagops_drive.specs.Asks.{ask_view, asks_in, if_asks}
use Rattle.flagops_drive.specs.Fault.{want}
use Rattle.flagops_drive.specs.File.{items_of}
use Rattle.flagops_drive.specs.Plain.{plain_view}
use Rattle.flagops_drive.proofs.PlainFile.{asks_asked}
use Rattle.flagops_drive.proofs.asks.asks_in.Goals as goal

pub returns-in-Plain-clause-exact : goal.returns-in-Plain-clause-exact
returns-in-Plain-clause-exact c =
    let are : if_asks (asks_in (items_of c.args.items)) ≡ Ok (map plain_view c.in-Plain.asks.now) = ap (λ items. if_asks (asks_in (items_of items))) c.in-Plain.is ∙ ap if_asks (asks_asked c.in-Plain.asks.now) in
    subst (λ wanted. GivesUnless want (λ v. map ask_view v.items) c.lent_asks.result wanted) (sym are) c.lent_asks.ensures.exact
