use Rattle.std.proofs.Common.{◌∙◌, ℕ, List, [], None, Option, Some, ap, refl, unwrap_or}
use Rattle.flagops_streams.proofs.Reasons.{lent_at}
use Rattle.flagops_streams.proofs.remark.text_at.Goals as goal

pub returns-in-Some : goal.returns-in-Some
returns-in-Some c =
    c.as_slice.ensures.value
    ∙ ap (λ (o : Option (List ℕ)). unwrap_or o []) (lent_at (λ t. t.items) c.args.texts.now c.saturating_sub.result c.args.place (Some c.in-Some.text) (Some c.in-Some.text.now) c.saturating_sub.ensures c.in-Some.ensures.lookup refl)

pub returns-in-None : goal.returns-in-None
returns-in-None c =
    ap (λ (o : Option (List ℕ)). unwrap_or o []) (lent_at (λ t. t.items) c.args.texts.now c.saturating_sub.result c.args.place None None c.saturating_sub.ensures c.in-None.ensures.lookup refl)
