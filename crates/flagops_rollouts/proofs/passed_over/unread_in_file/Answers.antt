use Rattle.std.proofs.Common.{◌≡◌, ℕ, List, subst}
use Rattle.std.specs.Prelude.{is_some}
use Rattle.member_names.specs.Repeated.{is_repeating}
use Rattle.flagops_rollouts.proofs.Said.{request_told}
use Rattle.flagops_rollouts.proofs.passed_over.unread_in_file.Goals as goal

pub returns-clause-parts : goal.returns-clause-parts
returns-clause-parts c =
    let repeated = c.in_ok-repeated.repeated in
    request_told c.args.path.now c.args.request.now c.unread_member-unread.result repeated c.with_more.result c.unread_member-unread.ensures.told c.unread_member-unread.ensures.notes
    (subst (λ (b : List ℕ). is_some repeated ≡ is_repeating b) c.bytes.ensures c.in_ok-repeated.ensures.told) c.in_ok-repeated.ensures.notes c.with_more.ensures.both
