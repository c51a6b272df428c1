use Rattle.std.proofs.Common.{◌≡◌, ℕ, List, map, ap, ◌∙◌}
use denote.Ref.{Bor}
use Rattle.flag_text.specs.Shape.{members_are_whole}
use Rattle.flagops_commands.proofs.Members.{totals_whole}
use Rattle.flagops_commands.specs.Price.{total_members}
use Rattle.flagops_commands.specs.Totals.{totals_by_name}
use Rattle.flagops_commands.proofs.rules.price.answer.Goals as goal

pub members-requires : goal.members-requires
members-requires g c =
    let seen : List (Bor (List ℕ) × ℕ) → List (List ℕ × ℕ) = λ es. map {B = List ℕ × ℕ} (λ e. (e.0.now, e.1)) es in
    let made : seen c.as_slice.result.now ≡ totals_by_name c.args.new.now = ap seen c.as_slice.ensures.value ∙ c.in_ok-totals.ensures in
    ap (λ es. members_are_whole (total_members es)) made ∙ totals_whole c.args.new.now c.requires.small
