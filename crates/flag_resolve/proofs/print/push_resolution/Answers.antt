use Rattle.std.proofs.Common.{◌++◌, string_bytes, ap, ◌∙◌}
use Rattle.std.proofs.lemmas.Result.{on_ok_weaker}
use Rattle.flag_resolve.specs.Views.{resolution_view}
use Rattle.flag_resolve.proofs.Items.{around_value}
use Rattle.flag_resolve.proofs.print.push_resolution.Goals as goal

pub returns : goal.returns
returns c =
    on_ok_weaker c.push_resolution_spelled.result (λ e. e ∙ ap (λ b. string_bytes c.args.out.now ++ b) (around_value (resolution_view c.args.resolution.now))) c.push_resolution_spelled.ensures
