-- The table has the commands of the program.
use Rattle.flagops_words.specs.Usage.{with_commands}
use Rattle.flagops_words.specs.Words.{apply_app, bucket_app, completions_app, drive_app, flagops_app, plan_app, price_app, resolve_app, verify_app}
use Rattle.flagops_words.proofs.Tabled.{on_known}
use Rattle.flagops_words.proofs.usage.flagops.Goals as goal

pub returns : goal.returns
returns c =
    let built = on_known c.with_commands.result _ _ _ c.in_ok-program.ensures c.with_commands.ensures in
    unfold with_commands flagops_app bucket_app price_app resolve_app plan_app verify_app apply_app drive_app completions_app in built
