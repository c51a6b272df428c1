-- `check` is such as `clap` is proved for.
use Rattle.std.proofs.Common.{◌≡◌, true, refl}
use Rattle.clap.specs.Words.{is_simple, is_simple_and_free}
use Rattle.flagops_checks.specs.Words.{check_app}

pub check_plain : is_simple check_app ≡ true
unfolding check_app
check_plain = refl

pub check_free : is_simple_and_free check_app ≡ true
unfolding check_app
check_free = refl
