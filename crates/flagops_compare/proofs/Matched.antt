-- `compare` is such as `clap` is proved for.
use Rattle.std.proofs.Common.{◌≡◌, true, refl}
use Rattle.clap.specs.Words.{is_simple, is_simple_and_free}
use Rattle.flagops_compare.specs.Words.{compare_app}

pub compare_plain : is_simple compare_app ≡ true
unfolding compare_app
compare_plain = refl

pub compare_free : is_simple_and_free compare_app ≡ true
unfolding compare_app
compare_free = refl
