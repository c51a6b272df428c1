-- `ofrep` is such as `clap` is proved for.
use Rattle.std.proofs.Common.{◌≡◌, true, refl}
use Rattle.clap.specs.Words.{is_simple, is_simple_and_free}
use Rattle.flagops_service.specs.Words.{ofrep_app, ofrep_begun, ofrep_chosen, ofrep_guarded, ofrep_limited, ofrep_logged, ofrep_operated}

pub ofrep_plain : is_simple ofrep_app ≡ true
unfolding ofrep_app ofrep_chosen ofrep_limited ofrep_operated ofrep_guarded ofrep_logged ofrep_begun
ofrep_plain = refl

pub ofrep_free : is_simple_and_free ofrep_app ≡ true
unfolding ofrep_app ofrep_chosen ofrep_limited ofrep_operated ofrep_guarded ofrep_logged ofrep_begun
ofrep_free = refl
