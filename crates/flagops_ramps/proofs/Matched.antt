-- The commands on steps are such as `clap` is proved for.
use Rattle.std.proofs.Common.{◌≡◌, true, refl}
use Rattle.clap.specs.Words.{is_simple, is_simple_and_free}
use Rattle.flagops_ramps.specs.Words.{keep_app, ramp_app, step_app, verify_app}

pub ramp_plain : is_simple ramp_app ≡ true
unfolding ramp_app
ramp_plain = refl

pub ramp_free : is_simple_and_free ramp_app ≡ true
unfolding ramp_app
ramp_free = refl

pub verify_plain : is_simple verify_app ≡ true
unfolding verify_app
verify_plain = refl

pub verify_free : is_simple_and_free verify_app ≡ true
unfolding verify_app
verify_free = refl

pub step_plain : is_simple step_app ≡ true
unfolding step_app
step_plain = refl

pub step_free : is_simple_and_free step_app ≡ true
unfolding step_app
step_free = refl

pub keep_plain : is_simple keep_app ≡ true
unfolding keep_app
keep_plain = refl

pub keep_free : is_simple_and_free keep_app ≡ true
unfolding keep_app
keep_free = refl
