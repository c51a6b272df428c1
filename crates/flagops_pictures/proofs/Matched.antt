-- The commands that draw are such as `clap` is proved for.
use Rattle.std.proofs.Common.{◌≡◌, true, refl}
use Rattle.clap.specs.Words.{is_simple, is_simple_and_free}
use Rattle.flagops_pictures.specs.Words.{picture_app, plan_app, ramp_app}

pub picture_plain : is_simple picture_app ≡ true
unfolding picture_app
picture_plain = refl

pub picture_free : is_simple_and_free picture_app ≡ true
unfolding picture_app
picture_free = refl

pub ramp_plain : is_simple ramp_app ≡ true
unfolding ramp_app
ramp_plain = refl

pub ramp_free : is_simple_and_free ramp_app ≡ true
unfolding ramp_app
ramp_free = refl

pub plan_plain : is_simple plan_app ≡ true
unfolding plan_app
plan_plain = refl

pub plan_free : is_simple_and_free plan_app ≡ true
unfolding plan_app
plan_free = refl
