-- The filters are such as `clap` is proved for.
use Rattle.std.proofs.Common.{◌≡◌, true, refl}
use Rattle.clap.specs.Words.{is_simple, is_simple_and_free}
use Rattle.flagops_filters.specs.Words.{join_app, record_app, tally_app}

pub record_plain : is_simple record_app ≡ true
unfolding record_app
record_plain = refl

pub record_free : is_simple_and_free record_app ≡ true
unfolding record_app
record_free = refl

pub tally_plain : is_simple tally_app ≡ true
unfolding tally_app
tally_plain = refl

pub tally_free : is_simple_and_free tally_app ≡ true
unfolding tally_app
tally_free = refl

pub join_plain : is_simple join_app ≡ true
unfolding join_app
join_plain = refl

pub join_free : is_simple_and_free join_app ≡ true
unfolding join_app
join_free = refl
