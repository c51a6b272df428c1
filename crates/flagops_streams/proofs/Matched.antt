-- The commands of streams are such as `clap` is proved for.
use Rattle.std.proofs.Common.{◌≡◌, true, refl}
use Rattle.clap.specs.Words.{is_simple, is_simple_and_free}
use Rattle.flagops_streams.specs.Words.{follow_app, serve_app, serve_begun}

pub serve_plain : is_simple serve_app ≡ true
unfolding serve_app serve_begun
serve_plain = refl

pub serve_free : is_simple_and_free serve_app ≡ true
unfolding serve_app serve_begun
serve_free = refl

pub follow_plain : is_simple follow_app ≡ true
unfolding follow_app
follow_plain = refl

pub follow_free : is_simple_and_free follow_app ≡ true
unfolding follow_app
follow_free = refl
