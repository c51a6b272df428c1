-- What `clap` is proved to read of the words of `book`.
use Rattle.std.proofs.Common.{◌≡◌, true, refl}
use Rattle.clap.specs.Words.{is_simple, is_simple_and_free}
use Rattle.flagops_books.specs.Words.{book_app}

pub book_plain : is_simple book_app ≡ true
unfolding book_app
book_plain = refl

pub book_free : is_simple_and_free book_app ≡ true
unfolding book_app
book_free = refl
