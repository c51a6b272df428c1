-- What asks that were read token by token ask, and that none has a member that is not read.
use Rattle.std.proofs.Common.{◌≡◌, ◌<◌, ◌≤◌, ◌^◌, true, false, nat_lt, List, [], ◌∷◌, length, map, Some, None, refl, arith}
use Rattle.std.proofs.lemmas.List.{length-map}
use Rattle.flag_text.specs.Shape.{list}
use Rattle.flag_text.specs.View.{view}
use Rattle.flag_defs.specs.Kind.{word_of}
use Rattle.flag_defs.specs.declared.kind.Kind.{Kind}
use Rattle.flag_defs.specs.declared.kind.Kind.TheVariants as kind
use Rattle.flagops_drive.specs.Asks.{ask_in, asks_in, asks_of, kind_spelled}
use Rattle.flagops_drive.specs.Plain.{ask_shape, asks_shape, plain_view}
use Rattle.flagops_drive.specs.Unread.{have_unread}
use Rattle.flagops_drive.specs.declared.plain_ask.PlainAsk.{PlainAsk}
use Rattle.flagops_drive.proofs.PlainMembers.{object_is}

named_word : (k : Kind) → kind_spelled (word_of k) ≡ Some k
named_word kind.Bool = refl
named_word kind.Text = refl
named_word kind.Whole = refl
named_word kind.Object = refl
named_word kind.Float = refl

ask_asked : (a : PlainAsk) → ask_in (ask_shape a) ≡ Some (plain_view a)
unfolding ask_in
ask_asked a = let counts : nat_lt a.moment (2 ^ 53) ≡ true = grind arith in rw (named_word a.want, object_is (view a.context) a.object_context, counts) refl

pub asks_asked : (asks : List PlainAsk) → asks_in (asks_shape asks) ≡ Some (map plain_view asks)
asks_asked [] = refl
asks_asked (a ∷ more) = rw (ask_asked a, asks_asked more) refl

-- a list of fewer than 2^32 is one of asks, and a longer one is not
pub plain_few : (asks : List PlainAsk) → length asks < 2 ^ 32 → asks_of (list (asks_shape asks)) ≡ Some (map plain_view asks)
unfolding asks_of
plain_few asks h = let few : nat_lt (length (map plain_view asks)) (2 ^ 32) ≡ true = grind (arith, length-map) in rw (asks_asked asks, few) refl

pub plain_many : (asks : List PlainAsk) → 2 ^ 32 ≤ length asks → asks_of (list (asks_shape asks)) ≡ None
unfolding asks_of
plain_many asks h = let many : nat_lt (length (map plain_view asks)) (2 ^ 32) ≡ false = grind (arith, length-map) in rw (asks_asked asks, many) refl

pub none_unread : (asks : List PlainAsk) → have_unread (asks_shape asks) ≡ false
none_unread [] = refl
none_unread (a ∷ more) = none_unread more
