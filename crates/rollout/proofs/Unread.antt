-- Bytes above the limit of a request, or that are no UTF-8, are none.
use Rattle.std.proofs.Common.{◌≡◌, ℕ, ◌<◌, List, length, Bool, true, false, cond, nat_lt, None, Err, refl}
use Rattle.std.specs.Str.{is_utf8}
use Rattle.std.proofs.lemmas.Bool.{lt-ltb}
use Rattle.flag_text.specs.Reading.{if_whole, json_of}
use Rattle.flag_text.specs.declared.fault.TextFault.TheVariants.{NotJson, TooLarge}
use Rattle.price_core.specs.Request.{asked_of, if_tree, max_request}
use Rattle.price_core.specs.declared.fault.PriceFault.TheVariants.{BadRequest}

pub none_above : (bytes : List ℕ) → max_request < length bytes → asked_of bytes ≡ Err BadRequest
none_above bytes large = rw (lt-ltb max_request (length bytes) large) refl

-- a text that is none is refused as one, however long it is
refused : (b : Bool) → if_tree (if_whole (cond b (Err TooLarge) (Err NotJson))) ≡ Err BadRequest
refused true = refl
refused false = refl

no_json : (bytes : List ℕ) → is_utf8 bytes ≡ false → json_of bytes ≡ None
unfolding json_of
no_json bytes bad = rw bad refl

pub none_of_text : (bytes : List ℕ) → is_utf8 bytes ≡ false → asked_of bytes ≡ Err BadRequest
none_of_text bytes bad = rw (no_json bytes bad) (refused (nat_lt max_request (length bytes)))
