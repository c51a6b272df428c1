-- What is passed over by its tokens, and what is kept of it.
use Rattle.std.specs.Prelude.{◌≡◌, ◌≤◌, ℕ, ℤ, Bool, true, false, List, Option, Some, option_map}
use Rattle.json.specs.Token.{Token}
use Rattle.serde_json.specs.Read.{number_of}
use Rattle.flag_text.specs.Grammar.{put}
use Rattle.flag_text.specs.Reading.{number_shape}
use Rattle.flag_text.specs.Shape.{Shape, whole, Items, Members, levels, items_levels, members_levels, has_other, items_have_other, members_have_other}

-- its lists and objects nest at most so deep, and its numbers are all whole
abbrev pub IsPlain : ℕ → Shape → Type 0
IsPlain most t = (levels t ≤ most) × (has_other t ≡ false)

abbrev pub AreItemsPlain : ℕ → Items → Type 0
AreItemsPlain most ts = (items_levels ts ≤ most) × (items_have_other ts ≡ false)

abbrev pub AreMembersPlain : ℕ → Members → Type 0
AreMembersPlain most ms = (members_levels ms ≤ most) × (members_have_other ms ≡ false)

-- what was read is something of which P holds, up to these tokens
abbrev pub Passes : {A : Type 0} → Option (A × List Token) → List Token → (A → Type 0) → Type 0
Passes {A} read rest P = (a : A) × (read ≡ Some (a, rest)) × P a

-- the text of a number that is whole
abbrev pub IsWholeNumber : List ℕ → Type 0
IsWholeNumber s = (n : ℤ) × (option_map number_shape (number_of s) ≡ Some (whole n))

-- a member was kept, or passed over
abbrev pub IsTaken : Bool → List ℕ → Shape → Members → Members → Type 0
IsTaken true name t before after = after ≡ put name t before
IsTaken false name t before after = after ≡ before
