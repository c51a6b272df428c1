-- What keeps a tree from being a list of asks, and where.
use Rattle.std.specs.Prelude.{ℕ, suc, ◌+◌, ◌^◌, nat_lt, Bool, List, codes, if◌then◌else◌, Option, Some, None, is_some}
use Rattle.std.specs.Option.{option_or}
use Rattle.flag_text.specs.Readers.{member_of}
use Rattle.flag_text.specs.Shape.{Shape, list, Items, no_items, item}
use Rattle.flagops_drive.specs.Asks.{context_in, default_in, key_in, moment_in, want_in}
use Rattle.flagops_drive.specs.declared.misfit.AskMember.{AskMember}
use Rattle.flagops_drive.specs.declared.misfit.AskMember.TheVariants.{Key, Want, Default, Context, Moment}
use Rattle.flagops_drive.specs.declared.misfit.Misfit.{Misfit}
use Rattle.flagops_drive.specs.declared.misfit.Misfit.TheVariants.{NoList, Lacks, Misshapen, TooMany}

-- the first that there is of two
infixl 10 ◌or◌
abbrev pub ◌or◌ : {A : Type 0} → Option A → Option A → Option A
o or p = option_or o p

-- ---- a member

abbrev pub name_of : AskMember → List ℕ
name_of Key = codes "key"
name_of Want = codes "want"
name_of Default = codes "default"
name_of Context = codes "context"
name_of Moment = codes "moment"

-- it is there, and of its form
abbrev pub is_read : Shape → AskMember → Bool
is_read t Key = is_some (key_in t)
is_read t Want = is_some (want_in t)
is_read t Default = is_some (default_in t)
is_read t Context = is_some (context_in t)
is_read t Moment = is_some (moment_in t)

-- it is missing, or else not of its form
abbrev pub unread : ℕ → Shape → AskMember → Misfit
unread n t m = if is_some (member_of (name_of m) t) then Misshapen n m else Lacks n m

-- what is told of it, where it is not read of the item at place n
abbrev pub unless_read : ℕ → Shape → AskMember → Option Misfit
unless_read n t m = if is_read t m then None else Some (unread n t m)

-- ---- the whole

-- the first member that keeps the item at place n from being an ask
abbrev pub ask_misfit : ℕ → Shape → Option Misfit
ask_misfit n t = unless_read n t Key or unless_read n t Want or unless_read n t Default or unless_read n t Context or unless_read n t Moment

-- that of the first item that is no ask, of items from place n on
abbrev pub first_misfit : ℕ → Items → Option Misfit
first_misfit n no_items = None
first_misfit n (item t ts) = ask_misfit n t or first_misfit (n + 1) ts

abbrev pub item_count : Items → ℕ
item_count no_items = 0
item_count (item t ts) = suc (item_count ts)

-- there are 2^32 or more
abbrev pub unless_few : ℕ → Option Misfit
unless_few count = if nat_lt count (2 ^ 32) then None else Some TooMany

-- the first item that is no ask, or else that there are too many
abbrev pub misfit_of : Shape → Option Misfit
misfit_of (list ts) = first_misfit 0 ts or unless_few (item_count ts)
misfit_of t = Some NoList
