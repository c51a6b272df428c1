-- Asks that are read token by token.
use Rattle.std.specs.Prelude.{◌≡◌, ◌<◌, ℕ, pos, List, [], ◌∷◌, codes, length, Some}
use Rattle.json.specs.Json.{read_key, value}
use Rattle.json.specs.Token.{Token}
use Rattle.serde_json.specs.Read.{converted}
use Rattle.flag_text.specs.Grammar.{tree_from}
use Rattle.flag_text.specs.Shape.{Shape, whole, text, object, Items, no_items, item, no_members, member}
use Rattle.flag_text.specs.View.{view}
use Rattle.flag_text.specs.declared.fault.TextFault.{TextFault}
use Rattle.flag_text.specs.declared.fault.TextFault.TheVariants as text_fault
use Rattle.flag_defs.specs.Kind.{word_of}
use Rattle.flagops_drive.specs.Asks.{Ask}
use Rattle.flagops_drive.specs.declared.plain_ask.PlainAsk.{PlainAsk}
use Rattle.flagops_drive.specs.declared.unplain.Unplain.{Unplain}
use Rattle.flagops_drive.specs.declared.unplain.Unplain.TheVariants.{WantOfMemory, Otherwise}

-- the object of the five members, whose names are sorted in a tree
abbrev pub ask_shape : PlainAsk → Shape
ask_shape a =
    object (member (codes "context") (view a.context) (member (codes "default") (view a.default) (member (codes "key") (text a.key.now) (member (codes "moment") (whole (pos a.moment)) (member (codes "want") (text (word_of a.want)) no_members)))))

-- these asks as items
abbrev pub asks_shape : List PlainAsk → Items
asks_shape [] = no_items
asks_shape (a ∷ more) = item (ask_shape a) (asks_shape more)

-- what such an ask asks
abbrev pub plain_view : PlainAsk → Ask
plain_view a = record { key = a.key.now; want = a.want; default = view a.default; context = view a.context; moment = a.moment }

-- a member of this name comes first, and its value is this tree (in private contracts alone)
pub record Comes (name : List ℕ) (old : List Token) (t : Shape) (new : List Token) : Type 0 where
  pub rest : List Token
  pub named : read_key old ≡ Some (Some name, rest)
  pub is : converted tree_from (value 125 rest) ≡ Some (t, new)
  pub shorter : length new < length rest

-- a value that could not be read
abbrev pub of_value : TextFault → Unplain
of_value text_fault.WantOfMemory = WantOfMemory
of_value e = Otherwise
