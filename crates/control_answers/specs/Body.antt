-- The text of the answer to a request for a plan.
use Rattle.std.specs.Prelude.{ℕ, Bool, true, false, List, [], ◌∷◌, ◌++◌, codes, decimal, sum_by, if◌then◌else◌, Option, Some, None}
use Rattle.flag_text.specs.Printing.{text_of}
use Rattle.flag_text.specs.Shape.{text}
use Rattle.price_core.specs.Pricing.{Pair}
use Rattle.rule_switches.specs.Switches.{Rows}

abbrev pub quoted : List ℕ → List ℕ
quoted t = text_of (text t)

-- what is told of a plan: the number of the snapshot, how many inputs are recorded, the plan file, the changes of name, what the edit that
-- comes to mind first would switch, the new document, words for a person, the picture, and the token by which the plan is applied
pub record Told : Type 0 where
  pub snapshot : ℕ
  pub inputs : ℕ
  pub plan : List ℕ
  pub switches : Rows
  pub by_hand : Option ℕ
  pub document : Option (List ℕ)
  pub explained : List ℕ
  pub picture : List ℕ
  pub token : List ℕ

-- ---- parts

abbrev pub number_or_null : Option ℕ → List ℕ
number_or_null None = codes "null"
number_or_null (Some n) = decimal n

abbrev pub text_or_null : Option (List ℕ) → List ℕ
text_or_null None = codes "null"
text_or_null (Some t) = quoted t

abbrev pub comma_if : Bool → List ℕ
comma_if later = if later then codes "," else []

-- so many inputs go from one name to another
abbrev pub row_text : Pair × ℕ → List ℕ
row_text r = codes "{\"from\":" ++ (quoted r.0.0 ++ (codes ",\"inputs\":" ++ (decimal r.1 ++ (codes ",\"to\":" ++ (quoted r.0.1 ++ codes "}")))))

abbrev pub rows_text : Bool → Rows → List ℕ
rows_text later [] = []
rows_text later (r ∷ rs) = comma_if later ++ (row_text r ++ rows_text true rs)

abbrev pub switched_in : Rows → ℕ
switched_in rows = sum_by (λ r. r.1) rows

-- what the edit that comes to mind first would switch of so many inputs, beside the plan, as `plan --explain` says it
unfoldable pub edit_words : Option ℕ → ℕ → ℕ → List ℕ
edit_words None all by_plan = []
edit_words (Some by_hand) all by_plan =
    codes "  your edit by hand, each variant in one block, would switch " ++ (decimal by_hand ++ (codes " of " ++ (decimal all ++ (codes "; this plan switches " ++ (decimal by_plan ++ codes "\n")))))

-- ---- the whole

abbrev pub numbers_text : Told → List ℕ
numbers_text a =
    codes "{\"by_hand\":" ++ (number_or_null a.by_hand ++ (codes ",\"inputs\":" ++ (decimal a.inputs ++ (codes ",\"snapshot\":" ++ (decimal a.snapshot ++ (codes ",\"switch\":" ++ (decimal (switched_in a.switches) ++ codes ",\"switches\":[")))))))

abbrev pub texts_text : Told → List ℕ
texts_text a =
    numbers_text a ++ (rows_text false a.switches ++ (codes "],\"document\":" ++ (text_or_null a.document ++ (codes ",\"explained\":" ++ (quoted a.explained ++ (codes ",\"picture\":" ++ (quoted a.picture ++ codes ",\"plan\":")))))))

abbrev pub told_text : Told → List ℕ
told_text a = texts_text a ++ (a.plan ++ (codes ",\"token\":" ++ (a.token ++ codes "}\n")))
