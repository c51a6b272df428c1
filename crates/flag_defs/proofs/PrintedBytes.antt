-- What is counted of a tree are the bytes of its text, up to the most that is counted.
use Rattle.std.proofs.Common.{◌≡◌, ◌≤◌, ℕ, ◌+◌, ◌-◌, pos, negsuc, List, [], ◌∷◌, length, Bool, true, false, cond, nat_lt, refl, ap, ◌∙◌, arith}
use Rattle.std.proofs.Math.ListN.{length-append}
use Rattle.std.proofs.lemmas.List.Concat.{flat_map-cons}
use Rattle.json.specs.Print.{escape_byte, escape_letter, escape, quoted}
use Rattle.serde_json.specs.Data as json
use Rattle.serde_json.specs.Written.{compact_text, items_text, members_text}
use Rattle.flag_text.proofs.Bools.{left, right}
use Rattle.flag_text.specs.Printing.{data_of, items_data, members_data}
use Rattle.flag_text.specs.Shape.{Shape, null, boolean, whole, other, text, list, object, Items, no_items, item, Members, no_members, member, comes_first, is_whole, items_are_whole, members_are_whole}
use Rattle.flag_defs.specs.Definition.{Definition}
use Rattle.flag_defs.specs.Document.{definition_written}
use Rattle.flag_defs.specs.Flag.{is_definition}
use Rattle.flag_defs.specs.Lent.{entry_bytes}
use Rattle.flag_references.specs.Measure.{capped}
use Rattle.flag_defs.specs.PrintedBytes.{escaped_bytes, text_bytes, with_member, tree_bytes, items_bytes, members_bytes}
use Rattle.flag_defs.proofs.Bytes.{in_front, member_text-bytes, alone-bytes}
use Rattle.flag_defs.proofs.Printed.{whole_definition}

-- ---- texts

pub escaped-length : (x : ℕ) (a b : Bool) → nat_lt 0 (escape_letter x) ≡ a → nat_lt x 32 ≡ b → length (escape_byte x) ≡ cond a 2 (cond b 6 1)
unfolding escape_byte
escaped-length x true b e f = rw e refl
escaped-length x false true e f = rw (e, f) refl
escaped-length x false false e f = rw (e, f) refl

escaped-counted : (s : List ℕ) → escaped_bytes s ≡ capped (length (escape s))
escaped-counted [] = refl
escaped-counted (x ∷ s) = omega (arith, escaped-counted s, ap length (flat_map-cons escape_byte x s), length-append (escape_byte x) (escape s))

text-counted : (s : List ℕ) → text_bytes s ≡ capped (length (quoted s))
text-counted s = omega (arith, escaped-counted s, length-append (escape s) (34 ∷ []))

-- ---- trees

closing_items : (ds : json.Items) → 1 ≤ length (items_text true ds)
closing_items json.no_items = omega arith
closing_items (json.item d ds) = omega arith

closing_members : (ms : json.Members) → 1 ≤ length (members_text true ms)
closing_members json.no_members = omega arith
closing_members (json.member k d ms) = omega arith

-- but for the first, each stands behind a comma
list-length : (ds : json.Items) → length (compact_text (json.array ds)) ≡ (length (items_text true ds) - 1 - 1) + 2
list-length json.no_items = refl
list-length (json.item d ds) = omega (arith, length-append (compact_text d) (items_text true ds), closing_items ds)

object-length : (ms : json.Members) → length (compact_text (json.object ms)) ≡ (length (members_text true ms) - 1 - 1) + 2
object-length json.no_members = refl
object-length (json.member k d ms) = omega (arith, member_text-bytes k d ms, closing_members ms)

mutual
  pub tree-counted : (t : Shape) → is_whole t ≡ true → tree_bytes t ≡ capped (length (compact_text (data_of t)))
  tree-counted null h = refl
  tree-counted (boolean true) h = refl
  tree-counted (boolean false) h = refl
  tree-counted (whole (pos n)) h = refl
  tree-counted (whole (negsuc n)) h = refl
  tree-counted other h = refl
  tree-counted (text s) h = text-counted s
  tree-counted (list ts) h = omega (arith, items-counted ts h, list-length (items_data ts))
  tree-counted (object ms) h = omega (arith, members-counted ms h, object-length (members_data ms))

  items-counted : (ts : Items) → items_are_whole ts ≡ true → items_bytes ts ≡ capped (length (items_text true (items_data ts)) - 1)
  items-counted no_items h = refl
  items-counted (item t ts) h =
      omega (
        arith,
        tree-counted t (left (is_whole t) (items_are_whole ts) h),
        items-counted ts (right (is_whole t) (items_are_whole ts) h),
        length-append (compact_text (data_of t)) (items_text true (items_data ts)),
        closing_items (items_data ts),
      )

  members-counted : (ms : Members) → members_are_whole ms ≡ true → members_bytes ms ≡ capped (length (members_text true (members_data ms)) - 1)
  members-counted no_members h = refl
  members-counted (member k t ms) h =
      let inner = right (comes_first k ms) _ h in
      let front = ap (λ es. length (members_text true es)) (in_front k t ms h) ∙ member_text-bytes k (data_of t) (members_data ms) in
      omega (arith, front, text-counted k, tree-counted t (left (is_whole t) _ inner), members-counted ms (right (is_whole t) _ inner), closing_members (members_data ms))

-- ---- entries

pub entry-counted : (k : List ℕ) (d : Definition) → is_definition d ≡ true → with_member k (tree_bytes (definition_written d)) 0 ≡ capped (entry_bytes (k, d))
entry-counted k d h = omega (arith, text-counted k, tree-counted (definition_written d) (whole_definition d h), alone-bytes k d)
