-- A document with texts in place of floats nests no deeper.
use Rattle.std.proofs.Common.{ℕ, zero, suc, ◌≤◌, Bool, true, false, cond, ◌&&◌, List, codes, arith}
use Rattle.std.proofs.Math.Nat.{max-le}
use Rattle.std.specs.Str.{bytes_eq}
use Rattle.json.specs.Json.{Json, null, boolean, number, string, array, object, Members, no_members, member}
use Rattle.json.specs.Tree.{depth, members_depth}
use Rattle.spelled_numbers.specs.Floats.{each_member, has_floats, in_object, of_document, of_flag, of_flags, of_variants, with_texts}

abbrev Nests : (List ℕ → Json → Json) → Type 0
Nests f = (k : List ℕ) (j : Json) (d : ℕ) → depth j ≤ d → depth (f k j) ≤ d

module _ (f : List ℕ → Json → Json) (nests : Nests f) where
  each_nests : (ms : Members) (d : ℕ) → members_depth ms ≤ d → members_depth (each_member f ms) ≤ d
  each_nests no_members d h = h
  each_nests (member k j ms) d h =
      let here : depth j ≤ d = omega (arith, h) in
      let later : members_depth ms ≤ d = omega (arith, h) in
      max-le (nests k j d here) (each_nests ms d later)

  object_nests : (j : Json) (d : ℕ) → depth j ≤ d → depth (in_object f j) ≤ d
  object_nests null d h = h
  object_nests (boolean b) d h = h
  object_nests (number s) d h = h
  object_nests (string s) d h = h
  object_nests (array js) d h = h
  object_nests (object ms) zero h = absurd (omega (arith, h))
  object_nests (object ms) (suc d) h =
      let inner = each_nests ms d (omega (arith, h)) in
      omega (arith, inner)

either : (a : Bool) (i j : Json) (d : ℕ) → depth i ≤ d → depth j ≤ d → depth (cond a i j) ≤ d
either true i j d p q = p
either false i j d p q = q

variants_nest : Nests of_variants
variants_nest k j d h = omega arith

flag_nests : Nests of_flag
flag_nests k j d h = either (bytes_eq k (codes "variants") && has_floats j) (in_object of_variants j) j d (object_nests of_variants variants_nest j d h) h

flags_nest : Nests of_flags
flags_nest k j d h = object_nests of_flag flag_nests j d h

document_nests : Nests of_document
document_nests k j d h = either (bytes_eq k (codes "flags")) (in_object of_flags j) j d (object_nests of_flags flags_nest j d h) h

pub texts_nest : (j : Json) (d : ℕ) → depth j ≤ d → depth (with_texts j) ≤ d
texts_nest j d h = object_nests of_document document_nests j d h
