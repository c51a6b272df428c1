-- A flag of a document is judged as its definition says.
use Rattle.std.proofs.Common.{◌≡◌, ◌++◌, ◌+◌, ◌∙◌, ℕ, zero, suc, Bool, List, [], ◌∷◌, Some, add-one, ap, drop, map, refl, sym, append_assoc}
use Rattle.std.specs.List.{slice_get}
use Rattle.flag_defs.specs.Definition.{Definition}
use Rattle.flag_defs.specs.Document.{Definitions}
use Rattle.flag_defs.specs.Flag.{is_broken}
use Rattle.flag_doubts.specs.Doubled.{is_doubled}
use Rattle.flag_doubts.specs.Repeated.{is_repeated}
use Rattle.flag_doubts.specs.declared.doubt.FlagDoubts.{FlagDoubts}
use Rattle.flagops_checks.specs.Judged.{Judged, flag_doubts, judged, tree_in}
use Rattle.flagops_checks.specs.Sites.{site_doubts}
use Rattle.flagops_checks.specs.declared.sites.SiteDoubts.{SiteDoubts}

drop_suc : {X : Type 0} (xs : List X) (i : ℕ) (x : X) → slice_get xs i ≡ Some x → drop i xs ≡ x ∷ drop (suc i) xs
drop_suc [] i x h = cc
drop_suc (y ∷ ys) zero x h = let same : y ≡ x = cc in rw same refl
drop_suc (y ∷ ys) (suc i) x h = drop_suc ys i x h

drop_next : {X : Type 0} (xs : List X) (i : ℕ) (x : X) → slice_get xs i ≡ Some x → drop i xs ≡ x ∷ drop (i + 1) xs
drop_next xs i x h = rw add-one (drop_suc xs i x h)

module _ (floats : Bool) (bytes : List ℕ) (fs : Definitions) where
  abbrev all : List Judged
  all = map (judged floats bytes) fs

  -- a flag more
  pub pushed : (i : ℕ) (key : List ℕ) (d : Definition) (before after : List Judged) (j : Judged) → slice_get fs i ≡ Some (key, d)
      → before ++ map (judged floats bytes) (drop i fs) ≡ map (judged floats bytes) fs → j ≡ judged floats bytes (key, d) → after ≡ before ++ (j ∷ [])
      → after ++ map (judged floats bytes) (drop (i + 1) fs) ≡ map (judged floats bytes) fs
  pushed i key d before after j at goes is more =
      let rest = map (judged floats bytes) (drop (i + 1) fs) in
      let next : map (judged floats bytes) (drop i fs) ≡ judged floats bytes (key, d) ∷ rest = ap (map (judged floats bytes)) (drop_next fs i (key, d) at) in
      let whole : before ++ (judged floats bytes (key, d) ∷ rest) ≡ map (judged floats bytes) fs = ap (λ (l : List Judged). before ++ l) (sym next) ∙ goes in
      rw (more, is, append_assoc before (judged floats bytes (key, d) ∷ []) rest) whole

  pub same : (key : List ℕ) (d : Definition) (broken : Bool) (doubts : FlagDoubts) (sites : SiteDoubts) (doubled repeated : Bool) → broken ≡ is_broken d → doubts.unread ≡ (flag_doubts (tree_in floats bytes) key d).unread
      → doubts.weight ≡ (flag_doubts (tree_in floats bytes) key d).weight → doubts.variant ≡ (flag_doubts (tree_in floats bytes) key d).variant → doubts.never ≡ (flag_doubts (tree_in floats bytes) key d).never
      → sites.total ≡ (site_doubts d).total → sites.constant ≡ (site_doubts d).constant → doubled ≡ is_doubled bytes key → repeated ≡ is_repeated bytes key
      → (let j : Judged = record { key = key; is_broken = broken; doubts = doubts; sites = sites; is_doubled = doubled; is_repeated = repeated } in j) ≡ judged floats bytes (key, d)
  same key d broken doubts sites doubled repeated b u w v n s k t r = rw (← b, ← u, ← w, ← v, ← n, ← s, ← k, ← t, ← r) refl
