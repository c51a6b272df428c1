-- Entries that are lent by the documents, put in the order of their keys one by one.
use denote.Ref.{Bor}
use Rattle.std.proofs.Common.{◌≡◌, ℕ, ◌+◌, suc, Bool, List, drop, fold, map, slice_get, arith, [], ◌∷◌, ◌++◌, Option, Some, option_map, unwrap_or, String, refl, sym, ap, ◌∙◌}
use Rattle.std.specs.declared.alloc.Global.{Global}
use Rattle.std.specs.BTreeMap.{insert_entry}
use Rattle.std.specs.Cmp.Lexicographic.{slice_cmp}
use Rattle.std.specs.Map.{values_of}
use Rattle.std.specs.Ordering.{match_ordering, nat_cmp}
use Rattle.std.specs.declared.cmp.Ordering.{Ordering}
use Rattle.std.specs.declared.cmp.Ordering.TheVariants.{Less, Equal, Greater}
use Rattle.std.proofs.Math.Seq.{drop-cons}
use Rattle.std.proofs.lemmas.Option.{slice_get_within, get_or_from_slice_get}
use Rattle.flag_defs.specs.Changes.{with_entry}
use Rattle.flag_defs.specs.Document.{Definitions}
use Rattle.flag_defs.specs.Flags.{flags_view}
use Rattle.flag_defs.specs.Floats.{Marks, floats_view, lent_floats}
use Rattle.flag_defs.specs.declared.flag.Flag.{Flag}
use Rattle.flag_defs.specs.declared.flags.Flags.{Flags}
use Rattle.flag_defs.specs.Lent.{lent_view}
use Rattle.source_merge.specs.Floats.{all_marks, entries_floats, merged_marks}
use Rattle.source_merge.specs.Merge.{all_entries}
use Rattle.source_merge.specs.Sources.{entries_view}

abbrev pub Lent : Type 0
Lent = Bor (List ℕ) × Bor Flag

-- the order of lent texts
abbrev pub lent_cmp : Bor (List ℕ) → Bor (List ℕ) → Ordering
lent_cmp x y = slice_cmp nat_cmp x.now y.now

-- lent entries, of whose flags g is told
abbrev pub lent_by : {V : Type 0} → (Flag → V) → List Lent → List (List ℕ × V)
lent_by g es = map (λ (e : Lent). (e.0.now, g e.1.now)) es

-- the map with one more entry
abbrev pub with_one : {V : Type 0} → List (List ℕ × V) → List ℕ × V → List (List ℕ × V)
with_one fs f = insert_entry (slice_cmp nat_cmp) fs f.0 f.1

module _ {V : Type 0} (g : Flag → V) (k : Bor (List ℕ)) (v : Bor Flag) where
  insert-lent : (es : List Lent) → lent_by g (insert_entry lent_cmp es k v) ≡ insert_entry (slice_cmp nat_cmp) (lent_by g es) k.now (g v.now)
  insert-lent [] = refl
  insert-lent (e ∷ es) = by (insert-lent es) (slice_cmp nat_cmp k.now e.0.now)
    where
      by : lent_by g (insert_entry lent_cmp es k v) ≡ insert_entry (slice_cmp nat_cmp) (lent_by g es) k.now (g v.now)
          → (o : Ordering) → lent_by g (match_ordering o ((k, v) ∷ e ∷ es) ((e.0, v) ∷ es) (e ∷ insert_entry lent_cmp es k v))
          ≡ match_ordering o ((k.now, g v.now) ∷ lent_by g (e ∷ es)) ((e.0.now, g v.now) ∷ lent_by g es) ((e.0.now, g e.1.now) ∷ insert_entry (slice_cmp nat_cmp) (lent_by g es) k.now (g v.now))
      by later Less = refl
      by later Equal = refl
      by later Greater = ap (λ (fs : List (List ℕ × V)). (e.0.now, g e.1.now) ∷ fs) later

-- an entry that is put in the place of the one that its key has
pub put_lent : {V : Type 0} (g : Flag → V) (old new : List Lent) (k : Bor (List ℕ)) (v : Bor Flag) → new ≡ insert_entry lent_cmp old k v → lent_by g new ≡ with_one (lent_by g old) (k.now, g v.now)
put_lent g old new k v is = ap (lent_by g) is ∙ insert-lent g k v old

-- the entries from place i on
rest_at : {X : Type 0} (xs : List X) (i : ℕ) (x : X) → slice_get xs i ≡ Some x → drop i xs ≡ x ∷ drop (i + 1) xs
rest_at {X} xs i x at =
    let next : suc i ≡ i + 1 = omega arith in
    drop-cons xs i x (slice_get_within xs i x at)
    ∙ (ap (λ y. y ∷ drop (suc i) xs) (get_or_from_slice_get xs i x x at) ∙ ap (λ n. x ∷ drop n xs) next)

-- one more entry of a document
pub one_more : {V : Type 0} (g : Flag → V) (old new : List Lent) (k : Bor (List ℕ)) (v : Bor Flag) (fs : List (List ℕ × V)) (i : ℕ) → lent_by g new ≡ with_one (lent_by g old) (k.now, g v.now) → slice_get fs i ≡ Some (k.now, g v.now)
    → fold (with_one {V = V}) (lent_by g new) (drop (i + 1) fs) ≡ fold (with_one {V = V}) (lent_by g old) (drop i fs)
one_more {V} g old new k v fs i is at =
    ap (λ (gs : List (List ℕ × V)). fold (with_one {V = V}) gs (drop (i + 1) fs)) is
    ∙ ap (λ (gs : List (List ℕ × V)). fold (with_one {V = V}) (lent_by g old) gs) (sym (rest_at fs i (k.now, g v.now) at))

-- the entries of documents, the latest last
abbrev pub document_entries : List (Option Flags) → Definitions
document_entries [] = []
document_entries (d ∷ ds) = unwrap_or (option_map flags_view d) [] ++ document_entries ds

pub entries_of_values : (es : List (String Global × Option Flags)) → document_entries (values_of es) ≡ all_entries (entries_view es)
entries_of_values [] = refl
entries_of_values (e ∷ es) = ap (λ (fs : Definitions). unwrap_or (option_map flags_view e.1) [] ++ fs) (entries_of_values es)

-- what is put is put over what is there
pub begun : (es : List (String Global × Option Flags)) (old : List Lent) (ds : List (Option Flags)) → old ≡ [] → ds ≡ values_of es → fold with_entry (lent_view old) (document_entries ds) ≡ fold with_entry [] (all_entries (entries_view es))
begun es old ds empty all =
    ap (λ (ls : List Lent). fold with_entry (lent_view ls) (document_entries ds)) empty
    ∙ (ap (λ (os : List (Option Flags)). fold with_entry [] (document_entries os)) all ∙ ap (fold with_entry []) (entries_of_values es))

-- the same of which flags have floats
abbrev pub document_marks : List (Option Flags) → Marks
document_marks [] = []
document_marks (d ∷ ds) = unwrap_or (option_map floats_view d) [] ++ document_marks ds

marks_of_values : (es : List (String Global × Option Flags)) → document_marks (values_of es) ≡ all_marks (entries_floats es)
marks_of_values [] = refl
marks_of_values (e ∷ es) = ap (λ (ms : Marks). unwrap_or (option_map floats_view e.1) [] ++ ms) (marks_of_values es)

pub marks_begun : (es : List (String Global × Option Flags)) (old : List Lent) (ds : List (Option Flags)) → old ≡ [] → ds ≡ values_of es → fold (with_one {V = Bool}) (lent_floats old) (document_marks ds) ≡ merged_marks (entries_floats es)
marks_begun es old ds empty all =
    ap (λ (ls : List Lent). fold (with_one {V = Bool}) (lent_floats ls) (document_marks ds)) empty
    ∙ (ap (λ (os : List (Option Flags)). fold (with_one {V = Bool}) [] (document_marks os)) all ∙ ap (λ (ms : Marks). fold (with_one {V = Bool}) [] ms) (marks_of_values es))
