-- Entries that are put in the order of their texts one by one, and looked up.
use denote.Ref.{Bor}
use Rattle.std.proofs.Common.{◌≡◌, ℕ, Bool, true, false, List, [], ◌∷◌, Option, Some, None, option_map, String, string_bytes, Vec, refl, sym, ap, ◌∙◌}
use Rattle.std.specs.Prelude.{cond, option_copied}
use Rattle.std.specs.declared.alloc.Global.{Global}
use Rattle.std.specs.BTreeMap.{insert_entry, is_at}
use Rattle.std.specs.Cmp.Lexicographic.{slice_cmp}
use Rattle.std.specs.Map.{lookup}
use Rattle.std.specs.Ordering.{match_ordering, nat_cmp, on}
use Rattle.std.specs.Str.{bytes_eq}
use Rattle.std.specs.declared.cmp.Ordering.{Ordering}
use Rattle.std.specs.declared.cmp.Ordering.TheVariants.{Less, Equal, Greater}
use Rattle.std.proofs.lemmas.Map.Text.{is_eq-slice_cmp}
use Rattle.flag_metadata.specs.Document.{FlagEntries, with_flag}
use Rattle.flag_metadata.specs.Spelled.{Entries, with_entry}
use Rattle.flag_metadata.specs.View.{entries_view, flag_view, flags_view, lent_view}
use Rattle.flag_metadata.specs.declared.member.Member.{Member}

-- ---- members that others hold

abbrev pub Lent : Type 0
Lent = Bor (List ℕ) × Bor (List ℕ)

abbrev pub lent_cmp : Bor (List ℕ) → Bor (List ℕ) → Ordering
lent_cmp x y = slice_cmp nat_cmp x.now y.now

insert-lent : (k v : Bor (List ℕ)) (es : List Lent) → lent_view (insert_entry lent_cmp es k v) ≡ insert_entry (slice_cmp nat_cmp) (lent_view es) k.now v.now
insert-lent k v [] = refl
insert-lent k v (e ∷ es) = by (insert-lent k v es) (slice_cmp nat_cmp k.now e.0.now)
  where
    by : lent_view (insert_entry lent_cmp es k v) ≡ insert_entry (slice_cmp nat_cmp) (lent_view es) k.now v.now
        → (o : Ordering) → lent_view (match_ordering o ((k, v) ∷ e ∷ es) ((e.0, v) ∷ es) (e ∷ insert_entry lent_cmp es k v))
        ≡ match_ordering o ((k.now, v.now) ∷ lent_view (e ∷ es)) ((e.0.now, v.now) ∷ lent_view es) ((e.0.now, e.1.now) ∷ insert_entry (slice_cmp nat_cmp) (lent_view es) k.now v.now)
    by later Less = refl
    by later Equal = refl
    by later Greater = ap (λ (fs : Entries). (e.0.now, e.1.now) ∷ fs) later

pub put_lent : (old new : List Lent) (k v : Bor (List ℕ)) → new ≡ insert_entry lent_cmp old k v → lent_view new ≡ with_entry (lent_view old) (k.now, v.now)
put_lent old new k v is = ap lent_view is ∙ insert-lent k v old

-- ---- flags

abbrev pub Held : Type 0
Held = String Global × Vec Member Global

abbrev pub text_cmp : String Global → String Global → Ordering
text_cmp = on string_bytes (slice_cmp nat_cmp)

insert-flag : (k : String Global) (v : Vec Member Global) (es : List Held) → flags_view (insert_entry text_cmp es k v) ≡ insert_entry (slice_cmp nat_cmp) (flags_view es) (string_bytes k) (entries_view v.items)
insert-flag k v [] = refl
insert-flag k v (e ∷ es) = by (insert-flag k v es) (slice_cmp nat_cmp (string_bytes k) (string_bytes e.0))
  where
    by : flags_view (insert_entry text_cmp es k v) ≡ insert_entry (slice_cmp nat_cmp) (flags_view es) (string_bytes k) (entries_view v.items)
        → (o : Ordering) → flags_view (match_ordering o ((k, v) ∷ e ∷ es) ((e.0, v) ∷ es) (e ∷ insert_entry text_cmp es k v))
        ≡ match_ordering o ((string_bytes k, entries_view v.items) ∷ flags_view (e ∷ es)) ((string_bytes e.0, entries_view v.items) ∷ flags_view es) (flag_view e ∷ insert_entry (slice_cmp nat_cmp) (flags_view es) (string_bytes k) (entries_view v.items))
    by later Less = refl
    by later Equal = refl
    by later Greater = ap (λ (fs : FlagEntries). flag_view e ∷ fs) later

pub put_flag : (old new : List Held) (k : String Global) (v : Vec Member Global) → new ≡ insert_entry text_cmp old k v → flags_view new ≡ with_flag (flags_view old) (string_bytes k, entries_view v.items)
put_flag old new k v is = ap flags_view is ∙ insert-flag k v old

-- what is found of a key
abbrev pub finds : List ℕ → String Global → Bool
finds key = is_at (λ (k : String Global). slice_cmp nat_cmp key (string_bytes k))

on_both : (b : Bool) (v : Vec Member Global) (later : Option (Vec Member Global)) (found : Option Entries) → option_map (λ (w : Vec Member Global). entries_view w.items) later ≡ found
    → option_map (λ (w : Vec Member Global). entries_view w.items) (cond b (Some v) later) ≡ cond b (Some (entries_view v.items)) found
on_both true v later found same = refl
on_both false v later found same = same

found_flag : (key : List ℕ) (es : List Held) → option_map (λ (v : Vec Member Global). entries_view v.items) (lookup (finds key) es) ≡ lookup (bytes_eq key) (flags_view es)
found_flag key [] = refl
found_flag key (e ∷ es) =
    on_both (finds key e.0) e.1 (lookup (finds key) es) (lookup (bytes_eq key) (flags_view es)) (found_flag key es)
    ∙ ap (λ (b : Bool). cond b (Some (entries_view e.1.items)) (lookup (bytes_eq key) (flags_view es))) (is_eq-slice_cmp key (string_bytes e.0))

pub found_some : (key : List ℕ) (es : List Held) (found : Option (Bor (Vec Member Global))) (own : Bor (Vec Member Global)) → found ≡ Some own → option_copied found ≡ lookup (finds key) es
    → Some (entries_view own.now.items) ≡ lookup (bytes_eq key) (flags_view es)
found_some key es found own is value =
    ap (λ (o : Option (Bor (Vec Member Global))). option_map (λ (v : Vec Member Global). entries_view v.items) (option_copied o)) (sym is)
    ∙ (ap (option_map (λ (v : Vec Member Global). entries_view v.items)) value ∙ found_flag key es)

pub found_none : (key : List ℕ) (es : List Held) (found : Option (Bor (Vec Member Global))) → found ≡ None → option_copied found ≡ lookup (finds key) es
    → None ≡ lookup (bytes_eq key) (flags_view es)
found_none key es found is value =
    ap (λ (o : Option (Bor (Vec Member Global))). option_map (λ (v : Vec Member Global). entries_view v.items) (option_copied o)) (sym is)
    ∙ (ap (option_map (λ (v : Vec Member Global). entries_view v.items)) value ∙ found_flag key es)
