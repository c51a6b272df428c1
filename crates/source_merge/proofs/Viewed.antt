-- The program's map of documents, seen as the sources.
use Rattle.std.proofs.Common.{◌≡◌, ℕ, Bool, true, false, cond, if◌then◌else◌, List, [], ◌∷◌, ◌++◌, map, Option, None, Some, is_some, option_map, String, string_bytes, refl, sym, ap, ◌∙◌}
use Rattle.std.specs.declared.alloc.Global.{Global}
use Rattle.std.specs.Map.{lookup, set_value}
use Rattle.std.specs.Str.{bytes_eq}
use Rattle.std.specs.String.{string_eq}
use Rattle.indexmap.specs.IndexMap.{insert_entry}
use Rattle.flag_defs.specs.Flags.{flags_view}
use Rattle.flag_defs.specs.declared.flags.Flags.{Flags}
use Rattle.source_merge.specs.Sources.{entries_view, is_source}

abbrev pub Entry : Type 0
Entry = String Global × Option Flags

-- a source, of whose flags h is told
abbrev pub seen_by : {W : Type 0} → (Flags → W) → Entry → List ℕ × Option W
seen_by h e = (string_bytes e.0, option_map h e.1)

is_some-seen : {W : Type 0} (h : Flags → W) (test : List ℕ → Bool) (es : List Entry) → is_some (lookup test (map (seen_by h) es)) ≡ is_some (lookup (λ (k : String Global). test (string_bytes k)) es)
is_some-seen h test [] = refl
is_some-seen h test (e ∷ es) = by (is_some-seen h test es) (test (string_bytes e.0))
  where
    by : is_some (lookup test (map (seen_by h) es)) ≡ is_some (lookup (λ (k : String Global). test (string_bytes k)) es)
        → (b : Bool) → is_some (cond b (Some (option_map h e.1)) (lookup test (map (seen_by h) es))) ≡ is_some (cond b (Some e.1) (lookup (λ (k : String Global). test (string_bytes k)) es))
    by later true = refl
    by later false = later

pub is_some-viewed : (test : List ℕ → Bool) (es : List Entry) → is_some (lookup test (entries_view es)) ≡ is_some (lookup (λ (k : String Global). test (string_bytes k)) es)
is_some-viewed test es = is_some-seen flags_view test es

pub set_value-viewed : {W : Type 0} (h : Flags → W) (test : List ℕ → Bool) (es : List Entry) (d : Option Flags) → map (seen_by h) (set_value (λ (k : String Global). test (string_bytes k)) es d) ≡ set_value test (map (seen_by h) es) (option_map h d)
set_value-viewed h test [] d = refl
set_value-viewed {W} h test (e ∷ es) d = by (set_value-viewed h test es d) (test (string_bytes e.0))
  where
    by : map (seen_by h) (set_value (λ (k : String Global). test (string_bytes k)) es d) ≡ set_value test (map (seen_by h) es) (option_map h d)
        → (b : Bool) → map (seen_by h) (cond b ((e.0, d) ∷ es) (e ∷ set_value (λ (k : String Global). test (string_bytes k)) es d)) ≡ cond b ((string_bytes e.0, option_map h d) ∷ map (seen_by h) es) ((string_bytes e.0, option_map h e.1) ∷ set_value test (map (seen_by h) es) (option_map h d))
    by later true = refl
    by later false = ap (λ (ss : List (List ℕ × Option W)). (string_bytes e.0, option_map h e.1) ∷ ss) later

-- where no name passes, nothing is set
pub set_value-absent : {K X : Type 0} (test : K → Bool) (es : List (K × X)) (x : X) → is_some (lookup test es) ≡ false → set_value test es x ≡ es
set_value-absent test [] x h = refl
set_value-absent {K} {X} test (e ∷ es) x h = by (set_value-absent test es x) (test e.0) h
  where
    by : (is_some (lookup test es) ≡ false → set_value test es x ≡ es)
        → (b : Bool) → is_some (cond b (Some e.1) (lookup test es)) ≡ false → cond b ((e.0, x) ∷ es) (e ∷ set_value test es x) ≡ e ∷ es
    by later true h = absurd (cc)
    by later false h = ap (λ (fs : List (K × X)). e ∷ fs) (later h)

-- a new name goes to the end
pub pushed : {W : Type 0} (h : Flags → W) (k : String Global) (es : List Entry) → is_source (string_bytes k) (entries_view es) ≡ false → map (seen_by h) (insert_entry string_eq es k None) ≡ map (seen_by h) es ++ (string_bytes k, None) ∷ []
pushed h k [] new = refl
pushed {W} h k (e ∷ es) new = by (pushed h k es) (bytes_eq (string_bytes k) (string_bytes e.0)) new
  where
    by : (is_source (string_bytes k) (entries_view es) ≡ false → map (seen_by h) (insert_entry string_eq es k None) ≡ map (seen_by h) es ++ (string_bytes k, None) ∷ [])
        → (b : Bool) → is_some (cond b (Some (option_map flags_view e.1)) (lookup (bytes_eq (string_bytes k)) (entries_view es))) ≡ false
        → map (seen_by h) (if b then (e.0, None) ∷ es else e ∷ insert_entry string_eq es k None) ≡ map (seen_by h) (e ∷ es) ++ (string_bytes k, None) ∷ []
    by later true new = absurd (cc)
    by later false new = ap (λ (ss : List (List ℕ × Option W)). (string_bytes e.0, option_map h e.1) ∷ ss) (later new)

-- where no source has the name, nothing is set
pub absent : {W : Type 0} (h : Flags → W) (name : List ℕ) (es : List Entry) (d : Option Flags) → lookup (λ (k : String Global). bytes_eq name (string_bytes k)) es ≡ None → map (seen_by h) es ≡ set_value (bytes_eq name) (map (seen_by h) es) (option_map h d)
absent h name es d none = sym (set_value-absent (bytes_eq name) (map (seen_by h) es) (option_map h d) (is_some-seen h (bytes_eq name) es ∙ ap is_some none))
