-- A document that is alone, and its source.
use Rattle.std.proofs.Common.{◌≡◌, ◌∙◌, ◌<◌, ◌+◌, ◌++◌, ℕ, zero, suc, Bool, true, false, cond, if◌then◌else◌, List, [], ◌∷◌, Option, Some, None, Result, Ok, Err, Vec, Global, ap, append-nil, arith, decimal, get_or, length, refl, slice_get, subst, sym, inl, inr}
use Rattle.std.specs.Prelude.{IfErr, IfOk, MatchBool, nat_lt, slice_set}
use Rattle.std.specs.Str.{bytes_eq, is_utf8}
use Rattle.std.proofs.lemmas.List.{length-map, length-set}
use Rattle.std.proofs.lemmas.Option.{slice_get_within}
use Rattle.std.proofs.lemmas.Slice.Eq.{bytes_eq-Decides}
use Rattle.flag_text.specs.Shape.{Shape}
use Rattle.flag_text.specs.declared.fault.TextFault.{TextFault}
use Rattle.flag_text.specs.declared.fault.TextFault.TheVariants as text_fault
use Rattle.spelled_numbers.specs.Reading.{text_with_floats}
use Rattle.flag_defs.specs.Changes.{by_key}
use Rattle.flag_defs.specs.Document.{Definitions, TextMeans, max_bytes}
use Rattle.flag_defs.specs.Flags.{flags_view}
use Rattle.flag_defs.specs.Floats.{MeansWithFloats}
use Rattle.flag_defs.specs.declared.fault.DefFault.{DefFault}
use Rattle.flag_defs.specs.declared.fault.DefFault.TheVariants as def
use Rattle.flag_defs.specs.declared.flags.Flags.{Flags}
use Rattle.source_merge.specs.Merge.{HaveRisingKeys, Rise, flags_or_fault, merge, merged_of}
use Rattle.source_merge.specs.Sources.{SetsAs, SetsWithFloats, SourceList, is_source, with_read}
use Rattle.source_merge.specs.View.{sources_view}
use Rattle.source_merge.specs.declared.fault.SourceFault.{SourceFault}
use Rattle.source_merge.specs.declared.fault.SourceFault.TheVariants.{Unknown}
use Rattle.source_merge.specs.declared.sources.Sources.{Sources}
use Rattle.source_merge.proofs.Limits.{rising}
use Rattle.source_merge.proofs.Merged.{by_key-rising}
use Rattle.flagops_shell.specs.Files.{Holding}
use Rattle.flagops_streams.specs.Documents.{MayRefuse, texts_of}
use Rattle.flagops_streams.specs.declared.refusal.Refusal.{Refusal}
use Rattle.flagops_service.specs.Merging.{AreMerged, AreRead, GivesMore}
use Rattle.flagops_service.specs.Rereading.{Kept, ReadsFrom, ReadsOne, Takes}
use Rattle.flagops_service.specs.declared.asked.OnBroken.{OnBroken}
use Rattle.flagops_service.specs.declared.taking.Taken.{Taken}
use Rattle.flagops_service.specs.declared.taking.Taken.TheVariants.{Accepted, Refused, Unchanged, Unread}

-- ---- a document that is set at the only source

pub set_alone : (name : List ℕ) (d : Option Definitions) (text : List ℕ) (new : SourceList) → SetsWithFloats ((name, d) ∷ []) name text (Ok new)
    → (flags : Definitions) × (new ≡ (name, Some flags) ∷ []) × MeansWithFloats text (Ok flags)
set_alone name d text new h = by got.0 got.1 got.2
  where
    own : bytes_eq name name ≡ true
    own = (bytes_eq-Decides name name).1 refl

    here : is_source name ((name, d) ∷ []) ≡ true
    here = rw own refl

    got : (r : Result Definitions DefFault) × MeansWithFloats text r × ((let n : Result SourceList SourceFault = Ok new in n) ≡ with_read ((name, d) ∷ []) name r)
    got = subst (λ (b : Bool). MatchBool b ((r : Result Definitions DefFault) × MeansWithFloats text r × ((let n : Result SourceList SourceFault = Ok new in n) ≡ with_read ((name, d) ∷ []) name r)) ((let n : Result SourceList SourceFault = Ok new in n) ≡ Err Unknown)) here h

    changed : (flags : Definitions) → cond {A = SourceList} (bytes_eq name name) ((name, Some flags) ∷ []) ((name, d) ∷ []) ≡ (name, Some flags) ∷ []
    changed flags = rw own refl

    by : (r : Result Definitions DefFault) → MeansWithFloats text r → (let n : Result SourceList SourceFault = Ok new in n) ≡ with_read ((name, d) ∷ []) name r
        → (flags : Definitions) × (new ≡ (name, Some flags) ∷ []) × MeansWithFloats text (Ok flags)
    by (Ok flags) means is = (flags, (let same : new ≡ cond {A = SourceList} (bytes_eq name name) ((name, Some flags) ∷ []) ((name, d) ∷ []) = cc in same ∙ changed flags), means)
    by (Err fault) means is = absurd (cc is)

-- ---- the flags of the only source are the merge

given_flags : (b : Bool) (fs gs : Definitions) → flags_or_fault (if b then Err def.TooLarge else Ok fs) ≡ Ok gs → fs ≡ gs
given_flags true fs gs h = absurd (cc)
given_flags false fs gs h = cc

merged_alone : (name : List ℕ) (fs gs : Definitions) → Rise fs → merged_of ((name, Some fs) ∷ []) ≡ Ok gs → fs ≡ gs
unfolding merge
merged_alone name fs gs rise h = sym (ap by_key (append-nil fs) ∙ by_key-rising fs rise) ∙ given_flags _ (by_key (fs ++ [])) gs h

-- a document that is alone means the flags that are the merge
pub means_merged : (s : Sources) (flags : Flags) (texts : List (List ℕ)) → AreRead texts (sources_view s) → AreMerged (sources_view s) flags
    → (text : List ℕ) → texts ≡ text ∷ [] → MeansWithFloats text (Ok (flags_view flags))
means_merged s flags texts read merged text alone =
    let a = read text alone in
    let rise : HaveRisingKeys ((decimal 1, Some a.0) ∷ []) = subst HaveRisingKeys a.1 (rising s.documents.entries) in
    let all : merged_of ((decimal 1, Some a.0) ∷ []) ≡ Ok (flags_view flags) = subst (λ (ss : SourceList). merged_of ss ≡ Ok (flags_view flags)) a.1 merged in
    subst (λ (fs : Definitions). MeansWithFloats text (Ok fs)) (merged_alone (decimal 1) a.0 (flags_view flags) rise.0 all) a.2

-- ---- a document that is the only one of a list

pub only_item : {X : Type 0} (xs : List X) (x : X) → length xs ≡ 1 → x ≡ get_or xs 0 x → xs ≡ x ∷ []
only_item [] x one is = absurd (omega (arith, one))
only_item (y ∷ []) x one is = ap (λ z. z ∷ []) (sym is)
only_item (y ∷ z ∷ zs) x one is = absurd (omega (arith, one))

-- of several none is alone
pub several_read : {E : Type 0} (texts : List (Vec ℕ Global)) (sources : SourceList) (r : Result Flags E) → 1 < length texts → IfOk r (λ _. AreRead (texts_of texts) sources)
several_read texts sources (Ok flags) many = λ text alone. absurd (omega (arith, many, ap length alone, length-map texts (λ (v : Vec ℕ Global). v.items)))
several_read texts sources (Err e) many = tt

-- ---- a document that is read again

-- one that is accepted in the place of the only one
accepted_alone : (accepted : List (Vec ℕ Global)) (place : ℕ) (last text : Vec ℕ Global) (old new : SourceList) → slice_get accepted place ≡ Some last
    → SetsWithFloats old (decimal (place + 1)) text.items (Ok new) → AreRead (texts_of accepted) old → AreRead (texts_of (slice_set accepted place text)) new
accepted_alone [] place last text old new here sets read t alone = absurd (cc here)
accepted_alone (x ∷ []) zero last text old new here sets read t alone =
    let a = read x.items refl in
    let set = set_alone (decimal 1) (Some a.0) text.items new (subst (λ (s : SourceList). SetsWithFloats s (decimal 1) text.items (Ok new)) a.1 sets) in
    let same : text.items ≡ t = cc in
    (set.0, set.1, subst (λ (bytes : List ℕ). MeansWithFloats bytes (Ok set.0)) same set.2)
accepted_alone (x ∷ []) (suc place) last text old new here sets read t alone = absurd (omega (arith, slice_get_within (x ∷ []) (suc place) last here))
accepted_alone (x ∷ y ∷ xs) place last text old new here sets read t alone =
    absurd (omega (arith, ap length alone, length-map (slice_set (x ∷ y ∷ xs) place text) (λ (v : Vec ℕ Global). v.items), length-set (x ∷ y ∷ xs) place text))

-- what becomes of it
taken_alone : (mode : OnBroken) (place : ℕ) (text : Vec ℕ Global) (old new : Kept) (taken : Taken) → Takes mode place text old new taken
    → AreRead (texts_of old.accepted) old.sources → AreRead (texts_of new.accepted) new.sources
taken_alone mode place text old new Accepted (last, here, sets, may, accepted, refused) read =
    subst (λ (vs : List (Vec ℕ Global)). AreRead (texts_of vs) new.sources) (sym accepted) (accepted_alone old.accepted place last text old.sources new.sources here sets read)
taken_alone mode place text old new Refused (last, here, why, sources, accepted, refused) read =
    subst (λ (vs : List (Vec ℕ Global)). AreRead (texts_of vs) new.sources) (sym accepted) (subst (AreRead (texts_of old.accepted)) (sym sources) read)
taken_alone mode place text old new Unchanged (known, sources, accepted) read =
    subst (λ (vs : List (Vec ℕ Global)). AreRead (texts_of vs) new.sources) (sym accepted) (subst (AreRead (texts_of old.accepted)) (sym sources) read)
taken_alone mode place text old new Unread same read = subst (λ (k : Kept). AreRead (texts_of k.accepted) k.sources) (sym same) read

one_alone : (holding : Option Holding) (mode : OnBroken) (path : List ℕ) (place : ℕ) (old new : Kept) (taken : Taken) → ReadsOne holding mode path place old new taken
    → AreRead (texts_of old.accepted) old.sources → AreRead (texts_of new.accepted) new.sources
one_alone holding mode path place old new taken (inl (text, from, takes)) read = taken_alone mode place text old new taken takes read
one_alone holding mode path place old new taken (inr (unread, same)) read = subst (λ (k : Kept). AreRead (texts_of k.accepted) k.sources) (sym same) read

-- and so of all
pub reads_alone : (holding : Option Holding) (mode : OnBroken) (paths : List (List ℕ)) (place : ℕ) (old new : Kept) → ReadsFrom holding mode paths place old new
    → AreRead (texts_of old.accepted) old.sources → AreRead (texts_of new.accepted) new.sources
reads_alone holding mode [] place old new same read = subst (λ (k : Kept). AreRead (texts_of k.accepted) k.sources) (sym same) read
reads_alone holding mode (path ∷ paths) place old new (mid, taken, one, rest) read =
    reads_alone holding mode paths (place + 1) mid new rest (one_alone holding mode path place old mid taken one read)

-- ---- a document that is merged alone

module _ (sources next : SourceList) (text : List ℕ) where
  -- it was set, and this is the merge
  abbrev pub IsMergedAlone : Result Flags Refusal → Type 0
  IsMergedAlone r = IfOk r (λ flags. SetsAs true sources (decimal 1) text (Ok next) × (merged_of next ≡ Ok (flags_view flags)))

  pub one_gives : (r : Result Flags Refusal) → IsMergedAlone r → IfErr r (λ refusal. MayRefuse true 1 sources text refusal) → GivesMore sources next (text ∷ []) [] r
  one_gives (Ok flags) merges may = ([], inr (next, flags_view flags, merges, refl), merges.1)
  one_gives (Err refusal) merges may = inl (refusal, refl, may)

  pub one_read : (r : Result Flags Refusal) → sources ≡ (decimal 1, None) ∷ [] → IsMergedAlone r → IfOk r (λ _. AreRead (text ∷ []) next)
  one_read (Ok flags) alone merges = λ t is.
      let set = set_alone (decimal 1) None text next (subst (λ (s : SourceList). SetsWithFloats s (decimal 1) text (Ok next)) alone merges.0) in
      let same : text ≡ t = cc in
      (set.0, set.1, subst (λ (bytes : List ℕ). MeansWithFloats bytes (Ok set.0)) same set.2)
  one_read (Err refusal) alone merges = tt

-- ---- a document is a text

text_if : (large text : Bool) (r : Result Shape TextFault) (fs : Definitions) → TextMeans (if large then Err text_fault.TooLarge else (if text then r else Err text_fault.NotJson)) (Ok fs) → text ≡ true
text_if true text r fs h = absurd (cc h)
text_if false true r fs h = refl
text_if false false r fs h = absurd (cc h)

pub is_text : (bytes : List ℕ) (fs : Definitions) → MeansWithFloats bytes (Ok fs) → is_utf8 bytes ≡ true
is_text bytes fs means = text_if (nat_lt max_bytes (length bytes)) (is_utf8 bytes) (text_with_floats bytes) fs means
