-- The merge within the limits of flags.
use Rattle.std.proofs.Common.{◌≡◌, ℕ, Bool, true, false, List, [], ◌∷◌, if◌then◌else◌, IfOk, Option, None, Some, option_map, Result, Ok, Err, String, string_bytes, sym, subst}
use Rattle.std.specs.declared.alloc.Global.{Global}
use Rattle.flag_text.specs.Outcome.{GivesUnless}
use Rattle.flag_defs.specs.Changes.{by_key}
use Rattle.flag_defs.specs.Document.{Definitions, limited}
use Rattle.flag_defs.specs.Flags.{flags_view}
use Rattle.flag_defs.specs.declared.fault.DefFault.TheVariants as def
use Rattle.flag_defs.specs.declared.flags.Flags.{Flags}
use Rattle.source_merge.specs.Merge.{IsMerge, Rise, HaveRisingKeys, entries_of, all_entries, merge, flags_or_fault, merged_of}
use Rattle.source_merge.specs.Sources.{SourceList, entries_view}
use Rattle.source_merge.specs.declared.fault.SourceFault.{SourceFault}
use Rattle.source_merge.specs.declared.fault.SourceFault.TheVariants.{WantOfMemory}
use Rattle.source_merge.proofs.Merged.{rise-fold, rise_none, merges}

-- what is made of the merge's entries is what the merge gives
pub made_of : (sources : SourceList) (r : Result Flags SourceFault) (fs : Definitions) → fs ≡ by_key (all_entries sources) → GivesUnless WantOfMemory flags_view r (flags_or_fault (limited fs)) → GivesUnless WantOfMemory flags_view r (merged_of sources)
unfolding merge
made_of sources r fs is given = subst (λ (gs : Definitions). GivesUnless WantOfMemory flags_view r (flags_or_fault (limited gs))) is given

-- the keys of a merge rise
pub rising_merge : (sources : SourceList) (fs : Definitions) → fs ≡ by_key (all_entries sources) → Rise fs
rising_merge sources fs is = subst Rise (sym is) (rise-fold [] (all_entries sources) rise_none)

-- the keys of documents rise
rise_of : (d : Option Flags) (name : List ℕ) → Rise (entries_of (name, option_map flags_view d))
rise_of None name = rise_none
rise_of (Some fs) name = fs.rising

pub rising : (es : List (String Global × Option Flags)) → HaveRisingKeys (entries_view es)
rising [] = tt
rising (e ∷ es) = (rise_of e.1 (string_bytes e.0), rising es)

-- flags that were given are the merge
given_flags : (b : Bool) (fs gs : Definitions) → flags_or_fault (if b then Err def.TooLarge else Ok fs) ≡ Ok gs → fs ≡ gs
given_flags true fs gs h = absurd (cc)
given_flags false fs gs h = cc

pub is_merge : (es : List (String Global × Option Flags)) (r : Result Flags SourceFault) → GivesUnless WantOfMemory flags_view r (merged_of (entries_view es)) → IfOk r (λ fs. IsMerge (entries_view es) (flags_view fs))
is_merge es (Err e) given = tt
is_merge es (Ok fs) given = subst (IsMerge (entries_view es)) (given_flags _ (merge (entries_view es)) (flags_view fs) given) (merges (entries_view es) (rising es))
