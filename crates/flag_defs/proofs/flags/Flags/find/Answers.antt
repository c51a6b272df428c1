use Rattle.std.proofs.Common.{Some, String, string_bytes, sym, ap, subst, ◌∙◌, rules}
use Rattle.std.specs.Cmp.Lexicographic.{slice_cmp}
use Rattle.std.specs.List.Sorted.{IsStrictlySortedBy}
use Rattle.std.specs.Map.{keys_of, lookup}
use Rattle.std.specs.Ordering.{nat_cmp}
use Rattle.std.specs.Str.{bytes_eq}
use Rattle.std.specs.declared.alloc.Global.{Global}
use Rattle.std.proofs.lemmas.Cmp.{nat_list_cmp_total}
use Rattle.std.proofs.lemmas.Fn.{always_returns_same}
use Rattle.std.proofs.lemmas.Map.Lookups.{exact_bytes}
use Rattle.flag_text.proofs.Entries.{lookup_name-cmp, hit, miss}
use Rattle.flag_defs.specs.Flag.{entry_view, entries_view, flag_view}
use Rattle.flag_defs.specs.Floats.{entry_floats, entries_floats, floats_of}
use Rattle.flag_defs.specs.declared.flag.Flag.{Flag}
use Rattle.flag_defs.proofs.Marked.{floats_rise}
use Rattle.flag_defs.proofs.flags.Flags.find.Goals as goal

pub returns-in-Ok-clause-value : goal.returns-in-Ok-clause-value
returns-in-Ok-clause-value c =
    let key = c.args.key.now in
    let xs = c.as_slice-flags.result.now in
    let same = c.as_slice-flags.ensures.value in
    let rising = subst (λ ys. IsStrictlySortedBy (slice_cmp nat_cmp) (keys_of (entries_view ys))) (sym same) c.args.self.now.rising in
    let by_key = c.in-Ok.ensures.position (λ e. slice_cmp nat_cmp (string_bytes e.0) key) (always_returns_same _ _ _ (λ a r h called. search rules)) in
    ap (λ (e : String Global × Flag). Some (flag_view e.1)) (sym c.index-flags-place.is)
    ∙ (sym (sym (lookup_name-cmp key (entries_view xs)) ∙ hit (slice_cmp nat_cmp) nat_list_cmp_total exact_bytes entry_view xs key c.in-Ok.place c.index-flags-place.result rising c.in-Ok.ensures.bound c.index-flags-place.is by_key)
    ∙ ap (λ ys. lookup (bytes_eq key) (entries_view ys)) same)

pub returns-in-Ok-clause-floats : goal.returns-in-Ok-clause-floats
returns-in-Ok-clause-floats c =
    let key = c.args.key.now in
    let xs = c.as_slice-flags.result.now in
    let same = c.as_slice-flags.ensures.value in
    let rising = subst (λ ys. IsStrictlySortedBy (slice_cmp nat_cmp) (keys_of (entries_floats ys))) (sym same) (floats_rise c.args.self.now.flags.items c.args.self.now.rising) in
    let by_key = c.in-Ok.ensures.position (λ e. slice_cmp nat_cmp (string_bytes e.0) key) (always_returns_same _ _ _ (λ a r h called. search rules)) in
    ap (λ (e : String Global × Flag). Some (floats_of e.1)) (sym c.index-flags-place.is)
    ∙ (sym (sym (lookup_name-cmp key (entries_floats xs)) ∙ hit (slice_cmp nat_cmp) nat_list_cmp_total exact_bytes entry_floats xs key c.in-Ok.place c.index-flags-place.result rising c.in-Ok.ensures.bound c.index-flags-place.is by_key)
    ∙ ap (λ ys. lookup (bytes_eq key) (entries_floats ys)) same)

pub returns-in-Err-clause-value : goal.returns-in-Err-clause-value
returns-in-Err-clause-value c =
    let key = c.args.key.now in
    let xs = c.as_slice-flags.result.now in
    let same = c.as_slice-flags.ensures.value in
    let rising = subst (λ ys. IsStrictlySortedBy (slice_cmp nat_cmp) (keys_of (entries_view ys))) (sym same) c.args.self.now.rising in
    let by_key = c.in-Err.ensures.position (λ e. slice_cmp nat_cmp (string_bytes e.0) key) (always_returns_same _ _ _ (λ a r h called. search rules)) in
    sym (sym (lookup_name-cmp key (entries_view xs)) ∙ miss (slice_cmp nat_cmp) nat_list_cmp_total exact_bytes entry_view xs key c.in-Err.field-0 rising c.in-Err.ensures.bound by_key)
    ∙ ap (λ ys. lookup (bytes_eq key) (entries_view ys)) same

pub returns-in-Err-clause-floats : goal.returns-in-Err-clause-floats
returns-in-Err-clause-floats c =
    let key = c.args.key.now in
    let xs = c.as_slice-flags.result.now in
    let same = c.as_slice-flags.ensures.value in
    let rising = subst (λ ys. IsStrictlySortedBy (slice_cmp nat_cmp) (keys_of (entries_floats ys))) (sym same) (floats_rise c.args.self.now.flags.items c.args.self.now.rising) in
    let by_key = c.in-Err.ensures.position (λ e. slice_cmp nat_cmp (string_bytes e.0) key) (always_returns_same _ _ _ (λ a r h called. search rules)) in
    sym (sym (lookup_name-cmp key (entries_floats xs)) ∙ miss (slice_cmp nat_cmp) nat_list_cmp_total exact_bytes entry_floats xs key c.in-Err.field-0 rising c.in-Err.ensures.bound by_key)
    ∙ ap (λ ys. lookup (bytes_eq key) (entries_floats ys)) same
