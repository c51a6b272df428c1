use Rattle.std.proofs.Common.{◌∙◌, List, String, Global, ap, is_some, map, nat_cmp, string_bytes, subst, sym}
use Rattle.std.proofs.lemmas.List.{map-append}
use Rattle.std.specs.Cmp.Lexicographic.{slice_cmp}
use Rattle.std.specs.List.{list_any}
use Rattle.std.specs.List.Sorted.{IsStrictlySortedBy}
use Rattle.std.specs.Str.{bytes_eq}
use Rattle.flag_defs.specs.Flags.{flags_view}
use Rattle.flag_defs.specs.Flag.{flag_view}
use Rattle.flag_text.specs.Readers.{find_member}
use Rattle.flagops_checks.specs.Judged.{is_unread, judged_view}
use Rattle.flagops_checks.proofs.Flagged.{pushed, same}
use Rattle.flagops_checks.proofs.judging.judge.Goals as goal

pub loop-i-preserved : goal.loop-i-preserved
loop-i-preserved c =
    let floats = c.args.names.now.floats in
    let bytes = c.args.names.now.bytes.now in
    let fs = flags_view c.args.flags.now in
    let key = c.at.result.0.now in
    let d = flag_view c.at.result.1.now in
    let unread = c.doubts_in.ensures.unread ∙ ap is_unread (c.member_by_halving-definition.ensures.found ∙ ap (find_member key) c.definitions_in-definitions.ensures.members) ∙ c.requires.unread.definitions key in
    let doubled = c.is_among.ensures ∙ (ap (λ l. list_any (bytes_eq key) (map string_bytes l)) c.as_slice.ensures.value ∙ c.requires.repeated.keys key) in
    pushed floats bytes fs c.loop-i.i key d (map judged_view c.loop-i.all.items) _ _ c.at.ensures c.loop-i.invariant
    (same floats bytes fs key d c.is_broken.result c.doubts_in.result c.of.result c.is_among.result (is_some c.place_in.result) c.is_broken.ensures unread c.doubts_in.ensures.weight c.doubts_in.ensures.variant c.doubts_in.ensures.never c.of.ensures.total c.of.ensures.constant doubled c.place_in.ensures)
    (ap (map judged_view) c.in_ok-push.ensures.items ∙ map-append judged_view c.loop-i.all.items _)

pub is_among-requires : goal.is_among-requires
is_among-requires c = subst (λ (l : List (String Global)). IsStrictlySortedBy (slice_cmp nat_cmp) (map string_bytes l)) (sym c.as_slice.ensures.value) c.requires.repeated.rising
