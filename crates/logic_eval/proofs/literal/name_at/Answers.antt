use Rattle.std.proofs.Common.{◌≡◌, ◌<◌, length, sym, ap, ◌∙◌, arith}
use Rattle.std.specs.Option.{option_map_or}
use Rattle.bucket_core.specs.Rule.{Entries, entry_at, entry_name}
use Rattle.bucket_core.proofs.Ends.{entry_at-lt, at_here}
use Rattle.flag_text.specs.Shape.{null, text}
use Rattle.logic_ast.specs.View.{buckets_view}
use Rattle.logic_eval.specs.Literal.{entries_in}
use Rattle.logic_eval.proofs.Literals.{named_alike, as_many}
use Rattle.logic_eval.proofs.literal.name_at.Goals as goal

pub index-requires : goal.index-requires
index-requires c =
    let xs = c.args.buckets.now.items in
    let r : Entries = entries_in (buckets_view xs) in
    omega (arith, c.entry_at.ensures r c.requires.ends.sums, entry_at-lt r c.args.point c.requires.point, as_many xs r c.requires.ends.literal, c.args.buckets.now.ok.0)

pub returns : goal.returns
returns c =
    let xs = c.args.buckets.now.items in
    let r : Entries = entries_in (buckets_view xs) in
    let found : c.entry_at.result ≡ entry_at r c.args.point = c.entry_at.ensures r c.requires.ends.sums in
    let within : c.entry_at.result < length xs = omega (arith, found, entry_at-lt r c.args.point c.requires.point, as_many xs r c.requires.ends.literal) in
    c.name_of.ensures
    ∙ (named_alike xs r c.entry_at.result c.index.result.now c.requires.ends.literal within c.index.ensures
    ∙ ap (λ n. option_map_or text n null) (ap (entry_name r) found ∙ sym (at_here r c.args.point c.requires.point)))
