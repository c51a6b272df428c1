use Rattle.std.proofs.Common.{Bool, ◌++◌, ◌∙◌, ap, map, string_bytes}
use Rattle.std.proofs.lemmas.Result.{on_ok_weaker}
use Rattle.flag_defs.specs.Flag.{flag_view}
use Rattle.flag_doubts.specs.Doubts.{gives_foreign, gives_none, is_weighed_badly}
use Rattle.flag_doubts.specs.declared.doubt.Doubt.TheVariants.{Weight, Variant, Never}
use Rattle.control_flags.specs.Doubts.{row_if}
use Rattle.control_flags.proofs.Rows.{three}
use Rattle.control_flags.proofs.doubts.push_doubts.Goals as goal

pub returns : goal.returns
returns c =
    let key = c.args.key.now in
    let d = flag_view c.args.flag.now in
    let is = c.doubts_of-doubts.ensures in
    let zero = map string_bytes c.args.rows.now.items in
    let one = map string_bytes c.push_if.new.rows.items in
    let two = map string_bytes c.push_if-2.new.rows.items in
    let first = c.in_ok-push_if.ensures ∙ ap (λ (b : Bool). zero ++ row_if b key Weight) is.weight in
    let second = c.in_ok-push_if-2.ensures ∙ ap (λ (b : Bool). one ++ row_if b key Variant) is.variant in
    on_ok_weaker c.push_if-3.result
    (λ third. three zero one two _ (row_if (is_weighed_badly d) key Weight) (row_if (gives_foreign d) key Variant) (row_if (gives_none d) key Never) first second (third ∙ ap (λ (b : Bool). two ++ row_if b key Never) is.never))
    c.push_if-3.ensures
