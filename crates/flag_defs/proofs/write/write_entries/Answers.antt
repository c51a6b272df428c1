use Rattle.std.proofs.Common.{◌≡◌, [], drop, ◌+◌, ap, ap₂, sym, ◌∙◌, arith}
use Rattle.std.proofs.lemmas.List.{drop_all}
use Rattle.flag_text.specs.Shape.{member}
use Rattle.logic_ast.proofs.Readings.{dropped}
use Rattle.flag_defs.specs.Document.{definitions_written}
use Rattle.flag_defs.specs.Flag.{entries_view}
use Rattle.flag_defs.specs.Members.{followed_by}
use Rattle.flag_defs.proofs.Followed.{followed_end, followed_push}
use Rattle.flag_defs.proofs.write.write_entries.Goals as goal

pub returns : goal.returns
returns c =
    let xs = c.loop-key.members.items in
    let fs = c.args.flags.now in
    let none : drop c.loop-key.key-index fs ≡ [] = drop_all c.loop-key.key-index fs (omega arith) in
    sym (followed_end xs) ∙ (ap (λ gs. followed_by xs (definitions_written (entries_view gs))) (sym none) ∙ c.loop-key.invariant)

pub loop-key-preserved : goal.loop-key-preserved
loop-key-preserved c =
    let fs = c.args.flags.now in
    let i = c.loop-key.key-index in
    let ms = c.loop-key.members.items in
    let rest = definitions_written (entries_view (drop (i + 1) fs)) in
    ap (λ xs. followed_by xs rest) c.in_ok-push.ensures.items
    ∙ (followed_push ms (c.in_ok-clone.field-0, c.in_ok-definition.definition) rest
    ∙ (ap₂ (λ k t. followed_by ms (member k t rest)) c.in_ok-clone.ensures.cases c.in_ok-definition.ensures.definition
    ∙ (ap (λ gs. followed_by ms (definitions_written (entries_view gs))) (sym (dropped fs i c.loop-key-item.result c.loop-key-test.true c.loop-key-item.is)) ∙ c.loop-key.invariant)))
