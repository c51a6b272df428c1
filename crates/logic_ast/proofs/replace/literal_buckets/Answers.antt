use Rattle.std.proofs.Common.{◌++◌, map, ap, sym, ◌∙◌}
use Rattle.std.proofs.lemmas.List.{append-nil}
use Rattle.logic_ast.specs.View.{bucket_view, buckets_of}
use Rattle.logic_ast.proofs.Replaced.{literal_of, literal_buckets-map}
use Rattle.logic_ast.proofs.replace.literal_buckets.Goals as goal

pub returns : goal.returns
returns c =
    let l = c.loop-name in
    let items = map bucket_view l.buckets.items in
    let none = ap (λ es. items ++ map literal_of es) c.in-None.ensures.steps.0 in
    ap buckets_of (sym (append-nil items) ∙ (sym none ∙ l.invariant.made)) ∙ sym (literal_buckets-map c.args.rule.now)
