use Rattle.std.proofs.Common.{◌≡◌, string_bytes, rules, ◌∷◌, ◌++◌, [], ap, ◌∙◌}
use Rattle.flag_text.specs.Printing.{text_of}
use Rattle.flag_text.specs.Shape.{is_whole}
use Rattle.flag_text.specs.View.{view}
use Rattle.note_lines.proofs.Lines.{whole_parts}
use Rattle.note_lines.proofs.print.line_with.Goals as goal

pub print_tree-requires : goal.print_tree-requires
print_tree-requires c = ap is_whole c.in_ok-tree.ensures.tree ∙ whole_parts c.args.page.now (view c.args.last) c.in_ok-tree.ensures.site c.requires

pub returns-clause-text : goal.returns-clause-text
returns-clause-text c =
    let bytes : c.into_bytes-line.result.items ≡ string_bytes c.in_ok-print_tree.field-0 = search rules in
    c.in_ok-push.ensures.items
    ∙ ap (λ items. items ++ 10 ∷ []) (bytes ∙ c.in_ok-print_tree.ensures.text ∙ ap text_of c.in_ok-tree.ensures.tree)
