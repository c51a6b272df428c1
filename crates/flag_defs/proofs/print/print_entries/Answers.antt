use Rattle.std.proofs.Common.{codes, ap, ◌∙◌, subst, string_bytes}
use Rattle.std.proofs.lemmas.Result.{IfOk-weaker}
use Rattle.flag_text.specs.Printing.{text_of}
use Rattle.flag_text.specs.Shape.{is_whole, object, no_members, member}
use Rattle.flag_defs.specs.Flag.{entries_view}
use Rattle.flag_defs.specs.Law.{ReadsBack}
use Rattle.flag_defs.proofs.Lawful.{lawful_flags}
use Rattle.flag_defs.proofs.Printed.{whole_document}
use Rattle.flag_defs.proofs.print.print_entries.Goals as goal

pub print_tree-requires : goal.print_tree-requires
print_tree-requires c =
    let fs = c.args.flags.now in
    ap is_whole (c.in_ok-document.ensures ∙ ap (λ ms. object (member (codes "flags") (object ms) no_members)) c.in_ok-definitions.ensures) ∙ whole_document (entries_view fs) c.requires (lawful_flags fs)

pub returns-clause-text : goal.returns-clause-text
returns-clause-text c =
    IfOk-weaker c.print_tree.result _ _ (λ s is. is ∙ ap text_of (c.in_ok-document.ensures ∙ ap (λ ms. object (member (codes "flags") (object ms) no_members)) c.in_ok-definitions.ensures)) c.print_tree.ensures.text

pub returns-clause-reads : goal.returns-clause-reads
returns-clause-reads c =
    let same = c.in_ok-document.ensures ∙ ap (λ ms. object (member (codes "flags") (object ms) no_members)) c.in_ok-definitions.ensures in
    IfOk-weaker c.print_tree.result _ _ (λ s back. subst (ReadsBack (string_bytes s)) same (λ limit deep fits. back limit deep fits)) c.print_tree.ensures.reads_back
