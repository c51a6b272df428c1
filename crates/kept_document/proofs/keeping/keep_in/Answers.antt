use Rattle.std.proofs.Common.{◌≡◌, arith}
use Rattle.flag_text.specs.View.{view as tree_view}
use Rattle.logic_ast.specs.Expr.{view}
use Rattle.logic_ast.specs.Writing.{written}
use Rattle.text_spans.specs.View.{path_of}
use Rattle.kept_document.specs.Place.{buckets, site_place}
use Rattle.kept_document.proofs.Checked.{refused_text}
use Rattle.kept_document.proofs.Texts.{text_some}
use Rattle.kept_document.proofs.keeping.keep_in.Goals as goal

pub returns-in-Some-clause-refused : goal.returns-in-Some-clause-refused
returns-in-Some-clause-refused c =
    let place : site_place (tree_view c.args.tree.now) c.args.key.now (written (view c.args.targeting.now)) c.args.site ≡ buckets (path_of c.in-Buckets.list.items) c.in-Buckets.first c.in-Buckets.last = grind arith in
    refused_text c.args.floats c.args.document.now _ _ _ _ c.args.rule.now _ _ c.checked.result place
    (text_some _ _ _ _ _ c.in_ok-kept-in-Buckets.field-0 c.in-Some.kept c.in_ok-kept-in-Buckets.ensures c.in-Some.is) c.checked.ensures.refused
