use Rattle.std.proofs.Common.{Option, ◌++◌, ◌∙◌, ap, append-nil, map, string_bytes, sym}
use Rattle.std.proofs.lemmas.Result.{on_ok_weaker}
use Rattle.logic_ast.specs.Expression.{Expression}
use Rattle.control_flags.specs.Sites.{rows_of}
use Rattle.control_flags.proofs.sites.push_flag.Goals as goal

pub returns-in-Some : goal.returns-in-Some
returns-in-Some c =
    let before = map string_bytes c.args.rows.now.items in
    on_ok_weaker c.push_sites.result (λ is. is ∙ ap (λ (t : Option Expression). before ++ rows_of c.args.recorded.now.entries c.args.key.now t) c.in-Some.ensures.value) c.push_sites.ensures

pub returns-in-None : goal.returns-in-None
returns-in-None c =
    let before = map string_bytes c.args.rows.now.items in
    sym (append-nil before) ∙ ap (λ (t : Option Expression). before ++ rows_of c.args.recorded.now.entries c.args.key.now t) c.in-None.ensures.value
