use Rattle.std.proofs.Common.{List, ℕ, Option, ◌++◌, string_bytes, ap, ◌∙◌}
use Rattle.std.specs.Prelude.{unwrap_or}
use Rattle.std.proofs.lemmas.Result.{on_ok_weaker}
use Rattle.flag_text.specs.Printing.{text_of}
use Rattle.flag_text.specs.View.{view}
use Rattle.flag_defs.proofs.spelled.push_spelled.Goals as goal

pub returns-in_ok-push_str-in-Some : goal.returns-in_ok-push_str-in-Some
returns-in_ok-push_str-in-Some c =
    c.in_ok-push_str-in-Some.ensures.bytes ∙ ap (λ (o : Option (List ℕ)). string_bytes c.args.out.now ++ unwrap_or o (text_of (view c.args.value.now))) c.in-Some.ensures

pub returns-in-None : goal.returns-in-None
returns-in-None c =
    on_ok_weaker c.push_tree.result (λ e. e ∙ ap (λ (o : Option (List ℕ)). string_bytes c.args.out.now ++ unwrap_or o (text_of (view c.args.value.now))) c.in-None.ensures) c.push_tree.ensures.ok
