-- What was written, one behind another, is what is written for all.
use Rattle.std.proofs.Common.{◌++◌, ap, ◌∙◌}
use Rattle.std.proofs.lemmas.Result.{on_ok_weaker}
use Rattle.json.specs.Tree.{json_tokens}
use Rattle.flag_text.specs.Grammar.{written}
use Rattle.flag_text.specs.Shape.{list}
use Rattle.transport_core.specs.Certificate.{alpha_view, beta_view}
use Rattle.transport_core.specs.WrittenCertificate.{items_by, alpha_written, beta_written}
use Rattle.plan_text.proofs.Writes.{behind}
use Rattle.plan_text.proofs.writing.write_rule.Goals as goal

pub returns-clause-ok : goal.returns-clause-ok
returns-clause-ok c =
    let alpha = c.in_ok-write_alpha.ensures.ok ∙ ap (λ rows. c.key.new.self.tokens ++ json_tokens (written (list (items_by alpha_written (alpha_view rows))))) c.as_slice.ensures.value in
    let beta = c.in_ok-write_beta.ensures.ok ∙ ap (λ rows. c.key-2.new.self.tokens ++ json_tokens (written (list (items_by beta_written (beta_view rows))))) c.as_slice-2.ensures.value in
    on_ok_weaker c.end_object.result
    (λ e.
    behind c.args.out.now.tokens _ _ _ _ c.in_ok-begin_object.ensures.ok
    (behind c.begin_object.new.self.tokens _ _ _ _ c.in_ok-key.ensures.ok
    (behind c.key.new.self.tokens _ _ _ _ alpha
    (behind c.write_alpha.new.out.tokens _ _ _ _ c.in_ok-key-2.ensures.ok
    (behind c.key-2.new.self.tokens _ _ _ _ beta
    (behind c.write_beta.new.out.tokens _ _ _ _ c.in_ok-key-3.ensures.ok
    (behind c.key-3.new.self.tokens _ _ _ _ c.in_ok-u64.ensures.ok
    (behind c.u64.new.self.tokens _ _ _ _ c.in_ok-key-4.ensures.ok
    (behind c.key-4.new.self.tokens _ _ _ _ c.in_ok-u64-2.ensures.ok
    (behind c.u64-2.new.self.tokens _ _ _ _ c.in_ok-key-5.ensures.ok
    (behind c.key-5.new.self.tokens _ _ _ _ c.in_ok-write_entries.ensures.ok e)))))))))))
    c.end_object.ensures.ok
