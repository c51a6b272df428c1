-- What was written, one behind another, is what is written for all.
use Rattle.std.proofs.lemmas.Result.{on_ok_weaker}
use Rattle.plan_text.proofs.Writes.{behind}
use Rattle.plan_text.proofs.writing.write_under.Goals as goal

pub returns-clause-ok : goal.returns-clause-ok
returns-clause-ok c =
    on_ok_weaker c.end_object.result
    (λ e.
    behind c.args.out.now.tokens _ _ _ _ c.in_ok-begin_object.ensures.ok
    (behind c.begin_object.new.self.tokens _ _ _ _ c.in_ok-key.ensures.ok
    (behind c.key.new.self.tokens _ _ _ _ c.in_ok-write_names.ensures.ok
    (behind c.write_names.new.out.tokens _ _ _ _ c.in_ok-key-2.ensures.ok
    (behind c.key-2.new.self.tokens _ _ _ _ c.in_ok-u64.ensures.ok
    (behind c.u64.new.self.tokens _ _ _ _ c.in_ok-key-3.ensures.ok
    (behind c.key-3.new.self.tokens _ _ _ _ c.in_ok-string.ensures.ok e)))))))
    c.end_object.ensures.ok
