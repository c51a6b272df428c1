-- whichever way it was written
use Rattle.std.proofs.lemmas.Result.{on_ok_weaker}
use Rattle.flag_text.proofs.Quoted.{read-quoted}
use Rattle.flag_text.proofs.push.push_text.Goals as goal

pub returns-then-is_all_plain-clause-reads_back : goal.returns-then-is_all_plain-clause-reads_back
returns-then-is_all_plain-clause-reads_back c = on_ok_weaker c.push_plain.result (λ e limit fits. read-quoted c.args.content.now limit c.utf8.content fits) c.push_plain.ensures.ok

pub returns-else-is_all_plain-clause-reads_back : goal.returns-else-is_all_plain-clause-reads_back
returns-else-is_all_plain-clause-reads_back c = on_ok_weaker c.push_escaped.result (λ e limit fits. read-quoted c.args.content.now limit c.utf8.content fits) c.push_escaped.ensures.ok
