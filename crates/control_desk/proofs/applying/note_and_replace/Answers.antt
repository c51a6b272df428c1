use Rattle.std.proofs.lemmas.Result.{on_ok_weaker}
use Rattle.flagops_shell.specs.Files.{Stores}
use Rattle.control_desk.proofs.applying.note_and_replace.Goals as goal

-- it is noted, and then it is stored
pub returns-clause-ok : goal.returns-clause-ok
returns-clause-ok g c =
    let noted = g.F.DeskFiles.holding c.append.new.self in
    let stored = g.F.DeskFiles.holding c.replace.new.self in
    on_ok_weaker c.replace.result
    (λ (is : Stores noted stored c.args.paths.1.now c.args.document.now). record {
      between = noted;
      noted = c.in_ok-append.ensures.added;
      beside = c.append.ensures.others;
      stored = is;
      others = c.replace.ensures.others;
    })
    c.replace.ensures.stored
