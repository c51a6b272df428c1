use Rattle.std.proofs.Common.{◌≡◌, subst}
use Rattle.std.proofs.lemmas.Result.{on_ok_weaker}
use Rattle.flag_defs.specs.Document.{Definitions}
use Rattle.flag_defs.specs.Flags.{flags_view}
use Rattle.note_streams.specs.LogLines.{files_view}
use Rattle.control_answers.specs.SiteCounts.{AreSiteCounts}
use Rattle.control_desk.specs.Bodies.{TellsFlags}
use Rattle.control_desk.specs.Held.{numbered_of}
use Rattle.control_desk.specs.Rules.{rules_view}
use Rattle.control_desk.proofs.telling.tell_flags_on.Goals as goal

-- the counts that are told are those of the files
pub returns : goal.returns
returns c =
    let s = numbered_of c.args.held.now in
    let recorded = c.in_ok-recorded.recorded.entries in
    let flags : flags_view c.flags.result.now ≡ s.flags = cc in
    let counts = subst (λ (f : Definitions). AreSiteCounts f (files_view c.args.files.now) recorded) flags c.in_ok-recorded.ensures in
    on_ok_weaker c.tell_flags.result (λ (told : TellsFlags (rules_view c.args.rules.now) s recorded c.tell_flags.new.response). (recorded, counts, told)) c.tell_flags.ensures
