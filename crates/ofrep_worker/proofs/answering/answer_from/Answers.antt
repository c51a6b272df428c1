use Rattle.std.proofs.Common.{◌≡◌, ◌||◌, Bool, Option, rules, subst}
use Rattle.std.specs.Arc.{arc_value}
use Rattle.flag_defs.specs.Flags.{flags_view}
use Rattle.flag_defs.specs.Document.{Definitions}
use Rattle.note_log.specs.declared.trouble.Trouble.{Trouble}
use Rattle.ofrep_answers.specs.Answer.{Answered, answer_view}
use Rattle.ofrep_worker.specs.Answers.{RecordedIn, is_answered, kept_in}
use Rattle.ofrep_worker.specs.Asked.{asked_of}
use Rattle.ofrep_worker.specs.Notes.{notes_of}
use Rattle.ofrep_worker.specs.Sent.{GivesIn, unready}
use Rattle.ofrep_worker.proofs.answering.answer_from.Goals as goal

pub returns-clause-ok : goal.returns-clause-ok
returns-clause-ok g c =
    let flags = flags_view (arc_value c.args.with.now.snapshot.now).flags in
    let moment = c.moment_of-moment.result in
    let asked = asked_of c.args.request.now in
    let all = c.in_ok-recorded.recorded in
    let without = c.args.with.now.without_record in
    let cause = c.trouble-cause.result in
    let old = kept_in c.args.log.now in
    let new = kept_in c.record_answer.new.log in
    let told = answer_view c.in_ok-answer.answer in
    let is = c.in_ok-answer.ensures in
    let response = c.give.new.response in
    let given : GivesIn c.unready-why.result c.gives-is_given.result told response = c.give.ensures told c.in_ok-tell_in.ensures in
    let gives : GivesIn (unready cause asked told) (all || is_answered without) told response =
    subst (λ (t : Option Trouble). GivesIn t (all || is_answered without) told response) c.unready-why.ensures
    (subst (λ (b : Bool). GivesIn c.unready-why.result b told response) c.gives-is_given.ensures given) in
    let same : flags_view c.flags.result.now ≡ flags_view (arc_value c.args.with.now.snapshot.now).flags = search rules in (
      moment,
      c.moment_of-moment.ensures,
      all,
      cause,
      c.trouble-cause.ensures,
      subst (λ (a : Answered). GivesIn (unready cause asked a) (all || is_answered without) a response) is gives,
      subst (λ (a : Answered). RecordedIn all (notes_of flags a) old new) is
          (subst (λ (fs : Definitions). RecordedIn all (notes_of fs told) old new) same c.in_ok-recorded.ensures.records),
    )
