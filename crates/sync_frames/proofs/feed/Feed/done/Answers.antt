use Rattle.std.proofs.Common.{length, subst, sym, ap, ◌∙◌}
use Rattle.std.proofs.lemmas.Bool.{eqb-true, eq-eqb, false≢true}
use Rattle.std.proofs.lemmas.List.{nil_from_length}
use Rattle.sync_frames.specs.Feed.{Stands}
use Rattle.sync_frames.specs.declared.stage.Stage.{Stage}
use Rattle.sync_frames.proofs.Feeds.{is_done, done_is, fault-not_done}
use Rattle.sync_frames.proofs.feed.Feed.done.Goals as goal

pub returns-in-Reading : goal.returns-in-Reading
returns-in-Reading c = λ x fed.
    let f = c.args.self.now in
    let stands = subst (λ (s : Stage). Stands x f.last f.kept.items s) c.in-Reading.is fed in (
      λ h. is_done x f.kept.items f.last stands (nil_from_length f.kept.items (sym f.kept.ok.0 ∙ eqb-true f.kept.len 0 (sym c.is_empty.ensures ∙ h))),
      λ h. c.is_empty.ensures ∙ eq-eqb f.kept.len 0 (f.kept.ok.0 ∙ ap length (done_is x f.kept.items f.last stands h)),
    )

pub returns-in-Faulty : goal.returns-in-Faulty
returns-in-Faulty c = λ x fed.
    let f = c.args.self.now in
    let stands = subst (λ (s : Stage). Stands x f.last f.kept.items s) c.in-Faulty.is fed in
    (λ e. absurd (false≢true e), λ h. absurd (fault-not_done x _ stands h))

pub returns-in-Failed : goal.returns-in-Failed
returns-in-Failed c = λ x fed.
    let f = c.args.self.now in
    let stands = subst (λ (s : Stage). Stands x f.last f.kept.items s) c.in-Failed.is fed in
    (λ e. absurd (false≢true e), λ h. absurd (fault-not_done x stands.0 stands.1 h))
