use Rattle.std.proofs.Common.{◌≡◌, sym, ◌∙◌, subst, map}
use Rattle.flagops.specs.Comes.{Comes}
use Rattle.flagops.specs.declared.family.Family.{Family}
use Rattle.flagops.proofs.dispatch.status_of.Goals as goal

-- each command comes to what is said of its run

pub returns-in-Files : goal.returns-in-Files
returns-in-Files g c =
    subst (λ (f : Family). Comes c.args.console.now c.run.new.console (g.F.FileSet.holding c.args.files.now) (g.F.FileSet.holding c.run.new.files) (g.F.FileSet.has_failed c.args.files.now) (g.F.FileSet.has_failed c.run.new.files)
    c.run.result (g.I.Inlet.bytes c.args.input.now) (g.I.Inlet.is_broken c.args.input.now) f (map g.S.AsStr.text c.args.words.now))
    (sym c.in-Files.is ∙ c.family_of.ensures)
    (c.run.ensures.answers, c.run.ensures.unread, c.run.ensures.tells, c.run.ensures.left, c.run.ensures.stored)

pub returns-in-Ramp : goal.returns-in-Ramp
returns-in-Ramp g c =
    subst (λ (f : Family). Comes c.args.console.now c.run-in-Ramp.new.console (g.F.FileSet.holding c.args.files.now) (g.F.FileSet.holding c.run-in-Ramp.new.files) (g.F.FileSet.has_failed c.args.files.now) (g.F.FileSet.has_failed c.run-in-Ramp.new.files)
    c.run-in-Ramp.result (g.I.Inlet.bytes c.args.input.now) (g.I.Inlet.is_broken c.args.input.now) f (map g.S.AsStr.text c.args.words.now))
    (sym c.in-Ramp.is ∙ c.family_of.ensures)
    (c.run-in-Ramp.ensures.answers, c.run-in-Ramp.ensures.unread, c.run-in-Ramp.ensures.tells, c.run-in-Ramp.ensures.left, c.run-in-Ramp.ensures.stored)

pub returns-in-VerifyRamp : goal.returns-in-VerifyRamp
returns-in-VerifyRamp g c =
    subst (λ (f : Family). Comes c.args.console.now c.run-in-VerifyRamp.new.console (g.F.FileSet.holding c.args.files.now) (g.F.FileSet.holding c.run-in-VerifyRamp.new.files) (g.F.FileSet.has_failed c.args.files.now) (g.F.FileSet.has_failed c.run-in-VerifyRamp.new.files)
    c.run-in-VerifyRamp.result (g.I.Inlet.bytes c.args.input.now) (g.I.Inlet.is_broken c.args.input.now) f (map g.S.AsStr.text c.args.words.now))
    (sym c.in-VerifyRamp.is ∙ c.family_of.ensures)
    (c.run-in-VerifyRamp.ensures.answers, c.run-in-VerifyRamp.ensures.unread, c.run-in-VerifyRamp.ensures.tells, c.run-in-VerifyRamp.ensures.left, c.run-in-VerifyRamp.ensures.stored)

pub returns-in-Picture : goal.returns-in-Picture
returns-in-Picture g c =
    subst (λ (f : Family). Comes c.args.console.now c.run-in-Picture.new.console (g.F.FileSet.holding c.args.files.now) (g.F.FileSet.holding c.run-in-Picture.new.files) (g.F.FileSet.has_failed c.args.files.now) (g.F.FileSet.has_failed c.run-in-Picture.new.files)
    c.run-in-Picture.result (g.I.Inlet.bytes c.args.input.now) (g.I.Inlet.is_broken c.args.input.now) f (map g.S.AsStr.text c.args.words.now))
    (sym c.in-Picture.is ∙ c.family_of.ensures)
    (c.run-in-Picture.ensures.answers, c.run-in-Picture.ensures.unread, c.run-in-Picture.ensures.tells, c.run-in-Picture.ensures.left, c.run-in-Picture.ensures.stored)

pub returns-in-PictureRamp : goal.returns-in-PictureRamp
returns-in-PictureRamp g c =
    subst (λ (f : Family). Comes c.args.console.now c.run-in-PictureRamp.new.console (g.F.FileSet.holding c.args.files.now) (g.F.FileSet.holding c.run-in-PictureRamp.new.files) (g.F.FileSet.has_failed c.args.files.now) (g.F.FileSet.has_failed c.run-in-PictureRamp.new.files)
    c.run-in-PictureRamp.result (g.I.Inlet.bytes c.args.input.now) (g.I.Inlet.is_broken c.args.input.now) f (map g.S.AsStr.text c.args.words.now))
    (sym c.in-PictureRamp.is ∙ c.family_of.ensures)
    (c.run-in-PictureRamp.ensures.answers, c.run-in-PictureRamp.ensures.unread, c.run-in-PictureRamp.ensures.tells, c.run-in-PictureRamp.ensures.left, c.run-in-PictureRamp.ensures.stored)

pub returns-in-PlanPicture : goal.returns-in-PlanPicture
returns-in-PlanPicture g c =
    subst (λ (f : Family). Comes c.args.console.now c.run-in-PlanPicture.new.console (g.F.FileSet.holding c.args.files.now) (g.F.FileSet.holding c.run-in-PlanPicture.new.files) (g.F.FileSet.has_failed c.args.files.now) (g.F.FileSet.has_failed c.run-in-PlanPicture.new.files)
    c.run-in-PlanPicture.result (g.I.Inlet.bytes c.args.input.now) (g.I.Inlet.is_broken c.args.input.now) f (map g.S.AsStr.text c.args.words.now))
    (sym c.in-PlanPicture.is ∙ c.family_of.ensures)
    (c.run-in-PlanPicture.ensures.answers, c.run-in-PlanPicture.ensures.unread, c.run-in-PlanPicture.ensures.tells, c.run-in-PlanPicture.ensures.left, c.run-in-PlanPicture.ensures.stored)

pub returns-in-ApplyStep : goal.returns-in-ApplyStep
returns-in-ApplyStep g c =
    subst (λ (f : Family). Comes c.args.console.now c.run-in-ApplyStep.new.console (g.F.FileSet.holding c.args.files.now) (g.F.FileSet.holding c.run-in-ApplyStep.new.files) (g.F.FileSet.has_failed c.args.files.now) (g.F.FileSet.has_failed c.run-in-ApplyStep.new.files)
    c.run-in-ApplyStep.result (g.I.Inlet.bytes c.args.input.now) (g.I.Inlet.is_broken c.args.input.now) f (map g.S.AsStr.text c.args.words.now))
    (sym c.in-ApplyStep.is ∙ c.family_of.ensures)
    (c.run-in-ApplyStep.ensures.answers, c.run-in-ApplyStep.ensures.unread, c.run-in-ApplyStep.ensures.tells, c.run-in-ApplyStep.ensures.left, c.run-in-ApplyStep.ensures.stored)

pub returns-in-KeepStep : goal.returns-in-KeepStep
returns-in-KeepStep g c =
    subst (λ (f : Family). Comes c.args.console.now c.run-in-KeepStep.new.console (g.F.FileSet.holding c.args.files.now) (g.F.FileSet.holding c.run-in-KeepStep.new.files) (g.F.FileSet.has_failed c.args.files.now) (g.F.FileSet.has_failed c.run-in-KeepStep.new.files)
    c.run-in-KeepStep.result (g.I.Inlet.bytes c.args.input.now) (g.I.Inlet.is_broken c.args.input.now) f (map g.S.AsStr.text c.args.words.now))
    (sym c.in-KeepStep.is ∙ c.family_of.ensures)
    (c.run-in-KeepStep.ensures.answers, c.run-in-KeepStep.ensures.unread, c.run-in-KeepStep.ensures.tells, c.run-in-KeepStep.ensures.left, c.run-in-KeepStep.ensures.stored)

pub returns-in-Join : goal.returns-in-Join
returns-in-Join g c =
    subst (λ (f : Family). Comes c.args.console.now c.run-in-Join.new.console (g.F.FileSet.holding c.args.files.now) (g.F.FileSet.holding c.run-in-Join.new.files) (g.F.FileSet.has_failed c.args.files.now) (g.F.FileSet.has_failed c.run-in-Join.new.files)
    c.run-in-Join.result (g.I.Inlet.bytes c.args.input.now) (g.I.Inlet.is_broken c.args.input.now) f (map g.S.AsStr.text c.args.words.now))
    (sym c.in-Join.is ∙ c.family_of.ensures)
    (c.run-in-Join.ensures.answers, c.run-in-Join.ensures.unread, c.run-in-Join.ensures.tells, c.run-in-Join.ensures.left, c.run-in-Join.ensures.stored)

pub returns-in-Book : goal.returns-in-Book
returns-in-Book g c =
    subst (λ (f : Family). Comes c.args.console.now c.run-in-Book.new.console (g.F.FileSet.holding c.args.files.now) (g.F.FileSet.holding c.run-in-Book.new.files) (g.F.FileSet.has_failed c.args.files.now) (g.F.FileSet.has_failed c.run-in-Book.new.files)
    c.run-in-Book.result (g.I.Inlet.bytes c.args.input.now) (g.I.Inlet.is_broken c.args.input.now) f (map g.S.AsStr.text c.args.words.now))
    (sym c.in-Book.is ∙ c.family_of.ensures)
    (c.run-in-Book.ensures.answers, c.run-in-Book.ensures.unread, c.run-in-Book.ensures.tells, c.run-in-Book.ensures.left, c.run-in-Book.ensures.stored)

pub returns-in-Check : goal.returns-in-Check
returns-in-Check g c =
    subst (λ (f : Family). Comes c.args.console.now c.run-in-Check.new.console (g.F.FileSet.holding c.args.files.now) (g.F.FileSet.holding c.run-in-Check.new.files) (g.F.FileSet.has_failed c.args.files.now) (g.F.FileSet.has_failed c.run-in-Check.new.files)
    c.run-in-Check.result (g.I.Inlet.bytes c.args.input.now) (g.I.Inlet.is_broken c.args.input.now) f (map g.S.AsStr.text c.args.words.now))
    (sym c.in-Check.is ∙ c.family_of.ensures)
    (c.run-in-Check.ensures.answers, c.run-in-Check.ensures.unread, c.run-in-Check.ensures.tells, c.run-in-Check.ensures.left, c.run-in-Check.ensures.stored)

pub returns-in-Compare : goal.returns-in-Compare
returns-in-Compare g c =
    subst (λ (f : Family). Comes c.args.console.now c.run-in-Compare.new.console (g.F.FileSet.holding c.args.files.now) (g.F.FileSet.holding c.run-in-Compare.new.files) (g.F.FileSet.has_failed c.args.files.now) (g.F.FileSet.has_failed c.run-in-Compare.new.files)
    c.run-in-Compare.result (g.I.Inlet.bytes c.args.input.now) (g.I.Inlet.is_broken c.args.input.now) f (map g.S.AsStr.text c.args.words.now))
    (sym c.in-Compare.is ∙ c.family_of.ensures)
    (c.run-in-Compare.ensures.answers, c.run-in-Compare.ensures.unread, c.run-in-Compare.ensures.tells, c.run-in-Compare.ensures.left, c.run-in-Compare.ensures.stored)

pub returns-in-Record : goal.returns-in-Record
returns-in-Record g c =
    subst (λ (f : Family). Comes c.args.console.now c.record.new.console (g.F.FileSet.holding c.args.files.now) (g.F.FileSet.holding c.record.new.files) (g.F.FileSet.has_failed c.args.files.now) (g.F.FileSet.has_failed c.record.new.files)
    c.record.result (g.I.Inlet.bytes c.args.input.now) (g.I.Inlet.is_broken c.record.new.input) f (map g.S.AsStr.text c.args.words.now))
    (sym c.in-Record.is ∙ c.family_of.ensures)
    (c.record.ensures.answers, c.record.ensures.unread, c.record.ensures.tells, c.record.ensures.kept)

pub returns-in-Tally : goal.returns-in-Tally
returns-in-Tally g c =
    subst (λ (f : Family). Comes c.args.console.now c.tally.new.console (g.F.FileSet.holding c.args.files.now) (g.F.FileSet.holding c.tally.new.files) (g.F.FileSet.has_failed c.args.files.now) (g.F.FileSet.has_failed c.tally.new.files)
    c.tally.result (g.I.Inlet.bytes c.args.input.now) (g.I.Inlet.is_broken c.tally.new.input) f (map g.S.AsStr.text c.args.words.now))
    (sym c.in-Tally.is ∙ c.family_of.ensures)
    (c.tally.ensures.answers, c.tally.ensures.unread, c.tally.ensures.tells, c.tally.ensures.kept)
