-- What is told of one thing is told of one of several.
use Rattle.std.specs.Prelude.{Bool, [], ◌∷◌, ◌++◌}
use Rattle.flagops_files.specs.Told.{NamesOne, Subject, Subjects}
use Rattle.flagops_shell.specs.declared.refused.Remark.{Remark}
use Rattle.flagops_files.proofs.Told.{told_left, told_right}

pub told_among : {R : Type 0} (before : Subjects R) (s : Subject × (R → Bool)) (after : Subjects R) (e : R) (remark : Remark) → NamesOne (s ∷ []) e remark → NamesOne (before ++ (s ∷ after)) e remark
told_among before s after e remark told = told_right before (s ∷ after) e remark (told_left (s ∷ []) after e remark told)
