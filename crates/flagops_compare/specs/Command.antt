-- What is known of the command `compare`.
use Rattle.std.specs.Prelude.{◌≡◌, codes}
use Rattle.flagops_compare.specs.Drawn.{LeavesBut}
use Rattle.flagops_compare.specs.Report.{IsCompareReport, remark_of}
use Rattle.flagops_compare.specs.Words.{Comparing, compare_by, compare_faults}
use Rattle.flagops_compare.specs.declared.refusal.CompareRefusal.{CompareRefusal}
use Rattle.flagops_shell.specs.Running.{Description}

-- its words, what it comes to over the files, and what a person is told of that; each want of memory is reported by its own name, and
-- no file is changed but that of the picture, where one is asked for
abbrev pub description : Description Comparing CompareRefusal
description = record {
  asked_by = compare_by;
  faults_of = compare_faults;
  MayCome = λ a at after. IsCompareReport at after a;
  MayTell = λ a at. remark_of at a;
  call_of = λ a e. codes "compare";
  MayWant = λ a name. name ≡ codes "compare";
  MayLeave = λ a. LeavesBut a.picture;
  IsDone = λ status. status ≡ 0;
}
