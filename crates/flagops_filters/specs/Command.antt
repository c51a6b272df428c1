-- What is known of the filters as commands.
use Rattle.std.specs.Prelude.{◌≡◌, ℕ, Bool, List, codes}
use Rattle.flagops_shell.specs.Running.{Description}
use Rattle.flagops_filters.specs.Join.{IsJoinReport}
use Rattle.flagops_filters.specs.Remarks.{join_remark, tally_remark}
use Rattle.flagops_filters.specs.Tally.{IsTallyReport, tally_call}
use Rattle.flagops_filters.specs.Words.{Joining, Tallying, join_by, join_faults, tally_by, tally_faults}
use Rattle.flagops_filters.specs.declared.refusal.FilterRefusal.{FilterRefusal}

-- of `join`: what the tallies come to; files are only read
abbrev pub join_description : Description Joining FilterRefusal
join_description = record {
  asked_by = join_by;
  faults_of = join_faults;
  MayCome = λ a at after. IsJoinReport at a.tallies;
  MayTell = λ a at. join_remark at a.tallies;
  call_of = λ a e. codes "join";
  MayWant = λ a name. name ≡ codes "join";
  MayLeave = λ a old new. new ≡ old;
  IsDone = λ status. status ≡ 0;
}

-- of `tally` over a standard input of these bytes; where `is_cut`, a read of it failed
abbrev pub tally_description : List ℕ → Bool → Description Tallying FilterRefusal
tally_description bytes is_cut = record {
  asked_by = tally_by;
  faults_of = tally_faults;
  MayCome = λ a at after. IsTallyReport at a bytes is_cut;
  MayTell = λ a at. tally_remark bytes a.document;
  call_of = λ a e. tally_call;
  MayWant = λ a name. name ≡ tally_call;
  MayLeave = λ a old new. new ≡ old;
  IsDone = λ status. status ≡ 0;
}
