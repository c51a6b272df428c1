use Rattle.flagops_filters.proofs.FilesJoined.{files_joined}
use Rattle.flagops_filters.proofs.laws.joined_files_are_of_all.Goals as goal

pub returns : goal.returns
returns c = files_joined c.a_join_is_the_tally_of_both.ensures
