use Rattle.flagops_files.proofs.Wholes.{read_whole}
use Rattle.flagops_files.proofs.laws.files_are_read_whole.Goals as goal

pub returns : goal.returns
returns c = read_whole
