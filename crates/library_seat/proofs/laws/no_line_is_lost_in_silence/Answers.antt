use Rattle.library_seat.proofs.Growing.{all_kept, all_stay, only_those, all_once, all_within}
use Rattle.library_seat.proofs.laws.no_line_is_lost_in_silence.Goals as goal

pub returns : goal.returns
returns c = record { kept = all_kept; stay = all_stay; only = only_those; once = all_once; within = all_within }
