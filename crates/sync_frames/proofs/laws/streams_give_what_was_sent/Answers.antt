use Rattle.sync_frames.proofs.Sent.{gives}
use Rattle.sync_frames.proofs.laws.streams_give_what_was_sent.Goals as goal

pub returns : goal.returns
returns c = record { flags = gives }
