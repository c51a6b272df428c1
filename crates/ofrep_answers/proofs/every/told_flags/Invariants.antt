use Rattle.std.proofs.Common.{◌≡◌, map, string_bytes, take}
use Rattle.flag_defs.specs.Flags.{flags_view}
use Rattle.flag_defs.specs.Floats.{floats_view}
use Rattle.flag_metadata.specs.Merged.{flag_metadata}
use Rattle.flag_metadata.specs.View.{metadata_view}
use Rattle.flag_text.specs.View.{view}
use Rattle.ofrep_answers.specs.Answer.{reached_view}
use Rattle.ofrep_answers.specs.Evaluation.{bodies, reached_in}
use Rattle.ofrep_answers.proofs.every.told_flags.Given as goal

abbrev pub invariant-loop-i : goal.invariant-loop-i
invariant-loop-i l = record {
  bodies : map string_bytes l.told.bodies.items ≡ bodies (flag_metadata (metadata_view l.metadata)) (flags_view l.flags, floats_view l.flags) (view l.context) l.moment (take l.i (flags_view l.flags));
  reached : map reached_view l.told.reached.items ≡ reached_in (flags_view l.flags) (view l.context) l.moment (take l.i (flags_view l.flags));
}
