use Rattle.std.proofs.Common.{List, ◌∙◌, Global, String, ap, map, string_bytes}
use Rattle.std.proofs.lemmas.Result.{IfOk-weaker}
use Rattle.control_flags.specs.Doubts.{doubts_text}
use Rattle.control_flags.specs.Joined.{joined}
use Rattle.control_flags.proofs.doubts.doubts_text.Goals as goal

pub returns : goal.returns
unfolding doubts_text
returns c = IfOk-weaker c.joined.result _ _ (λ s is. is ∙ ap (λ (rows : List (String Global)). joined (map string_bytes rows)) c.as_slice.ensures.value ∙ ap joined c.in_ok-rows.ensures) c.joined.ensures
