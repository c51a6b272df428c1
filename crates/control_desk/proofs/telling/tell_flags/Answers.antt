use Rattle.std.proofs.Common.{◌∙◌, ap, map, refl, string_bytes}
use Rattle.std.proofs.lemmas.Result.{on_ok_weaker}
use Rattle.http_server.specs.Response.{IsResponse, fields_of}
use Rattle.control_flags.specs.Flags.{flags_text}
use Rattle.control_flags.specs.declared.answer.FlagsAsked.{FlagsAsked}
use Rattle.control_desk.specs.Bodies.{IsAskedOf}
use Rattle.control_desk.specs.Held.{numbered_of}
use Rattle.control_desk.specs.Rules.{rules_view}
use Rattle.control_desk.specs.Sent.{type_field}
use Rattle.control_desk.specs.declared.giving.Media.TheVariants.{Json}
use Rattle.control_desk.proofs.Filled.{filled}
use Rattle.control_desk.proofs.Seen.{seen_alike}
use Rattle.control_desk.proofs.telling.tell_flags.Goals as goal

-- what is asked is of the snapshot and of what the desk goes by
pub returns : goal.returns
returns c =
    let rules = rules_view c.args.rules.now in
    let s = numbered_of c.args.held.now in
    let recorded = c.args.recorded.now.entries in
    let response = c.finish.new.response in
    let asked : FlagsAsked = record {
      number = c.number.result;
      flags = c.flags.result;
      remarks = c.as_str.result;
      sources = c.as_slice-2.result;
      recorded = c.args.recorded;
      may_apply = c.is_some.result;
    } in
    let are : IsAskedOf rules s recorded asked = record {
      number = cc;
      flags = cc;
      floats = cc;
      may_apply = c.is_some.ensures ∙ seen_alike string_bytes c.args.rules.now.applied_to;
      sources = ap (map (λ t. t.now)) c.as_slice-2.ensures.value ∙ (c.in_ok-sources.ensures ∙ ap (map string_bytes) c.as_slice.ensures.value);
      recorded_is = refl;
    } in
    on_ok_weaker c.finish.result (λ (is : IsResponse 200 (type_field Json) (flags_text asked) response). (asked, are, is))
    (filled c.finish.result 200 (fields_of c.args.response.now) (type_field Json) c.as_slice-3.result.now (flags_text asked) response c.requires.headers (c.as_slice-3.ensures.value ∙ c.in_ok-body.ensures) c.finish.ensures)
