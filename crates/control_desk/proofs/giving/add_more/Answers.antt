use Rattle.std.proofs.Common.{◌≡◌, List, [], ◌∷◌, ◌++◌, sym, ap, ◌∙◌}
use Rattle.std.proofs.lemmas.List.{append-nil}
use Rattle.std.proofs.lemmas.Result.{IfOk-weaker}
use Rattle.http1.specs.Fields.{Header}
use Rattle.http_server.specs.Response.{fields_of}
use Rattle.control_desk.specs.Reply.{more_of}
use Rattle.control_desk.specs.Sent.{fields_in}
use Rattle.control_desk.proofs.giving.add_more.Goals as goal

pub returns-in-Some-clause-fields : goal.returns-in-Some-clause-fields
returns-in-Some-clause-fields c =
    let held = fields_of c.args.response.now in
    let more : (c.in-Some.name, c.in-Some.value.bytes) ∷ [] ≡ more_of c.args.reply = sym (ap fields_in c.in-Some.is) ∙ c.more_of.ensures in
    IfOk-weaker c.add_header.result _ _ (λ _ h. h ∙ ap (λ (fs : List Header). held ++ fs) more) c.add_header.ensures.headers

pub returns-in-None-clause-fields : goal.returns-in-None-clause-fields
returns-in-None-clause-fields c =
    let held = fields_of c.args.response.now in
    let none : [] ≡ more_of c.args.reply = sym (ap fields_in c.in-None.is) ∙ c.more_of.ensures in
    sym (append-nil held) ∙ ap (λ (fs : List Header). held ++ fs) none
