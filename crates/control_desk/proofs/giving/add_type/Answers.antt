use Rattle.std.proofs.Common.{codes}
use Rattle.std.proofs.lemmas.Result.{on_ok_weaker}
use Rattle.http_server.specs.Response.{fields_of}
use Rattle.ofrep_guards.proofs.Fields.{one}
use Rattle.control_desk.specs.Sent.{media_type}
use Rattle.control_desk.proofs.giving.add_type.Goals as goal

pub returns-clause-fields : goal.returns-clause-fields
returns-clause-fields c =
    on_ok_weaker c.add_header.result
    (one (fields_of c.args.response.now) (fields_of c.add_header.new.self) (codes "content-type") c.value.result (media_type c.args.media) c.value.ensures)
    c.add_header.ensures.headers
