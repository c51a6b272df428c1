use Rattle.std.proofs.Common.{codes}
use Rattle.std.proofs.lemmas.Result.{on_ok_weaker}
use Rattle.http_server.specs.Response.{fields_of}
use Rattle.ofrep_guards.proofs.Fields.{one}
use Rattle.ofrep_guards.proofs.replying.add_plain.Goals as goal

pub returns-clause-fields : goal.returns-clause-fields
returns-clause-fields c =
    on_ok_weaker c.add_header.result
    (one (fields_of c.args.response.now) (fields_of c.add_header.new.self) (codes "content-type") c.from_static-plain.result (codes "text/plain; charset=utf-8") c.from_static-plain.ensures)
    c.add_header.ensures.headers
