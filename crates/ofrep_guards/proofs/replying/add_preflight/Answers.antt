use Rattle.std.proofs.Common.{codes}
use Rattle.std.proofs.lemmas.Result.{on_ok_weaker}
use Rattle.http_server.specs.Response.{fields_of}
use Rattle.ofrep_guards.proofs.Fields.{three}
use Rattle.ofrep_guards.proofs.replying.add_preflight.Goals as goal

-- the three, one after the other
pub returns-clause-fields : goal.returns-clause-fields
returns-clause-fields c =
    on_ok_weaker c.add_header-3.result
    (three (fields_of c.args.response.now) (fields_of c.add_header.new.self) (fields_of c.add_header-2.new.self) (fields_of c.add_header-3.new.self)
    (codes "access-control-allow-methods") (codes "access-control-allow-headers") (codes "access-control-max-age")
    c.from_static-post.result c.from_static-fields.result c.from_static.result
    (codes "POST") (codes "content-type, if-none-match, authorization, x-api-key") (codes "600")
    c.from_static-post.ensures c.from_static-fields.ensures c.from_static.ensures
    c.in_ok-add_header.ensures.headers c.in_ok-add_header-2.ensures.headers)
    c.add_header-3.ensures.headers
