use Rattle.std.proofs.Common.{codes}
use Rattle.std.proofs.lemmas.Result.{on_ok_weaker}
use Rattle.http_server.specs.Response.{fields_of}
use Rattle.ofrep_guards.proofs.Fields.{two}
use Rattle.ofrep_guards.proofs.replying.add_method.Goals as goal

-- the two, one after the other
pub returns-clause-fields : goal.returns-clause-fields
returns-clause-fields c =
    on_ok_weaker c.add_header-2.result
    (two (fields_of c.args.response.now) (fields_of c.add_header.new.self) (fields_of c.add_header-2.new.self)
    (codes "allow") (codes "content-type") c.from_static-post.result c.from_static.result (codes "POST") (codes "application/json")
    c.from_static-post.ensures c.from_static.ensures c.in_ok-add_header.ensures.headers)
    c.add_header-2.ensures.headers
