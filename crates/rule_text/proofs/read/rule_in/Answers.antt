-- the entries that were read make the rule of the text
use Rattle.std.proofs.Common.{◌≡◌, Err, rules}
use Rattle.serde_json.specs.Read.{read}
use Rattle.flag_text.specs.Reading.{if_json, if_whole}
use Rattle.rule_text.specs.Lent.{lent_view}
use Rattle.rule_text.specs.Listed.{IsListed}
use Rattle.rule_text.proofs.Found.{refused_text, ruled_by}
use Rattle.rule_text.proofs.Literal.{listed_buckets}
use Rattle.rule_text.proofs.read.rule_in.Goals as goal

pub returns-in-Some-clause-exact : goal.returns-in-Some-clause-exact
returns-in-Some-clause-exact c =
    let es = lent_view c.in-Some.entries.items in
    let is_listed : IsListed c.args.text.now es = search rules in
    let same = ruled_by es (if_whole (if_json (read c.args.text.now))) (listed_buckets c.args.text.now es is_listed) in
    rw same c.rule_of.ensures.exact

pub returns-in_err-buckets-clause-exact : goal.returns-in_err-buckets-clause-exact
returns-in_err-buckets-clause-exact c =
    let is : c.from_residual-in_err-buckets.result ≡ Err c.in_err-buckets.field-0.0 = search rules in
    refused_text c.from_residual-in_err-buckets.result c.in_err-buckets.field-0.0 (if_whole (if_json (read c.args.text.now))) is c.in_err-buckets.ensures.exact

pub returns-clause-exact : goal.returns-clause-exact
returns-clause-exact c =
    let same = ruled_by (lent_view c.in_ok-buckets.buckets.items) (if_whole (if_json (read c.args.text.now))) c.in_ok-buckets.ensures.exact in
    rw same c.rule_of-2.ensures.exact
