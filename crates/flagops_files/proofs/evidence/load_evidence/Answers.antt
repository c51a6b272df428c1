use Rattle.std.proofs.Common.{rules}
use Rattle.flagops_files.proofs.Recorded.{no_bytes, recorded}
use Rattle.flagops_files.proofs.evidence.load_evidence.Goals as goal

pub returns-in_err-bytes-clause-exact : goal.returns-in_err-bytes-clause-exact
returns-in_err-bytes-clause-exact g c =
    let told = no_bytes c.args.path.now _ c.in_err-bytes.field-0.0 c.in_err-bytes.ensures.exact in
    search rules

pub returns-clause-exact : goal.returns-clause-exact
returns-clause-exact g c = recorded c.args.path.now _ c.in_ok-bytes.bytes.items c.evidence_in.result c.in_ok-bytes.ensures.exact c.evidence_in.ensures.exact
