use Rattle.std.proofs.Common.{subst, sym}
use Rattle.file_diagnostics.specs.Named.{Names}
use Rattle.flagops_streams.proofs.Told.{forewarned_by}
use Rattle.flagops_streams.proofs.remark.say_forewarning.Goals as goal

pub returns-in-Ok-clause-line : goal.returns-in-Ok-clause-line
returns-in-Ok-clause-line g c = λ other.
    let names = subst (Names c.args.path.now) (sym c.as_str.ensures.value) (c.in-Ok.ensures.names other) in
    forewarned_by c.args.path.now c.as_str.result.now c.args.place _ _ _ names c.say_forewarned.ensures.line
