use Rattle.std.proofs.Common.{◌≡◌, ℕ, false, IfSome, Ok, Err, rules, subst}
use Rattle.flagops_shell.specs.Files.{load_of}
use Rattle.flagops_shell.specs.Outcomes.{refused_by}
use Rattle.flagops_files.specs.Loading.{max_text}
use Rattle.flagops_files.specs.Refusal as files
use Rattle.flagops_files.specs.declared.refusal.Refusal.TheVariants as file
use Rattle.flagops_commands.proofs.Loaded.{bytes_there, no_bytes}
use Rattle.flagops_commands.proofs.loading.load_bytes.Goals as goal

pub returns-in-Ok-clause-exact : goal.returns-in-Ok-clause-exact
returns-in-Ok-clause-exact g c =
    let old = g.F.FileSet.holding c.args.files.now in
    let path = c.args.path.now in
    let limit : c.from.result ≡ max_text = search rules in
    let loaded = subst (λ (n : ℕ). IfSome old (λ at. refused_by file.Load (load_of at path n) ≡ Ok c.in-Ok.bytes.items)) limit c.in-Ok.ensures.exact in
    bytes_there old path c.in-Ok.bytes.items loaded

pub returns-in-Err-clause-exact : goal.returns-in-Err-clause-exact
returns-in-Err-clause-exact g c =
    let old = g.F.FileSet.holding c.args.files.now in
    let path = c.args.path.now in
    let limit : c.from.result ≡ max_text = search rules in
    let e = c.in-Err.refused in
    let refused = subst (λ (n : ℕ). IfSome old (λ at. files.is_want e.refusal ≡ false → refused_by file.Load (load_of at path n) ≡ Err e.refusal)) limit c.in-Err.ensures.exact in
    no_bytes old path e c.of.result c.of.ensures.refusal refused
