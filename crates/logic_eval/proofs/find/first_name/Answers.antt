use Rattle.std.proofs.Common.{ℕ, List, Option, Some, None, Bor, lit<}
use Rattle.std.proofs.lemmas.Str.Pattern.{split_once_first, split_parts}
use Rattle.logic_eval.proofs.Paths.{split_whole, split_first, rest_shorter}
use Rattle.logic_eval.proofs.find.first_name.Goals as goal

pub returns-in-None-clause-names : goal.returns-in-None-clause-names
returns-in-None-clause-names c =
    split_whole c.args.path.now (split_parts 46 c.args.path.now (let r : Option (Bor (List ℕ) × Bor (List ℕ)) = None in r) c.in-None.ensures.cases (lit< tt))

pub returns-in-Some : goal.returns-in-Some
returns-in-Some c =
    let s = c.args.path.now in
    let r : Option (Bor (List ℕ) × Bor (List ℕ)) = Some (c.in-Some.name, c.in-Some.rest) in record {
      names = split_first s c.in-Some.name.now c.in-Some.rest.now (split_once_first 46 s r c.in-Some.ensures.cases (lit< tt));
      shorter = rest_shorter s c.in-Some.name.now c.in-Some.rest.now (split_once_first 46 s r c.in-Some.ensures.cases (lit< tt));
    }
