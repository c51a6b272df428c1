use Rattle.std.proofs.Common.{ap, sym, ◌∙◌, subst, arith}
use Rattle.flag_text.specs.Outcome.{GivesUnless}
use Rattle.flag_text.specs.Reading.{if_json, json_of}
use Rattle.flag_text.specs.View.{view}
use Rattle.flag_text.specs.declared.fault.TextFault.TheVariants.{WantOfMemory}
use Rattle.spelled_numbers.proofs.Stays.{doc_within}
use Rattle.spelled_numbers.proofs.Whole.{respelled_as_it_is}
use Rattle.spelled_numbers.proofs.sent_reading.respelled_tree.Goals as goal

pub returns-then-are_spelled_whole-clause-exact : goal.returns-then-are_spelled_whole-clause-exact
returns-then-are_spelled_whole-clause-exact c =
    subst (λ x. GivesUnless WantOfMemory view c.read_doc_with.result x)
    (doc_within c.args.text.now _ (omega arith) ∙ ap (λ b. if_json (json_of b)) (sym (respelled_as_it_is c.args.text.now (sym c.are_spelled_whole.ensures ∙ c.if-are_spelled_whole.true))))
    c.read_doc_with.ensures.exact

pub returns-clause-exact : goal.returns-clause-exact
returns-clause-exact c =
    subst (λ x. GivesUnless WantOfMemory view c.read_doc_with-2.result x)
    (doc_within c.as_slice.result.now _ (omega arith) ∙ ap (λ b. if_json (json_of b)) (c.as_slice.ensures.value ∙ c.in_ok-respelled.ensures))
    c.read_doc_with-2.ensures.exact
