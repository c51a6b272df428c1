-- What metadata without members changes in answers.
use Rattle.std.proofs.Common.{◌≡◌, ℕ, List, [], Option, sym, ap, ◌∙◌}
use Rattle.std.proofs.lemmas.List.Elements.{All-nil}
use Rattle.flag_metadata.specs.Law.{BareDocumentsHaveNoMetadata, IsBare}
use Rattle.flag_metadata.specs.Merged.{flag_metadata, merged_metadata}
use Rattle.ofrep_answers.specs.Answer.{answer_with}
use Rattle.ofrep_answers.specs.Law.{MetadataChangesNothing}
use Rattle.ofrep_answers.specs.Metadata.{AnswerMetadata}

told_alike : (f g : List ℕ → List ℕ) (a b : Option (List ℕ)) → ((key : List ℕ) → f key ≡ g key) → a ≡ b
    → (let one : AnswerMetadata = record { of_flag = f; of_all = a } in let other : AnswerMetadata = record { of_flag = g; of_all = b } in one ≡ other)
told_alike f g a b each all = λ i. record { of_flag = λ key. each key i; of_all = all i }

pub metadata_changes_nothing : BareDocumentsHaveNoMetadata → MetadataChangesNothing
metadata_changes_nothing law ds bare flags moment r =
    let here = law ds bare in
    let nowhere = law [] (All-nil IsBare) in
    ap (λ (metadata : AnswerMetadata). answer_with metadata flags moment r)
    (told_alike (flag_metadata ds) (flag_metadata []) (merged_metadata ds) (merged_metadata []) (λ key. here.0 key ∙ sym (nowhere.0 key)) (here.1 ∙ sym nowhere.1))
