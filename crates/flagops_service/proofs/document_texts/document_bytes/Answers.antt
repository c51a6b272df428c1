use Rattle.std.proofs.Common.{◌≡◌, ◌≢◌, ◌∙◌, ℕ, List, [], ◌∷◌, Result, Ok, Vec, Global, ap, arith, length, subst, sym}
use Rattle.std.specs.Prelude.{IfOk}
use Rattle.std.specs.declared.alloc.AllocError.{AllocError}
use Rattle.std.proofs.lemmas.List.{length-map}
use Rattle.std.proofs.lemmas.Result.{IfOk-weaker}
use Rattle.flag_defs.specs.Flags.{flags_view}
use Rattle.flag_defs.specs.Floats.{MeansFlags, MeansWithFloats, floats_view}
use Rattle.flag_defs.specs.Spelled.{printed_with_floats}
use Rattle.flag_defs.specs.declared.flags.Flags.{Flags}
use Rattle.flagops_streams.specs.Documents.{texts_of}
use Rattle.flagops_service.specs.Shown.{document_text}
use Rattle.flagops_service.proofs.Alone.{only_item}
use Rattle.flagops_service.proofs.Shown.{text_of_others}
use Rattle.flagops_service.proofs.document_texts.document_bytes.Goals as goal

-- a document that is alone stays as it is
pub returns-in-len1-clause-bytes : goal.returns-in-len1-clause-bytes
returns-in-len1-clause-bytes c =
    let texts = c.args.texts.now in
    let text = c.text-item.result in
    let flags = c.args.flags.now in
    let alone : texts ≡ text ∷ [] = only_item texts text (omega arith) c.text-item.is in
    subst (λ (ts : List (Vec ℕ Global)). IfOk c.to_vec.result (λ v. v.items ≡ document_text (texts_of ts) flags)) (sym alone)
    (IfOk-weaker c.to_vec.result _ (λ (v : Vec ℕ Global). v.items ≡ text.items) (λ v equal. equal (λ x y same. same) ∙ c.as_slice.ensures.value) c.to_vec.ensures.items_if_clones_equal)

pub returns-in-len1-clause-means : goal.returns-in-len1-clause-means
returns-in-len1-clause-means c =
    let texts = c.args.texts.now in
    let text = c.text-item.result in
    let alone : texts ≡ text ∷ [] = only_item texts text (omega arith) c.text-item.is in
    let means = c.requires text.items (ap texts_of alone) in
    IfOk-weaker c.to_vec.result _ (λ (v : Vec ℕ Global). MeansWithFloats v.items (Ok (flags_view c.args.flags.now)))
    (λ v equal. subst (λ (bytes : List ℕ). MeansWithFloats bytes (Ok (flags_view c.args.flags.now))) (sym (equal (λ x y same. same) ∙ c.as_slice.ensures.value)) means) c.to_vec.ensures.items_if_clones_equal

-- the flags of others are printed
printed : (texts : List (Vec ℕ Global)) (flags : Flags) (r : Result (Vec ℕ Global) AllocError) → length texts ≢ 1 → IfOk r (λ v. v.items ≡ printed_with_floats (flags_view flags) (floats_view flags))
    → IfOk r (λ v. v.items ≡ document_text (texts_of texts) flags)
printed texts flags r other is =
    let others = text_of_others (texts_of texts) flags (λ one. other (sym (length-map texts (λ (v : Vec ℕ Global). v.items)) ∙ one)) in
    IfOk-weaker r _ (λ (v : Vec ℕ Global). v.items ≡ document_text (texts_of texts) flags) (λ v same. same ∙ sym others) is

printed_means : (flags : Flags) (r : Result (Vec ℕ Global) AllocError) → IfOk r (λ v. MeansFlags v.items (flags_view flags) (floats_view flags)) → IfOk r (λ v. MeansWithFloats v.items (Ok (flags_view flags)))
printed_means flags r reads =
    IfOk-weaker r _ (λ (v : Vec ℕ Global). MeansWithFloats v.items (Ok (flags_view flags))) (λ v (back : MeansFlags v.items (flags_view flags) (floats_view flags)). back.0) reads

pub returns-in-empty-clause-bytes : goal.returns-in-empty-clause-bytes
returns-in-empty-clause-bytes c =
    let texts = c.args.texts.now in
    printed texts c.args.flags.now c.print_flags_with_floats.result (λ one. omega (arith, one, c.in-empty.len_below)) c.print_flags_with_floats.ensures.text

pub returns-in-empty-clause-means : goal.returns-in-empty-clause-means
returns-in-empty-clause-means c = printed_means c.args.flags.now c.print_flags_with_floats.result c.print_flags_with_floats.ensures.reads_back

pub returns-in-len2-up-clause-bytes : goal.returns-in-len2-up-clause-bytes
returns-in-len2-up-clause-bytes c =
    let texts = c.args.texts.now in
    printed texts c.args.flags.now c.print_flags_with_floats-in-len2-up.result (λ one. omega (arith, one, c.in-len2-up.len_at_least)) c.print_flags_with_floats-in-len2-up.ensures.text

pub returns-in-len2-up-clause-means : goal.returns-in-len2-up-clause-means
returns-in-len2-up-clause-means c = printed_means c.args.flags.now c.print_flags_with_floats-in-len2-up.result c.print_flags_with_floats-in-len2-up.ensures.reads_back
