-- What is made of a document whose numbers are all whole by a rule that is put into it.
use Rattle.std.proofs.Common.{◌≡◌, ℕ, Bool, false, List, Option, Some, None, Result, Ok, Err, refl, ap, subst}
use Rattle.std.specs.Prelude.{option_and_then}
use Rattle.std.specs.Map.{lookup}
use Rattle.std.specs.Str.{bytes_eq}
use Rattle.bucket_core.specs.Rule.{Entries}
use Rattle.flag_defs.specs.Document.{Definitions, max_bytes}
use Rattle.flag_defs.specs.Flag.{targeting_in}
use Rattle.flag_text.specs.Reading.{doc_of}
use Rattle.flag_text.specs.Shape.{Shape}
use Rattle.flag_text.specs.declared.fault.TextFault.{TextFault}
use Rattle.product_laws.specs.Documents.{MeaningsStay, TreesStay}
use Rattle.flagops_files.specs.Question.{Question}
use Rattle.flagops_rollouts.specs.Keep.{IsEdited, IsEditedTo, IsKeepOf, IsKeepReport, IsKeptAt, IsKeptBy, IsKeptWith, Kept, MayBeKept}
use Rattle.flagops_rollouts.specs.Loaded.{plan_at}
use Rattle.flagops_rollouts.specs.declared.refusal.RolloutRefusal.{RolloutRefusal}
use Rattle.flagops_shell.specs.Files.{Holding}
use Rattle.kept_document.specs.Kept.{IsRefused, KeptAt, in_tree, place_in}
use Rattle.kept_document.specs.declared.fault.KeepFault.{KeepFault}
use Rattle.kept_document.specs.declared.fault.KeepFault.TheVariants.{WantOfMemory, Shared, TooLong, Differs}
use Rattle.product_laws.specs.FloatKept.{IsWritable, WholeNumbersStay}
use Rattle.logic_ast.specs.Expression.{Expression}
use Rattle.plan_text.specs.Answer.{Answer, emit, none_exists}
use Rattle.rollout.specs.Applied.{applied}
use Rattle.rollout.specs.declared.fault.RolloutFault.{RolloutFault}
use Rattle.rollout.specs.declared.verify_fault.VerifyFault.{VerifyFault}
use Rattle.kept_document.specs.Place.{SitePlace}
use Rattle.product_laws.specs.Kept.{KeptStay}
use Rattle.product_laws.specs.Rollouts.{Came}
use Rattle.product_laws.specs.Whole.{IsWholeAt}
use Rattle.product_laws.specs.FloatWhole.{IsWholeText}
use Rattle.product_laws.proofs.Read.{rolled_question}
use Rattle.product_laws.proofs.Writable.{IsWritableAnswer, IsWritablePlan, plan_writable}

module _ (meanings : MeaningsStay) (trees : TreesStay) (stay : WholeNumbersStay) (document : List ℕ) (whole : IsWholeText document) where
  -- what a rule makes of the document has whole numbers, too
  text_whole : (r : Result Shape TextFault) → doc_of document max_bytes ≡ r → (key : List ℕ) (o : Option Expression) (n : ℕ) (rule : Entries) (kept : List ℕ) → IsWritable rule → KeptAt document (in_tree r key o n) rule kept → IsWholeText kept
  text_whole (Err e) is key o n rule kept writable k = absurd k
  text_whole (Ok t) is key o n rule kept writable k = stay document t (in_tree (Ok t) key o n) rule kept is writable whole k

  module _ (floats other : Bool) (flags : Definitions) (key : List ℕ) (site : ℕ) (rule : Entries) (writable : IsWritable rule) where
    place_so : place_in floats document flags key site ≡ place_in other document flags key site
    place_so = ap (λ (t : Result Shape TextFault). in_tree t key (option_and_then targeting_in (lookup (bytes_eq key) flags)) site) (trees floats other document whole)

    kept_text : (kept : List ℕ) → KeptAt document (place_in floats document flags key site) rule kept → IsWholeText kept
    kept_text kept k =
        let o = option_and_then targeting_in (lookup (bytes_eq key) flags) in
        text_whole (doc_of document max_bytes) refl key o site rule kept writable
        (subst (λ (t : Result Shape TextFault). KeptAt document (in_tree t key o site) rule kept) (trees floats false document whole) k)

    refused_so : (wanted : Definitions) (fault : KeepFault) → IsRefused floats document (place_in floats document flags key site) rule wanted fault → IsRefused other document (place_in floats document flags key site) rule wanted fault
    refused_so wanted WantOfMemory h = h
    refused_so wanted Shared h = h
    refused_so wanted TooLong h = h
    refused_so wanted Differs h = (h.0, λ kept k. let o = h.1 kept k in (o.0, λ means. o.1 (meanings other floats kept (Ok wanted) (kept_text kept k) means)))

    edited_so : (wanted : Definitions) (r : Result Kept RolloutRefusal) → IsEdited floats document (place_in floats document flags key site) rule wanted r → IsEdited other document (place_in floats document flags key site) rule wanted r
    edited_so wanted (Ok None) h = h
    edited_so wanted (Ok (Some text)) h = (h.0, meanings floats other text (Ok wanted) (kept_text text h.0) h.1)
    edited_so wanted (Err e) h = (h.0, refused_so wanted h.0 h.1, h.2)

    edited_to : (a : Result Definitions RolloutFault) (r : Result Kept RolloutRefusal) → IsEditedTo floats document (place_in floats document flags key site) rule a r → IsEditedTo other document (place_in floats document flags key site) rule a r
    edited_to (Err e) r h = h
    edited_to (Ok wanted) r h = edited_so wanted r h

    pub kept_at : (r : Result Kept RolloutRefusal) → IsKeptAt floats document flags key site rule r → IsKeptAt other document flags key site rule r
    kept_at r h = subst (λ (p : SitePlace). IsEditedTo other document p rule (applied flags key site rule) r) place_so (edited_to (applied flags key site rule) r h)

  module _ (floats other : Bool) (q : Question) where
    kept_with : (answer : Answer) → IsWritableAnswer answer → (r : Result Kept RolloutRefusal) → IsKeptWith floats document q answer r → IsKeptWith other document q answer r
    kept_with (emit rule c) writable r h = (h.0, h.1, kept_at floats other q.flags h.0.flag h.0.site rule writable r h.2)
    kept_with (none_exists kind names) writable r h = h

    kept_by : (answer : Answer) → IsWritableAnswer answer → (verdict : Result (Unit {0}) VerifyFault) (r : Result Kept RolloutRefusal) → IsKeptBy floats document q answer verdict r → IsKeptBy other document q answer verdict r
    kept_by answer writable (Err e) r h = h
    kept_by answer writable (Ok u) r h = kept_with answer writable r h

    pub may_be_kept : (refine : Option ℕ) (answer : Answer) → IsWritableAnswer answer → (r : Result Kept RolloutRefusal) → MayBeKept floats refine document q answer r → MayBeKept other refine document q answer r
    may_be_kept refine answer writable r h = (h.0, h.1, kept_by answer writable h.0 r h.2)

module _ (meanings : MeaningsStay) (trees : TreesStay) (stay : WholeNumbersStay) where
  keep_of : (floats other : Bool) (at : Holding) (after : Option Holding) (path : List ℕ) (write strict : Bool) (refine : Option ℕ) → IsWholeAt at path → (question : Result Question RolloutRefusal) (answer : Result Answer RolloutRefusal)
      → IsWritablePlan answer → (r : Came) → IsKeepOf floats at after path write strict refine question answer r → IsKeepOf other at after path write strict refine question answer r
  keep_of floats other at after path write strict refine whole (Err e) answer writable r h = h
  keep_of floats other at after path write strict refine whole (Ok q) (Err e) writable r h = h
  keep_of floats other at after path write strict refine whole (Ok q) (Ok answer) writable r h =
      (h.0, h.1, (h.2.0, may_be_kept meanings trees stay h.0 (whole h.0 h.1) floats other q refine answer writable h.2.0 h.2.1, h.2.2))

  pub kept_stay : KeptStay
  unfolding IsKeepReport
  kept_stay floats other at after document plan request book write refine strict r whole h =
      (h.0, rolled_question meanings floats other at document request book h.0 whole h.1, keep_of floats other at after document write strict refine whole h.0 (plan_at at plan) (plan_writable at plan) r h.2)
