-- What a person is told of asks that have a member that is not read.
use Rattle.std.proofs.Common.{◌≡◌, ◌∙◌, ◌++◌, ap, ℕ, ◌+◌, List, [], ◌∷◌, Option, Some, None, codes, refl, sym, subst}
use Rattle.std.specs.Prelude.{IfOk, Result, Ok, Err, String, count_by, is_some, string_bytes}
use Rattle.std.specs.declared.alloc.Global.{Global}
use Rattle.std.proofs.lemmas.List.{append_assoc}
use Rattle.std.proofs.lemmas.List.Recursion.{is_count_by}
use Rattle.file_diagnostics.specs.Lines.{Grows, IsHeaded}
use Rattle.file_diagnostics.specs.Meant.{IsMeant}
use Rattle.file_diagnostics.specs.Named.{quoted}
use Rattle.flag_text.specs.Shape.{Items, no_items}
use Rattle.flag_text.specs.View.{items_view, view}
use Rattle.flag_text.specs.declared.tree.Tree.{Tree}
use Rattle.flagops_drive.specs.Plain.{asks_shape}
use Rattle.flagops_drive.specs.declared.plain_ask.PlainAsk.{PlainAsk}
use Rattle.flagops_commands.specs.DriveSummary.{IsUnreadMember, IsUnreadText, first_unread, unread_count, unread_count_text, unread_member_text}
use Rattle.member_names.specs.Unread.{unread_of}
use Rattle.member_names.specs.declared.reader.Reader.TheVariants as reader

-- how many trees have a member that is not read
pub counted : (asks : List Tree) → count_by (λ t. is_some (unread_of reader.Ask (view t))) asks ≡ unread_count (items_view asks)
counted asks = sym (is_count_by (λ ts. unread_count (items_view ts)) (λ t. is_some (unread_of reader.Ask (view t))) refl (λ t ts. refl) asks)

-- ---- lines that grow

-- twice is once by both
grows_twice : (first more : List ℕ) (before mid after : Option (List ℕ)) → Grows before (Some first) mid → Grows mid (Some more) after → Grows before (Some (first ++ more)) after
grows_twice first more before mid None one two = tt
grows_twice first more before mid (Some text) one (prefix, was, is) =
    let it : Grows before (Some first) (Some prefix) = subst (Grows before (Some first)) was one in
    (it.0, it.1, is ∙ ap (λ (l : List ℕ). l ++ more) it.2 ∙ append_assoc it.0 first more)

-- what lines are that began with nothing
grown_alone : (text : List ℕ) (before : Option (List ℕ)) (lines : List ℕ) → before ≡ Some [] → Grows before (Some text) (Some lines) → lines ≡ text
grown_alone text before lines none (prefix, was, is) =
    let same : prefix ≡ [] = cc in
    is ∙ ap (λ (l : List ℕ). l ++ text) same

-- ---- the first member that is not read

pub member_told : (u : Option (ℕ × List ℕ)) (number : ℕ) (name ending : List ℕ) (before mid after : Option (List ℕ)) → u ≡ Some (number, name) → IsMeant reader.Ask ending → Grows before (Some (unread_member_text (number, name))) mid → Grows mid (Some ending) after
    → (line : List ℕ) × IsUnreadMember u line × Grows before (Some line) after
member_told u number name ending before mid after is meant one two =
    (unread_member_text (number, name) ++ ending, subst (λ (o : Option (ℕ × List ℕ)). IsUnreadMember o (unread_member_text (number, name) ++ ending)) (sym is) (ending, meant, refl), grows_twice (unread_member_text (number, name)) ending before mid after one two)

-- ---- the whole

module _ (path : List ℕ) (asks : Items) where
  text_of : (count : ℕ) (line text lines : List ℕ) → count ≡ unread_count asks → IsUnreadMember (first_unread 1 asks) line → lines ≡ unread_count_text count ++ line → text ≡ (codes "note: " ++ quoted path) ++ lines → IsUnreadText path asks text
  unfolding IsUnreadText
  text_of count line text lines many member grown headed = (line, member, headed ∙ ap (λ (l : List ℕ). (codes "note: " ++ quoted path) ++ l) (grown ∙ ap (λ (n : ℕ). unread_count_text n ++ line) many))

  pub unread_told : {E : Type 0} (count : ℕ) (begin one two : Option (List ℕ)) (r : Result (String Global) E) → count ≡ unread_count asks → begin ≡ Some [] → Grows begin (Some (unread_count_text count)) one
      → ((line : List ℕ) × IsUnreadMember (first_unread 1 asks) line × Grows one (Some line) two) → IfOk r (λ s. IsHeaded (codes "note: " ++ quoted path) two (string_bytes s)) → IfOk r (λ s. IsUnreadText path asks (string_bytes s))
  unread_told count begin one two (Err e) many none first (line, member, more) headed = tt
  unread_told count begin one two (Ok s) many none first (line, member, more) (lines, is, headed) =
      let both : Grows begin (Some (unread_count_text count ++ line)) (Some lines) = subst (Grows begin (Some (unread_count_text count ++ line))) is (grows_twice (unread_count_text count) line begin one two first more) in
      text_of count line (string_bytes s) lines many member (grown_alone (unread_count_text count ++ line) begin lines none both) headed

-- ---- asks that were read token by token

plain_count : (asks : List PlainAsk) → unread_count (asks_shape asks) ≡ 0
plain_count [] = refl
plain_count (a ∷ more) = plain_count more

plain_first : (n : ℕ) (asks : List PlainAsk) → first_unread n (asks_shape asks) ≡ None
plain_first n [] = refl
plain_first n (a ∷ more) = plain_first (n + 1) more

plain_text : (path : List ℕ) (asks : List PlainAsk) (lines : List ℕ) → IsUnreadText path no_items lines → IsUnreadText path (asks_shape asks) lines
unfolding IsUnreadText
plain_text path asks lines (line, none, is) =
    (line, subst (λ (o : Option (ℕ × List ℕ)). IsUnreadMember o line) (sym (plain_first 1 asks)) none, subst (λ (n : ℕ). lines ≡ (codes "note: " ++ quoted path) ++ (unread_count_text n ++ line)) (sym (plain_count asks)) is)

pub plain_told : {E : Type 0} (path : List ℕ) (asks : List PlainAsk) (r : Result (String Global) E) → IfOk r (λ s. IsUnreadText path no_items (string_bytes s)) → IfOk r (λ s. IsUnreadText path (asks_shape asks) (string_bytes s))
plain_told path asks (Ok s) told = plain_text path asks (string_bytes s) told
plain_told path asks (Err e) told = tt
