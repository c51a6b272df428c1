use Rattle.std.proofs.Common.{◌≡◌, ◌<◌, ◌^◌, ◌++◌, ◌∷◌, [], ℕ, List, Vec, option_map, string_bytes, ap, subst, rules}
use Rattle.std.specs.declared.alloc.Global.{Global}
use Rattle.flag_text.specs.Printing.{text_of}
use Rattle.book_core.specs.Printing.{Reads}
use Rattle.note_tallies.specs.Tally.{PageTally, IsPageTally}
use Rattle.note_tallies.specs.File.{head_of, head_shape, points_text, tally_text}
use Rattle.note_tallies.proofs.FileHeads.{first_is, last_is, some_items}
use Rattle.note_tallies.proofs.Told.{told, is_file, printed, header_bytes}
use Rattle.note_tallies.proofs.print.print_tally.Goals as goal

pub head_text-requires-clause-first : goal.head_text-requires-clause-first
head_text-requires-clause-first c =
    let a = c.tally.inside in
    let items : Vec ℕ Global → List ℕ = λ v. v.items in
    some_items items a.first (first_is a.page a.inputs (option_map items a.first) (option_map items a.last) c.tally.invariant.ends)

pub head_text-requires-clause-last : goal.head_text-requires-clause-last
head_text-requires-clause-last c =
    let a = c.tally.inside in
    let items : Vec ℕ Global → List ℕ = λ v. v.items in
    some_items items a.last (last_is a.page a.inputs (option_map items a.first) (option_map items a.last) c.tally.invariant.ends)

pub returns-clause-text : goal.returns-clause-text
returns-clause-text c =
    let t : PageTally = c.args.tally.now in
    let all : string_bytes c.push_points.new.text ≡ ((string_bytes c.in_ok-text.text ++ string_bytes c.in_ok-head.head) ++ 10 ∷ []) ++ points_text 0 c.as_slice.result.now = search rules in
    let header : string_bytes c.in_ok-text.text ≡ 123 ∷ 34 ∷ 116 ∷ 97 ∷ 108 ∷ 108 ∷ 121 ∷ 34 ∷ 58 ∷ 49 ∷ 125 ∷ 10 ∷ [] = c.in_ok-text.ensures.ok in
    let head : string_bytes c.in_ok-head.head ≡ text_of (head_shape (head_of t)) = subst (λ (u : PageTally). string_bytes c.in_ok-head.head ≡ text_of (head_shape (head_of u))) c.tally.view_is c.in_ok-head.ensures.text in
    let counts : c.as_slice.result.now ≡ t.counts = subst (λ (u : PageTally). c.as_slice.result.now ≡ u.counts) c.tally.view_is c.as_slice.ensures.value in
    printed t (string_bytes c.in_ok-text.text) (string_bytes c.push_points.new.text) (string_bytes c.in_ok-head.head) (points_text 0 c.as_slice.result.now) (header_bytes (string_bytes c.in_ok-text.text) header) head (ap (points_text 0) counts) all

pub returns-clause-reads_back : goal.returns-clause-reads_back
returns-clause-reads_back c =
    let t : PageTally = c.args.tally.now in
    let bytes = string_bytes c.push_points.new.text in
    let all : bytes ≡ ((string_bytes c.in_ok-text.text ++ string_bytes c.in_ok-head.head) ++ 10 ∷ []) ++ points_text 0 c.as_slice.result.now = search rules in
    let header : string_bytes c.in_ok-text.text ≡ 123 ∷ 34 ∷ 116 ∷ 97 ∷ 108 ∷ 108 ∷ 121 ∷ 34 ∷ 58 ∷ 49 ∷ 125 ∷ 10 ∷ [] = c.in_ok-text.ensures.ok in
    let head : string_bytes c.in_ok-head.head ≡ text_of (head_shape (head_of t)) = subst (λ (u : PageTally). string_bytes c.in_ok-head.head ≡ text_of (head_shape (head_of u))) c.tally.view_is c.in_ok-head.ensures.text in
    let counts : c.as_slice.result.now ≡ t.counts = subst (λ (u : PageTally). c.as_slice.result.now ≡ u.counts) c.tally.view_is c.as_slice.ensures.value in
    let text : bytes ≡ tally_text t = printed t (string_bytes c.in_ok-text.text) bytes (string_bytes c.in_ok-head.head) (points_text 0 c.as_slice.result.now) (header_bytes (string_bytes c.in_ok-text.text) header) head (ap (points_text 0) counts) all in
    let lawful : IsPageTally t = subst (λ (u : PageTally). IsPageTally u) c.tally.view_is c.tally.invariant in
    let small : t.page.site < 2 ^ 32 = subst (λ (u : PageTally). u.page.site < 2 ^ 32) c.tally.view_is c.in_ok-head.ensures.site in
    let read : Reads (head_shape (head_of t)) = subst (λ (u : PageTally). Reads (head_shape (head_of u))) c.tally.view_is c.in_ok-head.ensures.reads in
    told bytes t (is_file t bytes lawful small read text)
