-- What stands before the text of a refusal.
use denote.Ref.{Bor}
use Rattle.std.proofs.Common.{◌≡◌, ℕ, List, ◌++◌, length, length-append, take, arith, Option, Some, None, IfSome, ap, append_assoc, sym, ◌∙◌}
use Rattle.std.specs.Prelude.{codes}
use Rattle.std.specs.Option.{MatchOption}
use Rattle.std.proofs.Math.Seq.{take-append_seam}
use Rattle.httparse.specs.Ascii.{crlf_bytes}
use Rattle.http_server.specs.Refusal.{refusal_status, refusal_text}
use Rattle.http_server.specs.declared.state.Refusal.{Refusal}
use Rattle.ofrep_connections.specs.Waiting.{IsFront}

-- the two ends of the text round its status
abbrev pub start : List ℕ
start = codes "HTTP/1.1 "

abbrev pub ending : List ℕ
ending = codes "\r\nconnection: close\r\ncontent-length: 0\r\n\r\n"

joined3 : (x a b c : List ℕ) → x ++ a ++ b ++ c ≡ x ++ (a ++ b ++ c)
joined3 x a b c = ap (λ (l : List ℕ). l ++ c) (append_assoc x a b) ∙ append_assoc x (a ++ b) c

joined6 : (x a b c d e f : List ℕ) → x ++ a ++ b ++ c ++ d ++ e ++ f ≡ x ++ (a ++ b ++ c ++ d ++ e ++ f)
joined6 x a b c d e f =
    ap (λ (l : List ℕ). l ++ e ++ f) (ap (λ (l : List ℕ). l ++ d) (joined3 x a b c) ∙ append_assoc x (a ++ b ++ c) d)
    ∙ joined3 x (a ++ b ++ c ++ d) e f

text_parts : (why : Refusal) → refusal_text why ≡ start ++ (refusal_status why ++ ending)
text_parts why =
    joined6 (start ++ refusal_status why) crlf_bytes (codes "connection: close") crlf_bytes (codes "content-length: 0") crlf_bytes crlf_bytes ∙ append_assoc start (refusal_status why) ending

-- the parts of the text were stripped one after another
pub stripped : (all a b front status : List ℕ) (why : Refusal) → all ≡ a ++ ending → a ≡ b ++ status → b ≡ front ++ start → status ≡ refusal_status why → all ≡ front ++ refusal_text why
stripped all a b front status why e f g s =
    e ∙ ap (λ (l : List ℕ). l ++ ending) (f ∙ ap (λ (l : List ℕ). l ++ status) g ∙ append_assoc front start status)
    ∙ append_assoc front (start ++ status) ending
    ∙ ap (λ (l : List ℕ). front ++ l) (append_assoc start status ending ∙ ap (λ (l : List ℕ). start ++ (l ++ ending)) s ∙ sym (text_parts why))

pub text_before : (N : Type 0) (r : Option (Bor (List ℕ))) (all a b status : List ℕ) (why : Refusal) → all ≡ a ++ ending → a ≡ b ++ status → status ≡ refusal_status why
    → MatchOption r N (λ front. b ≡ front.now ++ start) → IfSome r (λ front. all ≡ front.now ++ refusal_text why)
text_before N None all a b status why e f s m = tt
text_before N (Some front) all a b status why e f s m = stripped all a b front.now status why e f m s

is_front : (front more all : List ℕ) → all ≡ front ++ more → IsFront front all
is_front front more all e = (omega (arith, ap length e, length-append front more), sym (ap (take (length front)) e ∙ take-append_seam front more))

pub front_before : (r : Option (Bor (List ℕ))) (all more : List ℕ) → IfSome r (λ front. all ≡ front.now ++ more) → IfSome r (λ front. IsFront front.now all)
front_before None all more m = tt
front_before (Some front) all more m = is_front front.now more all m
