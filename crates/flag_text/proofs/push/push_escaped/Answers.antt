use Rattle.std.proofs.Common.{◌≡◌, ◌++◌, [], ◌∷◌, append-nil, ap, ◌∙◌}
use Rattle.std.proofs.lemmas.Result.{on_ok_weaker, on_err_weaker}
use Rattle.json.specs.Print.{print, print_from}
use Rattle.json.specs.Token as Token
use Rattle.flag_text.proofs.Pushed.{print-string, Strings}
use Rattle.flag_text.proofs.push.push_escaped.Goals as goal

pub returns-clause-ok : goal.returns-clause-ok
returns-clause-ok c =
    let string = c.string-written in
    let kept = string.ensures.room.0 ∙ (c.new-writer.ensures.before ∙ ap (λ v. v.items) c.replace.ensures.value) in
    on_ok_weaker string.result
    (λ e. let one : string.new.self.tokens ≡ Token.string c.args.content.now ∷ [] = e ∙ ap (λ (ts : Strings). ts ++ Token.string c.args.content.now ∷ []) c.new-writer.ensures.tokens in
    c.into_inner.ensures.items ∙ (λ i. kept i ++ (ap print one ∙ print-string c.args.content.now) i)) string.ensures.ok

pub returns-clause-err : goal.returns-clause-err
unfolding print_from
returns-clause-err c =
    let string = c.string-written in
    let old = c.args.out.now.items in
    let kept = string.ensures.room.0 ∙ (c.new-writer.ensures.before ∙ ap (λ v. v.items) c.replace.ensures.value) in
    on_err_weaker string.result (λ e. c.into_inner.ensures.items ∙ (λ i. kept i ++ print ((e ∙ c.new-writer.ensures.tokens) i)) ∙ append-nil old) string.ensures.err
