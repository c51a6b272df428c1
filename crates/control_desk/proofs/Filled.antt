-- Responses that are filled.
use Rattle.std.proofs.Common.{◌≡◌, ◌∙◌, ℕ, List, [], ◌++◌, Result, ap}
use Rattle.std.specs.Prelude.{OnOk}
use Rattle.std.proofs.lemmas.Result.{on_ok_weaker}
use Rattle.http1.specs.Fields.{Header}
use Rattle.http_server.specs.Response.{IsResponse}
use Rattle.http_server.specs.declared.response.Response.{Response}

-- one that was blank has what was added
pub filled : {E : Type 0} (r : Result (Unit {0}) E) (code : ℕ) (before more : List Header) (body content : List ℕ) (response : Response) → before ≡ [] → body ≡ content
    → OnOk r (IsResponse code (before ++ more) body response) → OnOk r (IsResponse code more content response)
filled r code before more body content response none same =
    on_ok_weaker r (λ (is : IsResponse code (before ++ more) body response). record {
      status = is.status;
      headers = is.headers ∙ ap (λ (fs : List Header). fs ++ more) none;
      body = is.body ∙ same;
    })
