-- Documents that are published one after the other.
use Rattle.std.proofs.Common.{◌≡◌, ◌≢◌, ◌↔◌, ◌⊎◌, ◌+◌, ◌-◌, ◌<◌, ◌∙◌, ℕ, suc, List, [], ◌∷◌, ◌++◌, Bool, true, false, if◌then◌else◌, is_ok, nat_eq, Option, Result, Ok, Err, inl, inr, refl, add-one, ap, arith, drop, get_or, length, length-append, length-drop, map, subst, sym, take, zero-add}
use Rattle.std.proofs.Math.Seq.{drop-cons}
use Rattle.std.proofs.lemmas.List.{take_all}
use Rattle.std.proofs.lemmas.Bool.{true≢false}
use Rattle.flag_defs.specs.declared.flags.Flags.{Flags}
use Rattle.flag_defs.specs.Document.{Definitions}
use Rattle.snap_share.specs.Fault.{is_of_publish, is_of_share}
use Rattle.snap_share.specs.declared.fault.ShareFault.{ShareFault}
use Rattle.snap_share.specs.declared.fault.ShareFault.TheVariants as share
use Rattle.source_merge.specs.Sources.{SourceList}
use Rattle.flagops_streams.specs.Documents.{Answer, Gives, GivesSome, IsAccepted, MayFail, MayRefuse, Merges, ServesTo, count_of, less_missed, missed_of, published_in, told_view}
use Rattle.flagops_streams.specs.Report.{Publishes, Reports, Serves}
use Rattle.flagops_streams.specs.declared.disconnected.Disconnected.{Disconnected}
use Rattle.flagops_streams.specs.declared.refusal.Refusal.{Refusal}
use Rattle.flagops_streams.specs.declared.refusal.Refusal.TheVariants.{NoThread, Publish, Share, Unserved, WantOfMemory}

module _ {X : Type 0} (bytes : X → List ℕ) (xs : List X) (i : ℕ) (x : X) (inside : i < length xs) (is : x ≡ get_or xs i x) (floats : Bool) (sources : SourceList) (published : List Definitions) where
  from_here : drop i xs ≡ x ∷ drop (i + 1) xs
  from_here = rw add-one (drop-cons xs i x inside ∙ ap (λ y. y ∷ drop (suc i) xs) (sym is))

  -- the document at a place is published, and those behind it give the answer
  pub one_more : (number : ℕ) (next : SourceList) (flags : Definitions) (answer : Answer)
      → number ≡ length published + 1 → Merges floats number sources (bytes x) next flags → Gives floats next (map bytes (drop (i + 1) xs)) (published ++ flags ∷ []) answer
      → Gives floats sources (map bytes (drop i xs)) published answer
  one_more number next flags answer same merges rest =
      subst (λ (ys : List X). Gives floats sources (map bytes ys) published answer) (sym from_here)
      (inr (next, flags, subst (λ (n : ℕ). Merges floats n sources (bytes x) next flags) same merges, rest))

  -- it is refused
  pub refused_here : (number : ℕ) (refusal : Refusal) → number ≡ length published + 1 → MayRefuse floats number sources (bytes x) refusal → Gives floats sources (map bytes (drop i xs)) published (Err refusal)
  refused_here number refusal same may =
      subst (λ (ys : List X). Gives floats sources (map bytes ys) published (Err refusal)) (sym from_here)
      (inl (refusal, refl, subst (λ (n : ℕ). MayRefuse floats n sources (bytes x) refusal) same may))

-- a list that is not empty is its first item and the rest, as a slice pattern cuts it
pub first_of : {X : Type 0} (xs : List X) (x : X) → 0 < length xs → x ≡ get_or xs 0 x → xs ≡ x ∷ take (length xs - 1) (drop 1 xs)
first_of xs x inside is = drop-cons xs 0 x inside ∙ ap (λ y. y ∷ drop 1 xs) (sym is) ∙ ap (λ ys. x ∷ ys) (sym (take_all (length xs - 1) (drop 1 xs) (omega (arith, length-drop 1 xs))))

-- the merge of a document was not published, where a number is left
pub not_published : (floats : Bool) (number : ℕ) (sources : SourceList) (text : List ℕ) (fault : ShareFault) → is_of_publish fault ≡ true → fault ≢ share.LastNumber → IsAccepted floats number sources text → MayRefuse floats number sources text (Publish fault)
not_published floats number sources text share.WantOfMemory is other accepted = accepted
not_published floats number sources text share.Closed is other accepted = accepted
not_published floats number sources text share.LastNumber is other accepted = absurd (other refl)
not_published floats number sources text share.NoSeats is other accepted = absurd (cc (is))
not_published floats number sources text share.TooManySeats is other accepted = absurd (cc (is))
not_published floats number sources text share.NoReader is other accepted = absurd (cc (is))

-- the first document is published, and serving those behind it gives the answer
pub first_served : (floats : Bool) (subscribers : ℕ) (sources next : SourceList) (flags : Definitions) (text : List ℕ) (texts : List (List ℕ)) (answer : Answer)
    → Merges floats 1 sources text next flags → ServesTo floats subscribers next texts (flags ∷ []) answer → ServesTo floats subscribers sources (text ∷ texts) [] answer
first_served floats subscribers sources next flags text texts answer merges (inl fails) = inl fails
first_served floats subscribers sources next flags text texts answer merges (inr (ends, absent, whole, all, gives, is)) = inr (ends, absent, whole, all, inr (next, flags, merges, gives), is)

-- why flags were not shared among so many seats
pub not_shared : {X : Type 0} (seats : ℕ) (fault : ShareFault) (result : Result X ShareFault) → result ≡ Err fault
    → ((result ≡ Err share.NoSeats) ↔ (seats ≡ 0)) → ((result ≡ Err share.TooManySeats) ↔ (64 < seats)) → is_of_share fault ≡ true → MayFail seats (Share fault)
not_shared seats share.WantOfMemory result is none many of = tt
not_shared seats share.NoSeats result is none many of = none.0 is
not_shared seats share.TooManySeats result is none many of = many.0 is
not_shared seats share.NoReader result is none many of = tt
not_shared seats share.LastNumber result is none many of = absurd (cc (of))
not_shared seats share.Closed result is none many of = absurd (cc (of))

-- the same, where more subscribers have not come; some have, if any were waited for
pub more_fail : (came absent : ℕ) (fault : ShareFault) → (came ≡ 0 → absent ≡ 0) → MayFail came (Share fault) → MayFail (came + absent) (Share fault)
more_fail came absent share.WantOfMemory some may = tt
more_fail came absent share.NoSeats some may = omega (arith, may, some may)
more_fail came absent share.TooManySeats some may = omega (arith, may)
more_fail came absent share.NoReader some may = tt
more_fail came absent share.LastNumber some may = absurd may
more_fail came absent share.Closed some may = absurd may

-- what is served beside threads
pub beside_served : (floats : Bool) (subscribers : ℕ) (sources : SourceList) (texts : List (List ℕ)) (published : List Definitions) (result : Result (List Flags) Refusal)
    → (result ≡ Err NoThread) ⊎ GivesSome subscribers (Gives floats sources texts published) (told_view result) → ServesTo floats subscribers sources texts published (told_view result)
beside_served floats subscribers sources texts published result (inl is) = inl (NoThread, ap told_view is, tt)
beside_served floats subscribers sources texts published result (inr gives) = inr gives

no_thread : (missed : ℕ) (result : Result (List Flags) Refusal) → told_view result ≡ less_missed missed (Err NoThread) → result ≡ Err NoThread
no_thread missed (Ok told) is = absurd (cc (is))
no_thread missed (Err refusal) is = cc (is)

-- the same, where some of the subscribers were missed
pub unless_beside : (subscribers absent unserved : ℕ) (ends : List (Option Disconnected)) (IsAnswer : Answer → Type 0) (outcome result : Result (List Flags) Refusal) → length ends + absent ≡ subscribers
    → unserved ≡ missed_of (published_in (told_view outcome)) ends → (outcome ≡ Err NoThread) ⊎ IsAnswer (told_view outcome) → told_view result ≡ less_missed (unserved + absent) (told_view outcome)
    → (result ≡ Err NoThread) ⊎ GivesSome subscribers IsAnswer (told_view result)
unless_beside subscribers absent unserved ends IsAnswer outcome result all counts (inl is) less = inl (no_thread (unserved + absent) result (less ∙ ap (λ o. less_missed (unserved + absent) (told_view o)) is))
unless_beside subscribers absent unserved ends IsAnswer outcome result all counts (inr gives) less =
    inr (ends, absent, told_view outcome, all, gives, less ∙ ap (λ (n : ℕ). less_missed (n + absent) (told_view outcome)) counts)

-- what is published behind some flags are as many as there are documents
pub counted : (floats : Bool) (sources : SourceList) (texts : List (List ℕ)) (published all : List Definitions) → Gives floats sources texts published (Ok all) → length all ≡ length published + length texts
counted floats sources [] published all is =
    let same : all ≡ published = cc (is) in
    omega (arith, ap length same)
counted floats sources (text ∷ texts) published all (inl (refusal, is, may)) = absurd (cc (is))
counted floats sources (text ∷ texts) published all (inr (next, flags, merges, rest)) =
    omega (arith, counted floats next texts (published ++ flags ∷ []) all rest, length-append published (flags ∷ []))

-- what is answered as published was published, and every subscriber served
pub all_sent : (missed : ℕ) (whole : Answer) (all : List Definitions) → Ok all ≡ less_missed missed whole → whole ≡ Ok all
all_sent missed (Ok published) all is = by (nat_eq missed 0) is
  where
    by : (b : Bool) → (let r : Answer = Ok all in r) ≡ (if b then Ok published else Err (Unserved missed)) → (let r : Answer = Ok published in r) ≡ Ok all
    by true e = sym e
    by false e = absurd (cc (e))
all_sent missed (Err refusal) all is = absurd (cc (is))

-- where there is an answer, none was missed
pub none_missed_at : (missed : ℕ) (whole answer : Answer) → answer ≡ less_missed missed whole → is_ok answer ≡ true → nat_eq missed 0 ≡ true
none_missed_at missed (Ok published) answer is ok = by (nat_eq missed 0) (sym ok ∙ ap is_ok is)
  where
    by : (b : Bool) → true ≡ is_ok (let r : Answer = if b then Ok published else Err (Unserved missed) in r) → b ≡ true
    by true e = refl
    by false e = absurd (true≢false e)
none_missed_at missed (Err refusal) answer is ok = absurd (true≢false (sym ok ∙ ap is_ok is))

-- what was told is an answer where it is one as it is seen
pub told_ok : (told : Result (List Flags) Refusal) → is_ok (told_view told) ≡ is_ok told
told_ok (Ok told) = refl
told_ok (Err refusal) = refl

-- a refusal counts, whoever has not come
pub refused_alone : (subscribers : ℕ) (IsAnswer : Answer → Type 0) (refusal : Refusal) → IsAnswer (Err refusal) → GivesSome subscribers IsAnswer (Err refusal)
refused_alone subscribers IsAnswer refusal gives = ([], subscribers, Err refusal, zero-add subscribers, gives, refl)

-- where documents were served, there are as many of what was published
pub count_served : (floats : Bool) (subscribers : ℕ) (sources : SourceList) (texts : List (List ℕ)) (all : List Definitions) → ServesTo floats subscribers sources texts [] (Ok all) → length all ≡ length texts
count_served floats subscribers sources texts all (inl (refusal, is, may)) = absurd (cc (is))
count_served floats subscribers sources texts all (inr (ends, absent, whole, some, gives, is)) =
    omega (arith, counted floats sources texts [] all (subst (Gives floats sources texts []) (all_sent (missed_of (published_in whole) ends + absent) whole all is) gives))

-- what is reported of an answer is one line: the number of the documents, or a refusal
pub reported : (paths : List (List ℕ)) (Tells : Bool → Option (List ℕ) → Option (List ℕ) → Bool → Type 0) (floats : Bool) (subscribers : ℕ) (sources : SourceList) (texts : List (List ℕ)) (answer : Answer) (old new : Option (List ℕ)) (broken : Bool) (err err_after : Option (List ℕ)) (is_mute : Bool) (status count : ℕ)
    → length texts ≡ count → ServesTo floats subscribers sources texts [] answer → Reports paths Tells (count_of answer) old new broken err err_after is_mute status → Serves paths Tells count old new broken err err_after is_mute status
reported paths Tells floats subscribers sources texts (Ok all) old new broken err err_after is_mute status count is served (inl line) =
    inl (subst (λ (m : ℕ). Publishes (Tells true) m old new broken err err_after is_mute status) (count_served floats subscribers sources texts all served ∙ is) line)
reported paths Tells floats subscribers sources texts (Ok all) old new broken err err_after is_mute status count is served (inr want) = inr (WantOfMemory, want)
reported paths Tells floats subscribers sources texts (Err refusal) old new broken err err_after is_mute status count is served line = inr (refusal, line)
