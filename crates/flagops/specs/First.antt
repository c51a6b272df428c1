-- The family of a command, by the first of its words and for some by an option among the others.
use Rattle.std.specs.Prelude.{Bool, true, false, List, [], ◌∷◌, ◌&&◌, ◌||◌, not, codes, nat_eq, if◌then◌else◌, Option, Some, None}
use Rattle.std.specs.List.{insert, starts_with}
use Rattle.std.specs.Str.{bytes_eq}
use Rattle.clap.specs.Walk.{Text}
use Rattle.flagops.specs.declared.family.Family.{Family}
use Rattle.flagops.specs.declared.family.Family.TheVariants.{Files, Serve, Follow, Ramp, VerifyRamp, Picture, PictureRamp, PlanPicture, ApplyStep, KeepStep, Ofrep, Record, Tally, Join, Book, Check, Compare}

-- the family that a word names: a command over files alone where it names none of the others
abbrev pub family_named : Text → Family
family_named word =
    if bytes_eq word (codes "serve") then Serve else
    (if bytes_eq word (codes "follow") then Follow else
    (if bytes_eq word (codes "ramp") then Ramp else
    (if bytes_eq word (codes "verify-ramp") then VerifyRamp else
    (if bytes_eq word (codes "picture") then Picture else
    (if bytes_eq word (codes "ofrep") then Ofrep else
    (if bytes_eq word (codes "record") then Record else
    (if bytes_eq word (codes "tally") then Tally else
    (if bytes_eq word (codes "join") then Join else
    (if bytes_eq word (codes "book") then Book else
    (if bytes_eq word (codes "check") then Check else
    (if bytes_eq word (codes "compare") then Compare else Files)))))))))))

-- one of the words begins with the name of an option
abbrev pub has_option : Text → List Text → Bool
has_option option [] = false
has_option option (word ∷ words) = starts_with nat_eq word option || has_option option words

-- one of the words is this one
abbrev pub has_word : Text → List Text → Bool
has_word wanted [] = false
has_word wanted (word ∷ words) = bytes_eq word wanted || has_word wanted words

-- a command that draws or that goes by steps, where its option is among the words
abbrev pub family_with : Text → List Text → Family
family_with first words =
    if bytes_eq first (codes "plan") && has_option (codes "--picture") words then PlanPicture else
    (if bytes_eq first (codes "picture") && has_option (codes "--ramp") words then PictureRamp else
    (if bytes_eq first (codes "apply") && has_option (codes "--step") words then (if has_option (codes "--keep") words then KeepStep else ApplyStep) else family_named first))

abbrev pub family_of : List Text → Family
family_of [] = Files
family_of (first ∷ words) = family_with first (first ∷ words)

-- a command that reads its words by itself, and not one over files alone
abbrev pub reads_its_words : Family → Bool
reads_its_words Files = false
reads_its_words Serve = true
reads_its_words Follow = true
reads_its_words Ramp = true
reads_its_words VerifyRamp = true
reads_its_words Picture = true
reads_its_words PictureRamp = true
reads_its_words PlanPicture = true
reads_its_words ApplyStep = true
reads_its_words KeepStep = true
reads_its_words Ofrep = true
reads_its_words Record = true
reads_its_words Tally = true
reads_its_words Join = true
reads_its_words Book = true
reads_its_words Check = true
reads_its_words Compare = true

-- the name of such a command, where the words ask for its help by `help NAME`
abbrev pub help_for : List Text → Option Text
help_for [] = None
help_for (first ∷ []) = None
help_for (first ∷ (name ∷ [])) = if bytes_eq first (codes "help") && reads_its_words (family_named name) then Some name else None
help_for (first ∷ (name ∷ (more ∷ words))) = None

abbrev pub helped_by : Option Text → List Text → List Text
helped_by None words = words
helped_by (Some name) words = name ∷ codes "--help" ∷ []

-- `help NAME` of such a command is `NAME --help`; all other words are as they are
abbrev pub helped : List Text → List Text
helped words = helped_by (help_for words) words

-- `plan`, of which words beside the plan are not asked
abbrev pub is_plan : List Text → Bool
is_plan [] = false
is_plan (first ∷ words) = bytes_eq first (codes "plan") && not (has_word (codes "--explain") (first ∷ words))

-- at a terminal `plan` is asked for words beside the plan
abbrev pub explained : Bool → List Text → List Text
explained is_terminal words = if is_terminal && is_plan words then insert words 1 (codes "--explain") else words
