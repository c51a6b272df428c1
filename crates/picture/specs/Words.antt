-- The words of a picture, the titles of its page, and the classes of its texts.
use Rattle.std.specs.Prelude.{ℕ, List, codes}
use Rattle.picture.specs.declared.words.Style.{Style}
use Rattle.picture.specs.declared.words.Style.TheVariants as style
use Rattle.picture.specs.declared.words.Title.{Title}
use Rattle.picture.specs.declared.words.Title.TheVariants as title
use Rattle.picture.specs.declared.words.Word.{Word}
use Rattle.picture.specs.declared.words.Word.TheVariants as word

abbrev pub text_of : Word → List ℕ
text_of word.Step = codes "Step"
text_of word.Cost = codes "Cost"
text_of word.Least = codes "No rule that keeps the limits costs less."
text_of word.Points = codes "Points"
text_of word.Before = codes "Before"
text_of word.After = codes "After"
text_of word.Variant = codes "Variant"
text_of word.AtLeast = codes "At least"
text_of word.AtMost = codes "At most"
text_of word.DualPrice = codes "Dual price"
text_of word.From = codes "From"
text_of word.To = codes "To"
text_of word.Users = codes "Users"
text_of word.Price = codes "Price"
text_of word.NotAllowed = codes "not allowed"
text_of word.NoRule = codes "No rule keeps the limits."
text_of word.Over = codes "Their points are more than all that they may become can take:"
text_of word.Under = codes "They need more points than have or may take one of them:"
text_of word.Site = codes "Site"
text_of word.Inputs = codes "Inputs"
text_of word.Switched = codes "Switch"
text_of word.NoPage = codes "No page was compared."

abbrev pub title_of : Title → List ℕ
title_of title.Rollout = codes "Rollout"
title_of title.Edit = codes "What an edit changes"

abbrev pub class_of : Style → List ℕ
class_of style.Title = codes "t"
class_of style.Heading = codes "h"
class_of style.Row = codes "r"
class_of style.Value = codes "v"
