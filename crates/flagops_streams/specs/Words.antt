-- What the words of `serve` and `follow` ask for, by what `clap` reads of them.
use Rattle.std.specs.Prelude.{ℕ, Bool, List, codes, map, Option, Some}
use Rattle.clap.specs.Kinds.{Kinds}
use Rattle.clap.specs.Simple.{App, new_app, with_rule}
use Rattle.clap.specs.Walk.{Row, Rule, Text, first_of}
use Rattle.flagops_words.specs.Alone.{asked_in, faults_in}
use Rattle.flagops_words.specs.Numbers.{max_port}
use Rattle.flagops_words.specs.Words.{◌>>=◌, floats_flag, has_floats, number_at, number_or, number_within, option_number, some_words, texts_at}
use Rattle.flagops_streams.specs.declared.asked.Following as code_follow
use Rattle.flagops_streams.specs.declared.asked.Serving as code_serve

-- documents, by their paths, for so many subscribers on a port, each within so many seconds, 0 for ever, and whether they may have floats
pub record Serving : Type 0 where
  pub port : ℕ
  pub subscribers : ℕ
  pub wait : ℕ
  pub documents : List Text
  pub floats : Bool

-- so many turns of the stream on a port, none of which waits longer than so many seconds, 0 for ever
pub record Following : Type 0 where
  pub port : ℕ
  pub turns : ℕ
  pub wait : ℕ

abbrev pub serving_view : code_serve.Serving → Serving
serving_view s = record { port = s.port; subscribers = s.subscribers; wait = s.wait; documents = map (λ d. d.now) s.documents.items; floats = s.floats }

abbrev pub following_view : code_follow.Following → Following
following_view f = record { port = f.port; turns = f.turns; wait = f.wait }

-- ---- what the commands take

abbrev pub max_subscribers : ℕ
max_subscribers = 64

abbrev pub max_turns : ℕ
max_turns = 1000000

-- a day, in seconds
abbrev pub max_wait : ℕ
max_wait = 86400

-- `--wait SECONDS`
abbrev pub wait_option : Rule
wait_option = option_number (codes "SECONDS") (codes "wait") 0 max_wait

-- `serve PORT SUBSCRIBERS DOC..`: the words that have to be there
unfoldable pub serve_begun : App
serve_begun =
    with_rule (with_rule (with_rule (new_app (codes "serve")) (number_within (codes "PORT") 1 max_port)) (number_within (codes "SUBSCRIBERS") 1 max_subscribers)) (some_words (codes "DOC"))

-- the same with `--wait SECONDS` and `--floats`
unfoldable pub serve_app : App
serve_app = with_rule (with_rule serve_begun wait_option) floats_flag

-- `follow PORT TURNS`, with `--wait SECONDS`
unfoldable pub follow_app : App
follow_app = with_rule (with_rule (with_rule (new_app (codes "follow")) (number_within (codes "PORT") 1 max_port)) (number_within (codes "TURNS") 1 max_turns)) wait_option

-- ---- what the words ask for

-- 0 where no seconds are given
abbrev pub wait_in : List Row → Option ℕ
wait_in rows = number_or 0 0 max_wait (first_of (codes "SECONDS") rows)

abbrev pub serving_in : List Row → Option Serving
serving_in rows = do
  port ← number_at (codes "PORT") 1 max_port rows
  subscribers ← number_at (codes "SUBSCRIBERS") 1 max_subscribers rows
  wait ← wait_in rows
  documents ← texts_at (codes "DOC") rows
  Some (record { port = port; subscribers = subscribers; wait = wait; documents = documents; floats = has_floats rows })

abbrev pub following_in : List Row → Option Following
following_in rows = do
  port ← number_at (codes "PORT") 1 max_port rows
  turns ← number_at (codes "TURNS") 1 max_turns rows
  wait ← wait_in rows
  Some (record { port = port; turns = turns; wait = wait })

unfoldable pub serve_faults : List Text → Kinds
serve_faults = faults_in serve_app serving_in

unfoldable pub serve_by : List Text → Option Serving
serve_by = asked_in serve_app serving_in

unfoldable pub follow_faults : List Text → Kinds
follow_faults = faults_in follow_app following_in

unfoldable pub follow_by : List Text → Option Following
follow_by = asked_in follow_app following_in
