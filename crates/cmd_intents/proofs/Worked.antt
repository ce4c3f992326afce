-- Files worked out: what reading short texts answers.
use Rattle.std.proofs.Common.{◌≡◌, ℕ, List, [], ◌∷◌, ◌++◌, Ok, Err, codes, refl, true}
use Rattle.std.specs.Str.{chars, is_utf8}
use Rattle.cmd_schedule.specs.Reading.{Piece, read_account, read_catchup, read_device, read_heading, read_message, read_mode, read_say, read_two, read_version, read_words}
use Rattle.cmd_schedule.specs.WireReading.{read_common, read_moves, read_wire_line, read_wire_words, reading}
use Rattle.cmd_schedule.specs.declared.fault.LineWhy.TheVariants as why
use Rattle.cmd_schedule.specs.declared.fault.ScheduleFault.TheVariants.{BadLine}
use Rattle.cmd_schedule.specs.declared.schedule.Step.TheVariants.{Account, Device, Say, Catchup}
use Rattle.cmd_schedule.specs.declared.schedule.Version.TheVariants.{Two}
use Rattle.cmd_schedule.specs.declared.schedule.WireStep.TheVariants.{Common}
use Rattle.cmd_intents.specs.Files.{beyond, reading_intents, within}

-- a text of one line, and one of two
abbrev one : List ℕ → List ℕ
one line = line ++ 10 ∷ []

abbrev two : List ℕ → List ℕ → List ℕ
two first second = first ++ 10 ∷ second ++ 10 ∷ []

abbrev heading : List ℕ
heading = codes "xmpp-intents 1 7"

good_file : reading_intents (one (codes "xmpp-intents 1 7") ++ two (codes "account ann") (codes "device pad ann") ++ two (codes "intent pad ann hi") (codes "resolve pad 3"))
    ≡ Ok (record {
      schedule = record {
        version = Two 7;
        lines = record { number = 2; step = Common (Account (codes "ann")) }
            ∷ record { number = 3; step = Common (Device (codes "pad") (codes "ann")) }
            ∷ record { number = 4; step = Common (Say (codes "pad") (codes "ann") (codes "hi")) }
            ∷ record { number = 5; step = Common (Catchup (codes "pad") 3) } ∷ [];
      };
      intents = 4 ∷ [];
      resolves = 5 ∷ [];
    })
unfolding reading_intents reading read_heading read_version read_two read_mode read_wire_line read_wire_words read_moves read_common read_words read_account read_device read_say read_message read_catchup is_utf8 chars lib.Utf8.encode
good_file = refl

empty_text : reading_intents [] ≡ Err (BadLine 1 why.Header)
unfolding reading_intents is_utf8 chars lib.Utf8.encode
empty_text = refl

schedule_heading : reading_intents (one (codes "xmpp-schedule 2 wire 7")) ≡ Err (BadLine 1 why.Header)
unfolding reading_intents is_utf8 chars lib.Utf8.encode
schedule_heading = refl

other_version : reading_intents (one (codes "xmpp-intents 2 7")) ≡ Err (BadLine 1 why.Header)
unfolding reading_intents is_utf8 chars lib.Utf8.encode
other_version = refl

keeps_nothing : reading_intents (one (codes "xmpp-intents 1 0")) ≡ Err (BadLine 1 why.Header)
unfolding reading_intents reading read_heading read_version read_two read_mode is_utf8 chars lib.Utf8.encode
keeps_nothing = refl

no_keep : reading_intents (one (codes "xmpp-intents 1")) ≡ Err (BadLine 1 why.Header)
unfolding reading_intents reading read_heading read_version read_two read_mode is_utf8 chars lib.Utf8.encode
no_keep = refl

unended_heading : reading_intents heading ≡ Err (BadLine 1 why.Ending)
unfolding reading_intents reading read_heading read_version read_two read_mode is_utf8 chars lib.Utf8.encode
unended_heading = refl

bare_intent : reading_intents (two heading (codes "intent")) ≡ Err (BadLine 2 why.Shape)
unfolding reading_intents reading read_heading read_version read_two read_mode read_wire_line read_wire_words read_moves read_common read_words read_say read_message is_utf8 chars lib.Utf8.encode
bare_intent = refl

unknown_device : reading_intents (two heading (codes "resolve pad 3")) ≡ Err (BadLine 2 why.Unknown)
unfolding reading_intents reading read_heading read_version read_two read_mode read_wire_line read_wire_words read_moves read_common read_words read_catchup is_utf8 chars lib.Utf8.encode
unknown_device = refl

other_word : reading_intents (two heading (codes "intents pad ann hi")) ≡ Err (BadLine 2 why.Word)
unfolding reading_intents reading read_heading read_version read_two read_mode read_wire_line read_wire_words read_moves read_common read_words is_utf8 chars lib.Utf8.encode
other_word = refl

-- the bound
abbrev an_intent : Piece
an_intent = record { bytes = codes "intent pad ann hi"; ended = true }

abbrev a_resolve : Piece
a_resolve = record { bytes = codes "resolve pad 3"; ended = true }

last_intent : within 999 1000 (an_intent ∷ an_intent ∷ []) ≡ an_intent ∷ []
unfolding is_utf8 chars lib.Utf8.encode
last_intent = refl

too_many : beyond 999 1000 (an_intent ∷ an_intent ∷ a_resolve ∷ []) ≡ an_intent ∷ a_resolve ∷ []
unfolding is_utf8 chars lib.Utf8.encode
too_many = refl

too_many_resolves : beyond 0 1000 (an_intent ∷ a_resolve ∷ []) ≡ a_resolve ∷ []
unfolding is_utf8 chars lib.Utf8.encode
too_many_resolves = refl
