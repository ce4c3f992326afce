-- Files worked out: what reading short texts answers.
use Rattle.std.proofs.Common.{◌≡◌, ◌&&◌, ℕ, leb, ltb, List, [], ◌∷◌, ◌++◌, Ok, Err, codes, true, refl}
use Rattle.std.proofs.lemmas.Str.{is_utf8-from_IsUtf8}
use Rattle.std.specs.List.{list_all}
use Rattle.std.specs.Str.{is_utf8}
use Rattle.cmd_restarts.specs.Files.{reading_restarts}
use Rattle.cmd_schedule.proofs.Again.{plain_from_all}
use Rattle.cmd_schedule.specs.Reading.{read_account, read_heading, read_mode, read_tick, read_two, read_version, read_words}
use Rattle.cmd_schedule.specs.WireReading.{read_common, read_moves, read_wire_line, read_wire_words, reading}
use Rattle.cmd_schedule.specs.declared.fault.LineWhy.TheVariants as why
use Rattle.cmd_schedule.specs.declared.fault.ScheduleFault.TheVariants.{BadLine}
use Rattle.cmd_schedule.specs.declared.schedule.Step.TheVariants.{Account, Tick}
use Rattle.cmd_schedule.specs.declared.schedule.Version.TheVariants.{Two}
use Rattle.cmd_schedule.specs.declared.schedule.WireStep.TheVariants.{Common}

-- a line of letters, digits and spaces
spelled : (line : List ℕ) → list_all (λ c. leb 32 c && ltb c 128) line ≡ true → is_utf8 line ≡ true
spelled line plain = is_utf8-from_IsUtf8 line (plain_from_all line plain).spelled

-- a text of one line, and one of two
abbrev one : List ℕ → List ℕ
one line = line ++ 10 ∷ []

abbrev two : List ℕ → List ℕ → List ℕ
two first second = first ++ 10 ∷ second ++ 10 ∷ []

abbrev heading : List ℕ
heading = codes "xmpp-restarts 1 7"

-- a line `tick 300000` is no restart
good_file : reading_restarts (two heading (codes "restart") ++ two (codes "account ann") (codes "tick 300000"))
    ≡ Ok (record {
      schedule = record {
        version = Two 7;
        lines = record { number = 2; step = Common (Tick 300000) }
            ∷ record { number = 3; step = Common (Account (codes "ann")) }
            ∷ record { number = 4; step = Common (Tick 300000) } ∷ [];
      };
      restarts = 2 ∷ [];
    })
unfolding reading_restarts reading read_heading read_version read_two read_mode read_wire_line read_wire_words read_moves read_common read_words read_account read_tick
good_file =
    rw (spelled (codes "xmpp-restarts 1 7") refl, spelled (codes "xmpp-schedule 2 wire 7") refl, spelled (codes "tick 300000") refl, spelled (codes "account ann") refl) refl

empty_text : reading_restarts [] ≡ Err (BadLine 1 why.Header)
unfolding reading_restarts
empty_text = refl

schedule_heading : reading_restarts (one (codes "xmpp-schedule 2 wire 7")) ≡ Err (BadLine 1 why.Header)
unfolding reading_restarts
schedule_heading = rw (spelled (codes "xmpp-schedule 2 wire 7") refl) refl

other_version : reading_restarts (one (codes "xmpp-restarts 2 7")) ≡ Err (BadLine 1 why.Header)
unfolding reading_restarts
other_version = rw (spelled (codes "xmpp-restarts 2 7") refl) refl

keeps_nothing : reading_restarts (one (codes "xmpp-restarts 1 0")) ≡ Err (BadLine 1 why.Header)
unfolding reading_restarts reading read_heading read_version read_two read_mode
keeps_nothing = rw (spelled (codes "xmpp-restarts 1 0") refl, spelled (codes "xmpp-schedule 2 wire 0") refl) refl

unended_heading : reading_restarts heading ≡ Err (BadLine 1 why.Ending)
unfolding reading_restarts reading read_heading read_version read_two read_mode
unended_heading = rw (spelled (codes "xmpp-restarts 1 7") refl, spelled (codes "xmpp-schedule 2 wire 7") refl) refl

-- a restart has no fields
with_a_field : reading_restarts (two heading (codes "restart 1")) ≡ Err (BadLine 2 why.Word)
unfolding reading_restarts reading read_heading read_version read_two read_mode read_wire_line read_wire_words read_moves read_common read_words
with_a_field = rw (spelled (codes "xmpp-restarts 1 7") refl, spelled (codes "xmpp-schedule 2 wire 7") refl, spelled (codes "restart 1") refl) refl
